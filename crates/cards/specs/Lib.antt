pub mod Table
pub mod Accepts
