pub mod Wide
pub mod Accepts
pub mod Changes
pub mod Once
