pub mod Steps
pub mod Interleaving
pub mod Examples
