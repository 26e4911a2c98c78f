pub mod Log
pub mod Sums
pub mod Steps
