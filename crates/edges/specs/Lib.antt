pub mod Kind
pub mod Tally
pub mod Words
