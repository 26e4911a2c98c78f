-- The definitions that more than one crate cites.
pub mod First
pub mod Placed
