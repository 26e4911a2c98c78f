-- The laws behind the contracts.
pub mod Narrow
