-- The laws behind the contracts.
pub mod Widest
pub mod Rules
