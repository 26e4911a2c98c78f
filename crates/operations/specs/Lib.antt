-- The definitions that the contracts cite.
pub mod Operations
pub mod Codes
pub mod Operands
