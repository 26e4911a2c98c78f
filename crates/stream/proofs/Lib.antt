-- The laws that the proofs cite.
pub mod Zeros
pub mod Records
pub mod Whole
pub mod Parts
pub mod Calls
pub mod Accepts
pub mod Cuttings
pub mod Packed
pub mod Told
