-- The laws that the proofs cite.
pub mod Layouts
pub mod Bytes
pub mod Loops
pub mod Parts
