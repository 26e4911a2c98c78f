-- The laws that the proofs cite.
pub mod Arms
pub mod Rows
pub mod Chains
pub mod Answered
pub mod Values
