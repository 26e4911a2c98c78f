-- The laws, over the width: bits and counts; what gather and scatter are, and their laws; then the stages of the code.
pub mod Bit
pub mod Count
pub mod Recursion
pub mod Meaning
pub mod Laws
pub mod Run
pub mod Edges
pub mod Stored
pub mod Width
pub mod Masks
pub mod Preparing
pub mod Places
pub mod Extract
pub mod Deposit
