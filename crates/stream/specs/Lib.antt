-- The definitions that the contracts cite, and those of the theorem over all cuttings.
pub mod Stream
pub mod Packed
pub mod Cuttings
