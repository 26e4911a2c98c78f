-- The definitions that the contracts cite, and document 01's sentences about them.
pub mod Gather
pub mod Meaning
pub mod Run
pub mod Stages
pub mod Stored
