-- The definitions that the contracts cite, and document 01's sentences about them.
pub mod Signed
pub mod Words
pub mod Accepts
