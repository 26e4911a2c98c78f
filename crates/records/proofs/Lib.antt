-- The laws that the proofs cite.
pub mod Coded
pub mod RoundTrip
pub mod Calls
pub mod Answers
pub mod Loop
pub mod Cases
pub mod Unique
