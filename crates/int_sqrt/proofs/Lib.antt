-- The laws behind the functions' proofs, each over the width.
pub mod Root
mod Karatsuba
mod Stage
mod Rule
mod Shift
mod Signed
