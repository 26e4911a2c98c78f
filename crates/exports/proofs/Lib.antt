-- Laws of the exported functions.
mod Kept
