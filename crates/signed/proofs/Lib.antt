-- Laws over the width, one file an idea.
pub mod ModZ
pub mod Range
pub mod Wrap
pub mod Strict
pub mod Rem
pub mod Next
pub mod Words
pub mod Accepts
