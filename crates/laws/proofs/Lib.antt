-- The laws that more than one crate cites.
pub mod Tests
pub mod Order
pub mod First
pub mod Table
pub mod Held
pub mod Wrap
pub mod Placed
pub mod Lent
