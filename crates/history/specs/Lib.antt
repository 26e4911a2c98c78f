pub mod History
pub mod Redemption
