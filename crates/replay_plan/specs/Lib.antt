pub mod Keeping
pub mod Limits
