pub mod Names
pub mod Progress
