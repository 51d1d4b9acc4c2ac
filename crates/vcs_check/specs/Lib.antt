pub mod Failures
pub mod Commands
pub mod Lines
pub mod Endings
pub mod Reasons
pub mod Private
pub mod ErrorObjects
