pub mod Names
pub mod Words
pub mod Texts
pub mod Mistakes
pub mod Private
pub mod Stretches
