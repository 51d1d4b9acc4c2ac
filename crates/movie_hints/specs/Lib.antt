pub mod Looks
pub mod Places
pub mod Private
pub mod Words
pub mod Fits
pub mod Hints
pub mod Counts
pub mod HintTexts
