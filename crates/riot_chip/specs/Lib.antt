pub mod Riot
pub mod Timer
