pub mod Bits
pub mod Cart
pub mod Place
pub mod Ports
pub mod Private
pub mod Riot
pub mod RiotFields
pub mod Timer
