pub mod Carts
pub mod Instructions
pub mod Outcomes
pub mod Private
pub mod States
