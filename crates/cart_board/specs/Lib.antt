pub mod Access
pub mod Board
pub mod Boards
pub mod CartState
pub mod Known
pub mod Plain
pub mod Private
pub mod Record
