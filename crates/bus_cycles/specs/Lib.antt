pub mod Addresses
pub mod Buses
pub mod Cycles
pub mod DataAccesses
pub mod Execution
pub mod Private
