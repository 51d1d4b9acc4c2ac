pub mod Cursor
pub mod RunFaults
