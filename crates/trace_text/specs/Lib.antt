pub mod Assembly
pub mod Columns
pub mod TraceLines
