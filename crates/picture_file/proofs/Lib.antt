pub mod BytesWritten
pub mod DecimalDigits
