pub mod FileErrors
