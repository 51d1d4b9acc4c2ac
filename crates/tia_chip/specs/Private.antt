-- Definitions of how things are kept. Only private contracts and proofs cite them: what is promised
-- can be read without them.
pub mod Late
pub mod Lines
pub mod Owed
pub mod Ranges
