-- Definitions of how things are kept and done. Only private contracts and proofs cite them: what is
-- promised can be read without them.
pub mod AtHand
pub mod Classes
pub mod Fetches
pub mod Found
pub mod Held
pub mod Kinds
pub mod Rows
pub mod Steps
