-- Definitions of how things are kept. Only private contracts and proofs cite them: what is promised
-- can be read without them.
pub mod Elements
pub mod FirstSigns
pub mod FoundSigns
pub mod Places
pub mod Standing
