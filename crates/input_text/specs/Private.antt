-- Definitions of how things are found. Only private contracts and proofs cite them: what is promised
-- can be read without them.
pub mod Ends
