-- Definitions of how things are kept. Only private contracts and proofs cite them: what is promised
-- can be read without them.
pub mod AtHand
pub mod Events
pub mod Lag
pub mod Polls
