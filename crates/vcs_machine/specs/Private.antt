-- Definitions of how things are kept. Only private contracts and proofs cite them: what is promised
-- can be read without them.
pub mod BeamCycles
pub mod FollowedBuses
pub mod Lag
pub mod Logged
pub mod NextBytes
pub mod Polls
pub mod Rows
