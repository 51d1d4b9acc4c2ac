-- Definitions of how things are kept. Only private contracts and proofs cite them: what is promised
-- can be read without them.
pub mod Contents
pub mod Groups
pub mod MadeRuns
pub mod Stops
pub mod Tracing
pub mod Views
