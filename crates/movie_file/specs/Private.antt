-- Definitions of how things are done. Only private contracts and proofs cite them: what is promised
-- can be read without them.
pub mod MakingSteps
pub mod MovieParts
