-- Definitions of how things are kept. Only private contracts and proofs cite them: what is promised
-- can be read without them.
pub mod Lawful
pub mod MaskChanges
pub mod MaskWords
pub mod ObjectMasks
pub mod ObjectSets
pub mod StretchPairs
pub mod StretchPixels
pub mod Unchanged
pub mod Unseen
