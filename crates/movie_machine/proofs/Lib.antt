pub mod CartLemmas
pub mod FrameLemmas
pub mod StepLemmas
