pub mod CursorLemmas
pub mod RunStates
