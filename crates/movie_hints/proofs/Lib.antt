pub mod LeastLemmas
pub mod LengthLemmas
pub mod LengthTexts
pub mod TextLemmas
pub mod WordLemmas
