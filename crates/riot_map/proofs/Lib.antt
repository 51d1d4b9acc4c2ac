pub mod CartLemmas
pub mod PortLemmas
pub mod RiotFieldLemmas
pub mod RiotLemmas
pub mod RiotNumbers
pub mod TimerLaws
pub mod TimerLemmas
