pub mod StandingCheckpoints
