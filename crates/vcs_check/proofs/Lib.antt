pub mod Conclusions
pub mod FileParts
pub mod InputLemmas
pub mod LineLemmas
pub mod ObjectLemmas
