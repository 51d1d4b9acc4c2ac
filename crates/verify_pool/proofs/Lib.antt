pub mod CrewLemmas
pub mod NoMissingPieces
pub mod Sent
pub mod WorkerPieceLemmas
