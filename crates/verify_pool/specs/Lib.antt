pub mod Crew
pub mod Private
pub mod WorkerPieces
pub use Rattle.segment_desk.specs.Desk
pub use Rattle.segment_desk.specs.Kept
pub use Rattle.segment_desk.specs.Views
