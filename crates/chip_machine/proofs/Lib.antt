mod AlongBuses
mod AtHandLemmas
mod ByteLemmas
mod CartLemmas
mod CycleLemmas
mod FrameOutcomes
mod GrowthLemmas
mod LagLemmas
mod LoggedLemmas
mod PollLemmas
pub mod RecordLaws
mod RecordParts
mod RowLemmas
mod SettledConsole
mod SettledFrame
mod SettledRows
mod SettledTia
mod SinkLemmas
mod StateLemmas
pub mod StopLemmas
mod TiaNumberLemmas
mod TurnLemmas
