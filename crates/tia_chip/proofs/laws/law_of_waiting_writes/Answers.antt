use Rattle.tia_chip.proofs.WaitingLemmas.{hmove-acts, hmove-waits, write-acts, write-waits}
use Rattle.tia_chip.proofs.laws.law_of_waiting_writes.Goals as goal

pub returns : goal.returns
returns c = record { waits = write-waits; acts = write-acts; hmove_waits = hmove-waits; hmove_acts = hmove-acts }
