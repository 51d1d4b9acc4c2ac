use Rattle.tia_core.proofs.FieldLemmas.{iterate-clocked-lawful, written-lawful, frame_begun-lawful}
use Rattle.tia_core.proofs.LawfulNumbers.{lawful_of, passes}
use Rattle.tia_core.proofs.laws.law_of_lawful_numbers.Goals as goal

pub returns-clause-clocks : goal.returns-clause-clocks
returns-clause-clocks c n s h = passes _ (iterate-clocked-lawful n s (lawful_of s.fields h))

pub returns-clause-writes : goal.returns-clause-writes
returns-clause-writes c s number v h = passes _ (written-lawful s number v (lawful_of s.fields h))

pub returns-clause-frame_starts : goal.returns-clause-frame_starts
returns-clause-frame_starts c s h = passes _ (frame_begun-lawful s (lawful_of s.fields h))
