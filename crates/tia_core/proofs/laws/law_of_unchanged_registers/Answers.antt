use Rattle.tia_core.proofs.ClockLemmas.{iterate-clocked-others}
use Rattle.tia_core.proofs.LawfulNumbers.{lawful_of}
use Rattle.tia_core.proofs.laws.law_of_unchanged_registers.Goals as goal

pub returns : goal.returns
returns c n s h = iterate-clocked-others n s (lawful_of s.fields h).clock
