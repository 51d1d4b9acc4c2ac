use Rattle.tia_core.proofs.ClockLemmas.{iterate-clocked-clock, iterate-clocked-line}
use Rattle.tia_core.proofs.LawfulNumbers.{lawful_of}
use Rattle.tia_core.proofs.laws.law_of_the_beam.Goals as goal

pub returns-clause-range : goal.returns-clause-range
returns-clause-range c t h = (lawful_of t h).clock

pub returns-clause-clock : goal.returns-clause-clock
returns-clause-clock c n s h = iterate-clocked-clock n s (lawful_of s.fields h).clock

pub returns-clause-line : goal.returns-clause-line
returns-clause-line c n s h k = iterate-clocked-line n s (lawful_of s.fields h).clock k
