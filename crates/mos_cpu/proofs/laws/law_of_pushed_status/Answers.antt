use Rattle.std.proofs.Common.{arith}
use Rattle.mos_cpu.proofs.StatusLemmas.{pushed_of-flags}
use Rattle.mos_cpu.proofs.laws.law_of_pushed_status.Goals as goal

pub returns-clause-set : goal.returns-clause-set
returns-clause-set c = λ p. omega arith

pub returns-clause-flags : goal.returns-clause-flags
returns-clause-flags c = λ flag p. pushed_of-flags flag p

pub returns-clause-pulled : goal.returns-clause-pulled
returns-clause-pulled c = λ p status. omega arith
