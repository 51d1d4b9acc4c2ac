use Rattle.std.proofs.Common.{◌∙◌, ◌-◌, ap, arith, ℕ}
use Rattle.std.proofs.lemmas.Nat.{one_shl}
use Rattle.tia_core.specs.Bits.{has_bit}
use Rattle.tia_core.proofs.Tables.{ones-is}
use Rattle.tia_core.proofs.row.missile_row.Goals as goal

pub returns-clause-value : goal.returns-clause-value
returns-clause-value c = λ d. ap (λ (n : ℕ). has_bit (n - 1) d) (one_shl c.args.size 32 (omega arith)) ∙ ones-is c.args.size d
