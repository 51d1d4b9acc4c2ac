use Rattle.std.proofs.Common.{refl, map}
use Rattle.std.proofs.lemmas.Cmp.{nat_eq_equiv}
use Rattle.std.proofs.lemmas.Map.Made.{IsDistinct-from_count}
use Rattle.mos_cpu.specs.Opcodes.{entries}
use Rattle.mos_cpu.proofs.laws.law_of_opcodes.Goals as goal

pub returns-clause-once : goal.returns-clause-once
returns-clause-once c = IsDistinct-from_count nat_eq_equiv (map (λ entry. entry.0) entries) refl
