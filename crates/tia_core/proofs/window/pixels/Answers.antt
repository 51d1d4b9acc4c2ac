use Rattle.std.proofs.Common.{◌∙◌, arith}
use Rattle.std.proofs.lemmas.Bool.Decides.{nat_tests}
use Rattle.std.proofs.lemmas.Nat.{one_shl}
use Rattle.tia_core.proofs.MaskWordLemmas.{stretch-bit}
use Rattle.tia_core.proofs.window.pixels.Goals as goal

pub returns : goal.returns
returns c = λ k. rw (one_shl c.args.count 64 (omega arith)) (stretch-bit 0 c.args.count k (omega arith) ∙ grind (arith, nat_tests))
