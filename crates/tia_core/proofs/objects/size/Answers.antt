use Rattle.std.proofs.Common.{◌/◌, ◌%◌, arith}
use Rattle.tia_core.proofs.MaskWordLemmas.{powers-order}
use Rattle.tia_core.proofs.objects.size.Goals as goal

pub returns-clause-range : goal.returns-clause-range
returns-clause-range c = let p = powers-order (c.args.register / 16 % 4) 3 (omega arith) in omega arith
