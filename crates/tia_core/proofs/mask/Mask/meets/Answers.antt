use Rattle.std.proofs.Common.{◌-◌, ◌&&◌, sym, arith}
use Rattle.tia_core.specs.Mask.{covers}
use Rattle.tia_core.proofs.MaskWordLemmas.{meets-is, any_from-none}
use Rattle.tia_core.proofs.mask.Mask.meets.Goals as goal

pub returns-then-from-to : goal.returns-then-from-to
returns-then-from-to c =
    meets-is c.meets_within.result (λ x. covers c.args.self.now x && covers c.args.other.now x) c.between.result c.args.from c.args.to
    c.requires c.between.ensures c.meets_within.ensures.some c.meets_within.ensures.none

pub returns-else-from-to : goal.returns-else-from-to
returns-else-from-to c = sym
    (any_from-none (λ x. covers c.args.self.now x && covers c.args.other.now x) c.args.from
    (c.args.to - c.args.from) (λ x p q. absurd (omega arith)))
