use Rattle.std.proofs.Common.{◌∙◌, ap, bit_and}
use Rattle.std.specs.Int.Bits.{and_self}
use Rattle.std.proofs.lemmas.Nat.{and_assoc}
use Rattle.tia_core.specs.Registers.{mask_of}
use Rattle.tia_core.proofs.register.Register.keep.Goals as goal

pub returns-clause-kept : goal.returns-clause-kept
returns-clause-kept c =
    let m = mask_of c.args.self in
    rw c.mask.ensures (and_assoc m c.args.value m ∙ ap (bit_and c.args.value) (and_self m))
