use Rattle.std.proofs.Common.{◌/◌, ◌%◌, slice_index_or, refl}
use Rattle.std.proofs.lemmas.Nat.Bits.{shr_and_one}
use Rattle.tia_core.proofs.MaskWordLemmas.{covers-is}
use Rattle.tia_core.proofs.mask.Mask.covers.Goals as goal

pub returns : goal.returns
returns c =
    let words = c.self.inside.words in
    let x = c.args.x in
    rw (← c.self.view_is, covers-is words x c.requires, shr_and_one (slice_index_or words (x / 32) 0) (x % 32)) refl
