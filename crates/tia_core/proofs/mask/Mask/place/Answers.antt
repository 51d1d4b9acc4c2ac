use Rattle.std.proofs.Common.{◌∙◌}
use Rattle.tia_core.proofs.MaskWordLemmas.{covers-is, word_bit-placed}
use Rattle.tia_core.proofs.mask.Mask.place.Goals as goal

pub returns : goal.returns
returns c = λ x h.
    covers-is _ x h
    ∙ rw (← c.self.view_is, covers-is c.self.inside.words x h)
    (word_bit-placed c.self.inside.words c.args.row c.args.at x c.self.told c.ranges.row.fits c.requires h)
