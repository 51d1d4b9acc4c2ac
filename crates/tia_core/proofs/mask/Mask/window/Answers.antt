use Rattle.std.proofs.Common.{◌∙◌, ◌+◌, arith}
use Rattle.tia_core.proofs.Windows.{window-bit}
use Rattle.tia_core.proofs.MaskWordLemmas.{covers-is}
use Rattle.tia_core.proofs.mask.Mask.window.Goals.{then-word-lt4, else-word-lt4}
use Rattle.tia_core.proofs.mask.Mask.window.Goals as goal

pub returns : goal.returns
returns c = λ k lt most.
    c.joined.ensures k lt
    ∙ rw (← c.self.view_is, covers-is c.self.inside.words (c.args.first + k) most)
    (window-bit c.self.inside.words c.if-word-lt4.next c.args.first k (λ h. elim c.if-word-lt4.branch [
      | then-word-lt4 w ↦ w.next-is
      | else-word-lt4 w ↦ omega (arith, w.next-is)
    ]) lt most)
