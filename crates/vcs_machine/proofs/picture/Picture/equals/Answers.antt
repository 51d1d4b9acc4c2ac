use Rattle.std.proofs.Common.{refl}
use Rattle.std.proofs.lemmas.Bool.Decides.{Decides-eqb}
use Rattle.std.proofs.lemmas.Slice.Eq.{slice_eq-Decides}
use Rattle.vcs_machine.proofs.picture.Picture.equals.Goals as goal

pub returns : goal.returns
returns c = rw (← c.self.view_is, ← c.other.view_is) (slice_eq-Decides (λ a b. slice_eq-Decides Decides-eqb a b _ refl) _ _ c.eq.result c.eq.ensures)
