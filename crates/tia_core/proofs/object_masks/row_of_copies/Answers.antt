use Rattle.std.proofs.Common.{inl, inr}
use Rattle.std.proofs.lemmas.Bool.{cases_lt}
use Rattle.tia_core.proofs.Copies.{narrow-copies, wide-copies}
use Rattle.tia_core.proofs.object_masks.row_of_copies.Goals as goal

pub returns : goal.returns
returns c = λ x position p. rw c.from.ensures (elim (cases_lt c.args.row 256) [
  | inl narrow ↦ narrow-copies c.args.row x position p narrow c.args.mode c.requires.mode
  | inr wide ↦ wide-copies c.args.row x position p c.args.mode c.requires.mode (c.requires.narrow wide)
])
