use Rattle.std.proofs.Common.{◌≡◌, ◌-◌}
use Rattle.vcs_machine.specs.Private.Rows.{with_pixels}
use Rattle.vcs_machine.proofs.picture.fill.Given as goal

abbrev pub invariant-loop-place : goal.invariant-loop-place
invariant-loop-place l = with_pixels l.row l.place (l.to - l.place) l.colour ≡ with_pixels l.fn.row l.from (l.to - l.from) l.colour
