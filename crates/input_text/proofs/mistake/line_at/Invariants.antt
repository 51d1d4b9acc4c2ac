use Rattle.std.proofs.Common.{◌≡◌, ◌-◌}
use Rattle.std.specs.Prelude.{slice_get}
use Rattle.input_text.specs.Words.{lines_of}
use Rattle.input_text.proofs.GoodLines.{bytes_left, lines_left}
use Rattle.input_text.proofs.mistake.line_at.Given as goal

abbrev pub invariant-loop-rest : goal.invariant-loop-rest
invariant-loop-rest l = record {
  line : slice_get (lines_of l.text) (l.number - 1) ≡ slice_get (lines_left l.rest) l.before;
}

abbrev pub decreases-loop-rest : goal.decreases-loop-rest
decreases-loop-rest l = bytes_left l.rest
