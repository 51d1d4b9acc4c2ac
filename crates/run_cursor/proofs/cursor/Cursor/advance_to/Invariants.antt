use Rattle.run_cursor.specs.Cursor.{IsAt}
use Rattle.run_cursor.proofs.cursor.Cursor.advance_to.Given as goal

abbrev pub invariant-loop-before : goal.invariant-loop-before
invariant-loop-before g l = IsAt l.fn.self.movie l.before l.self
