use Rattle.std.proofs.Common.{◌≡◌, ◌<◌, find, None}
use Rattle.run_cursor.specs.Cursor.{IsAt}
use Rattle.movie_report.specs.InputTrials.{leads_to, trials_after, trials_at}
use Rattle.movie_report.proofs.input_trials.first_found.Given as goal

abbrev pub invariant-loop-before : goal.invariant-loop-before
invariant-loop-before g l = record {
  at : IsAt l.fn.cursor.movie l.before l.cursor;
  none : l.first < l.before → find (leads_to l.fn.cursor.movie l.claimed) (trials_at l.last l.before) ≡ None;
  later : find (leads_to l.fn.cursor.movie l.claimed) (trials_after l.last l.before)
      ≡ find (leads_to l.fn.cursor.movie l.claimed) (trials_after l.last l.first);
}
