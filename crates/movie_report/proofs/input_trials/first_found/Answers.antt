use Rattle.std.proofs.Common.{◌≡◌, ◌+◌, Some, None, find, sym, ◌∙◌}
use Rattle.movie_report.specs.InputTrials.{leads_to, trials_at}
use Rattle.movie_report.proofs.InputTrialLemmas.{found_later, found_next}
use Rattle.movie_report.proofs.input_trials.first_found.Goals as goal

pub returns-in-Some-clause-trial : goal.returns-in-Some-clause-trial
returns-in-Some-clause-trial g c =
    let at = c.loop-before.invariant.at in
    let here : Some c.in-Some.trial ≡ find (leads_to c.args.cursor.movie c.args.claimed.now) (trials_at c.args.last (c.loop-before.before + 1)) =
    rw (at.movie_is, at.frame_is, c.in-Some.is) at c.in_ok-trial.ensures.trial in
    rw (← c.frame-first.ensures.value)
    (sym (found_next c.args.cursor.movie c.args.claimed.now c.args.last c.loop-before.before c.in-Some.trial c.loop-before-test.true here)
    ∙ c.loop-before.invariant.later)

pub loop-before-preserved : goal.loop-before-preserved
loop-before-preserved g c =
    let at = c.loop-before.invariant.at in
    let here : None ≡ find (leads_to c.args.cursor.movie c.args.claimed.now) (trials_at c.args.last (c.loop-before.before + 1)) =
    rw (at.movie_is, at.frame_is, c.in-None.is) at c.in_ok-trial.ensures.trial in
    record {
      at = rw (at.movie_is, at.frame_is) at c.in_ok-trial.ensures.at;
      none = λ less. sym here;
      later = sym (found_later c.args.cursor.movie c.args.claimed.now c.args.last c.loop-before.before c.loop-before-test.true here)
          ∙ c.loop-before.invariant.later;
    }
