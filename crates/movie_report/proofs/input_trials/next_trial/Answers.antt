use Rattle.std.proofs.Common.{◌≡◌, ◌-◌, ◌<◌, length, slice_get, arith, sym}
use Rattle.movie_report.proofs.InputTrialLemmas.{none_alike}
use Rattle.movie_report.proofs.input_trials.next_trial.Goals as goal

pub returns-then-repeats-clause-trial : goal.returns-then-repeats-clause-trial
returns-then-repeats-clause-trial c =
    let m = c.args.cursor.now.movie in
    let frame = c.args.cursor.now.frame in
    let is : c.frame-frame.result ≡ frame = c.frame-frame.ensures.value in
    let same : slice_get m.inputs frame ≡ slice_get m.inputs (frame - 1) = rw (c.movie.ensures.value, is) at (c.repeats.ensures c.if-repeats.true) in
    let later : c.args.first < frame = omega arith in
    let less : frame < length m.inputs = omega arith in
    sym (none_alike m c.args.claimed.now c.args.last frame (omega arith) less same (c.requires.before later))
