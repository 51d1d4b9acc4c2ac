use Rattle.std.proofs.Common.{◌≡◌, ◌+◌, ◌-◌, Err, ap, arith}
use Rattle.refused.specs.declared.Refused.{Refused}
use Rattle.vcs_machine.specs.declared.fault.FaultKind.{FaultKind}
use Rattle.replay_segments.proofs.StepLemmas.{step-failed, step-played}
use Rattle.replay_segments.proofs.judge.movie_frame.Goals as goal

pub returns-in-Ok-clause-step : goal.returns-in-Ok-clause-step
returns-in-Ok-clause-step c =
    let same : c.args.before + 1 - 1 ≡ c.args.before = omega arith in
    let played = c.in-Ok.ensures.ok in
    step-played c.args.movie.now c.args.before c.args.state.now c.frame.new.state c.cart.result.now c.input.result c.args.keep c.cart.ensures
    (rw same at c.input.ensures) c.in-Ok.timed.picture played.0 c.in-Ok.timed.cycles played.1 played.3

pub returns-in-Err-clause-step : goal.returns-in-Err-clause-step
returns-in-Err-clause-step c =
    let same : c.args.before + 1 - 1 ≡ c.args.before = omega arith in
    step-failed c.args.movie.now c.args.before c.args.state.now c.frame.new.state c.cart.result.now c.input.result c.args.keep c.cart.ensures
    (rw same at c.input.ensures) c.in-Err.error c.in-Err.ensures.err (λ e. c.in-Err.ensures.memory (ap (λ (x : Refused FaultKind). Err x) e))
