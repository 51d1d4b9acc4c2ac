use Rattle.std.proofs.Common.{arith, inl, inr}
use Rattle.vcs_check.proofs.Conclusions.{failed, settled}
use Rattle.vcs_check.proofs.conclude.Goals as goal

pub returns-in-Ok-settle : goal.returns-in-Ok-settle
returns-in-Ok-settle g c = settled c.args.line.now _ _ _ c.in-Ok.answered _ c.in-Ok.is (inl (cc)) c.settle.ensures

pub returns-in-Ok : goal.returns-in-Ok
returns-in-Ok g c =
    settled c.args.line.now _ _ _ c.in-Ok.answered _ c.in-Ok.is (inr (grind (arith, c.report.ensures, c.not_written.ensures))) c.settle.ensures

pub returns : goal.returns
returns g c =
    let e = c.of_streams-failure.ensures in
    failed c.args.line.now _ _ _ c.in-Err.failure c.of_streams-failure.result e.0 e.1 e.2 _ c.in-Err.is e.6
    (grind (arith, c.report-in-Err.ensures)) c.say_error.ensures.object c.say_error.ensures.none c.say_error.ensures.not_for_it
