use Rattle.vcs_machine.proofs.FrameOutcomes.{failed, picture, played}
use Rattle.vcs_machine.proofs.frames.halt.Goals as goal

pub returns-in-Ok-clause-ended : goal.returns-in-Ok-clause-ended
returns-in-Ok-clause-ended c =
    let p = c.in-Ok.ensures.ok in
    (picture _ c.args.cart.now c.args.state.now _ c.args.input _ _ _ p, played _ c.args.cart.now c.args.state.now _ c.args.input _ _ _ p)

pub returns-in-Err-clause-failed : goal.returns-in-Err-clause-failed
returns-in-Err-clause-failed c = failed c.args.cart.now c.args.state.now _ c.args.input _ _ c.in-Err.ensures.err
