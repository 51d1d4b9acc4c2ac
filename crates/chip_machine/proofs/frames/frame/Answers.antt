use Rattle.std.proofs.Common.{◌≡◌, true, false, refl, take, rules}
use Rattle.chip_machine.proofs.FrameOutcomes.{failed, failed-unseen, played, played-rows, plays}
use Rattle.chip_machine.proofs.frames.frame.Goals as goal

pub returns-in-Ok-clause-ok : goal.returns-in-Ok-clause-ok
returns-in-Ok-clause-ok c =
    let cart = c.args.cart.now in
    let state = c.args.state.now in
    let after = c.frame_onto.new.state in
    let cycles = c.in-Ok.played.cycles in
    let rows = c.in-Ok.played.rows in
    let unseen = plays cart state c.args.input after c.in-Ok.played.sink cycles rows c.in-Ok.ensures.ok in
    let no : c.args.keep ≡ false = search rules in (
      take rows unseen.0,
      played cart state c.args.input after unseen.0 cycles rows unseen.1,
      played-rows cart state c.args.input after unseen.0 cycles rows unseen.1,
      rw no refl,
    )

pub returns-in-Err-clause-err : goal.returns-in-Err-clause-err
returns-in-Err-clause-err c = failed-unseen c.args.cart.now c.args.state.now c.args.input c.in-Err.kind c.in-Err.ensures.err

pub returns-in-Ok-frame_onto-clause-ok : goal.returns-in-Ok-frame_onto-clause-ok
returns-in-Ok-frame_onto-clause-ok c =
    let cart = c.args.cart.now in
    let state = c.args.state.now in
    let after = c.frame_onto-2.new.state in
    let sink = c.in-Ok-frame_onto.played.sink in
    let cycles = c.in-Ok-frame_onto.played.cycles in
    let rows = c.in-Ok-frame_onto.played.rows in
    let drawn = rw c.in-Ok-blank.ensures at c.in-Ok-frame_onto.ensures.ok in
    let yes : c.args.keep ≡ true = search rules in (
      take rows sink,
      played cart state c.args.input after sink cycles rows drawn,
      played-rows cart state c.args.input after sink cycles rows drawn,
      rw (c.cut.ensures, yes) refl,
    )

pub returns-in-Err-frame_onto-clause-err : goal.returns-in-Err-frame_onto-clause-err
returns-in-Err-frame_onto-clause-err c =
    failed c.args.cart.now c.args.state.now c.args.input c.in-Err-frame_onto.kind (rw c.in-Ok-blank.ensures at c.in-Err-frame_onto.ensures.err)
