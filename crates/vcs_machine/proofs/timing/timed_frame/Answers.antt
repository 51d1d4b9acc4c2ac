use Rattle.std.proofs.Common.{◌≡◌, ◌≤◌, ◌∙◌, [], arith, refl}
use Rattle.vcs_machine.specs.Consoles.{with_pixel_logged}
use Rattle.vcs_machine.specs.Pictures.{picture_of, rows_of}
use Rattle.vcs_machine.specs.States.{line_cycle_of}
use Rattle.vcs_machine.proofs.FrameOutcomes.{failed, picture, played, played-cycles, played-rows, stop-way}
use Rattle.vcs_machine.proofs.PictureTable.{take-painted}
use Rattle.vcs_machine.proofs.timing.timed_frame.Goals as goal

pub returns-in-Ok-clause-ok : goal.returns-in-Ok-clause-ok
returns-in-Ok-clause-ok c =
    let s = c.args.state.now in
    let p = c.in-Ok.ensures.ok in (
      picture _ c.args.cart.now s _ c.args.input _ _ c.in-Ok.cycles p,
      played _ c.args.cart.now s _ c.args.input _ _ _ p,
      (rw c.line_cycle-line_cycle.ensures.value at c.rows.ensures) ∙ played-rows _ c.args.cart.now s _ c.args.input _ _ _ p,
      rw c.if-not-keep.true refl,
    )

pub returns-in-Ok-clause-cycles : goal.returns-in-Ok-clause-cycles
returns-in-Ok-clause-cycles c = played-cycles _ c.args.cart.now c.args.state.now _ c.args.input _ _ c.in-Ok.cycles c.in-Ok.ensures.ok

pub returns-in-Err-clause-err : goal.returns-in-Err-clause-err
returns-in-Err-clause-err c = failed c.args.cart.now c.args.state.now _ c.args.input c.in-Err.halt.kind c.in-Err.halt.cycles c.in-Err.ensures.err

pub returns-in-Ok-frame_onto-clause-ok : goal.returns-in-Ok-frame_onto-clause-ok
returns-in-Ok-frame_onto-clause-ok c =
    let s = c.args.state.now in
    let cycles = c.in-Ok-frame_onto.cycles in
    let p = c.in-Ok-frame_onto.ensures.ok in
    let counted : c.rows-rows.result ≡ rows_of (line_cycle_of s) cycles = rw c.line_cycle-line_cycle.ensures.value at c.rows-rows.ensures in
    let way = rw p.1 at (stop-way with_pixel_logged c.args.cart.now s c.args.input [] c.line_cycle-line_cycle.ensures.lawful) in
    let few : rows_of (line_cycle_of s) cycles ≤ 322 = (let room = way.room in rw (← p.4) (omega arith)) in
    let kept : c.cut.result ≡ picture_of (rows_of (line_cycle_of s) cycles) p.0.bus.sink =
    c.cut.ensures
    ∙ rw (counted, ← p.3, c.in-Ok-blank.ensures) (take-painted (rows_of (line_cycle_of s) cycles) 322 p.0.bus.sink few) in (
      picture _ c.args.cart.now s _ c.args.input _ _ cycles p,
      played _ c.args.cart.now s _ c.args.input _ _ _ p,
      counted ∙ played-rows _ c.args.cart.now s _ c.args.input _ _ _ p,
      rw (c.if-not-keep.false, kept) refl,
    )

pub returns-in-Ok-frame_onto-clause-cycles : goal.returns-in-Ok-frame_onto-clause-cycles
returns-in-Ok-frame_onto-clause-cycles c = played-cycles _ c.args.cart.now c.args.state.now _
    c.args.input _ _ c.in-Ok-frame_onto.cycles c.in-Ok-frame_onto.ensures.ok

pub returns-in-Err-frame_onto-clause-err : goal.returns-in-Err-frame_onto-clause-err
returns-in-Err-frame_onto-clause-err c = failed c.args.cart.now c.args.state.now _ c.args.input
    c.in-Err-frame_onto.halt.kind c.in-Err-frame_onto.halt.cycles c.in-Err-frame_onto.ensures.err
