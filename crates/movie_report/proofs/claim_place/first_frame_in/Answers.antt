use Rattle.std.proofs.Common.{◌≡◌, ◌+◌, ◌<◌, length, arith}
use Rattle.run_cursor.specs.Cursor.{IsAt}
use Rattle.movie_report.proofs.ClaimPlaceLemmas.{at_the_end, next_frame, none_later}
use Rattle.movie_report.proofs.claim_place.first_frame_in.Goals as goal

pub returns-in-Err-Of-clause-frame : goal.returns-in-Err-Of-clause-frame
returns-in-Err-Of-clause-frame g c =
    let at = c.loop-before.invariant.at in
    let later = c.loop-before.invariant.later in
    let fault = rw (at.movie_is, at.frame_is, c.in-Err-Of.field-0-is) at c.in-Err-Of.ensures.err in
    let none = none_later c.args.movie.now c.args.state.now c.loop-before.before _ fault in
    cc

pub returns-clause-frame : goal.returns-clause-frame
returns-clause-frame g c =
    let ended : c.loop-before.before ≡ length c.args.movie.now.inputs = omega (arith, c.loop-before-test.false, c.loop-before.auto.before-end, c.frames-before-end.ensures.value) in
    let later = c.loop-before.invariant.later in
    let none = rw (← ended) at (at_the_end c.args.movie.now c.args.state.now) in
    cc

pub returns-then-have_one_record-clause-frame : goal.returns-then-have_one_record-clause-frame
returns-then-have_one_record-clause-frame g c =
    let before = c.loop-before.invariant in
    let less : c.loop-before.before < length c.args.movie.now.inputs = omega (arith, c.loop-before-test.true, c.frames-before-end.ensures.value) in
    let at : IsAt c.args.movie.now (c.loop-before.before + 1) c.advance.new.self = rw (before.at.movie_is, before.at.frame_is) at c.in-Ok.ensures.ok in
    let same = rw (c.if-have_one_record.true, c.cart.ensures, c.state.ensures.value) at c.have_one_record.ensures in
    let next = rw (← same) at (next_frame c.args.movie.now c.args.state.now c.advance.new.self.state c.loop-before.before less at.ran) in
    let later = before.later in
    cc

pub loop-before-preserved : goal.loop-before-preserved
loop-before-preserved g c =
    let before = c.loop-before.invariant in
    let less : c.loop-before.before < length c.args.movie.now.inputs = omega (arith, c.loop-before-test.true, c.frames-before-end.ensures.value) in
    let at : IsAt c.args.movie.now (c.loop-before.before + 1) c.advance.new.self = rw (before.at.movie_is, before.at.frame_is) at c.in-Ok.ensures.ok in
    let other = rw (c.if-have_one_record.false, c.cart.ensures, c.state.ensures.value) at c.have_one_record.ensures in
    let next = rw (← other) at (next_frame c.args.movie.now c.args.state.now c.advance.new.self.state c.loop-before.before less at.ran) in
    let later = before.later in
    record { at = at; later = cc }
