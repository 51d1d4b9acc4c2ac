use Rattle.std.proofs.Common.{◌≡◌, ◌<◌, ◌≤◌, ◌∙◌, ◌+◌, ◌*◌, sym, ap, arith}
use Rattle.mos_cpu.specs.Registers.{Registers}
use Rattle.chip_machine.specs.Frame.{overlong_cycles}
use Rattle.chip_machine.specs.Private.Polls.{after_reader}
use Rattle.chip_machine.proofs.PollLemmas.{rounds-left}
use Rattle.chip_machine.proofs.frame_loop.pass_rounds.Goals as goal

pub returns-clause-stops : goal.returns-clause-stops
returns-clause-stops g c =
    let inside = c.cpu.inside in
    let r : Registers = record { a = inside.a; x = inside.x; y = inside.y; s = inside.s; p = inside.p; pc = inside.pc } in
    let count = c.min-count.result in
    let same : c.rounds_ahead.new.self ≡ c.args.console.now = c.rounds_ahead.ensures.console in
    let some : 0 < count = omega (arith, c.if-count-eq0.false) in
    let most : count ≤ c.rounds_ahead.result = omega (arith, c.min-count.ensures) in
    let room : c.args.console.now.cycles + 7 * count ≤ overlong_cycles =
    omega (arith, c.min-count.ensures, c.cycles-cycles.ensures, c.if-cycles-ge-TOO_MANY_CYCLES.false) in
    rw (← c.cpu.view_is)
    (rounds-left g.S.Paint.drawn c.in-Some.poll r c.after.result c.args.console.now c.look_after-byte.new.self count c.rounds_ahead.result c.look_after-byte.result
    (record {
      loop = c.in-Some.ensures;
      no_stop = c.requires.no_stop;
      no_end = c.requires.no_end;
      taken = sym c.is_taken.ensures ∙ c.if-not-is_taken.false;
    })
    some most c.rounds_ahead.ensures.going room
    (rw same at c.look_after-byte.ensures.byte)
    (rw same at c.look_after-byte.ensures.console)
    (c.after.ensures ∙ ap (after_reader c.in-Some.poll.reader c.look_after-byte.result) (sym c.cpu.view_is)))
