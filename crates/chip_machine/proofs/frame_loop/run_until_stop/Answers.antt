use Rattle.std.proofs.Common.{◌<◌, ◌∙◌, sym, ap, arith}
use Rattle.chip_machine.specs.Consoles.{Console}
use Rattle.chip_machine.specs.Frame.{Machine, overlong_cycles, stop_of}
use Rattle.chip_machine.proofs.CartLemmas.{step-cart, stop-kept}
use Rattle.chip_machine.proofs.FrameOutcomes.{stop-kind}
use Rattle.chip_machine.proofs.LagLemmas.{no-stop}
use Rattle.chip_machine.proofs.StopLemmas.{not-below, stops-ended, stops-faulty, stops-later, stops-long, turn-faulty, turn-more, went}
use Rattle.chip_machine.proofs.frame_loop.run_until_stop.Goals as goal

pub returns-in-Err-clause-err : goal.returns-in-Err-clause-err
returns-in-Err-clause-err g c =
    let drawn = g.S.Paint.drawn in
    let m : Machine g.row.S.Denot = record { registers = c.loop-cpu.cpu; console = c.loop-cpu.console } in
    let short : c.loop-cpu.console.cycles < overlong_cycles = c.are_cycles_below.ensures.0 c.loop-cpu-test.true in
    let faulty = turn-faulty drawn m c.in-Err.fault (sym (sym c.in-Err.is ∙ c.step_running.ensures.answer)) in
    rw c.from.ensures (c.loop-cpu.invariant.stops ∙ stops-faulty drawn m c.in-Err.fault short faulty ∙ stop-kind c.in-Err.fault)

pub returns-in-Err-clause-cartridge : goal.returns-in-Err-clause-cartridge
returns-in-Err-clause-cartridge g c =
    rw c.step_running.ensures.bus
    (step-cart g.S.Paint.drawn c.args.console.now.cart.cartridge c.loop-cpu.cpu c.loop-cpu.console c.loop-cpu.invariant.cartridge)

pub returns-then-has_ended-clause-ok : goal.returns-then-has_ended-clause-ok
returns-then-has_ended-clause-ok g c =
    let drawn = g.S.Paint.drawn in
    let m : Machine g.row.S.Denot = record { registers = c.loop-cpu.cpu; console = c.loop-cpu.console } in
    let next : Machine g.row.S.Denot = record { registers = c.step_running.new.cpu; console = c.pass_stop.new.self } in
    let short : c.loop-cpu.console.cycles < overlong_cycles = c.are_cycles_below.ensures.0 c.loop-cpu-test.true in
    let there = went drawn m c.in_default.field-0 c.step_running.new.cpu c.step_running.new.bus c.pass_stop.new.self (sym c.in_default.is ∙ c.step_running.ensures.answer)
    c.step_running.ensures.registers c.step_running.ensures.bus c.pass_stop.ensures in
    c.loop-cpu.invariant.stops ∙ stops-ended drawn m next short there (sym c.has_ended.ensures ∙ c.if-has_ended.true)

pub returns-then-has_ended-clause-cartridge : goal.returns-then-has_ended-clause-cartridge
returns-then-has_ended-clause-cartridge g c =
    let k = c.args.console.now.cart.cartridge in
    let after = step-cart g.S.Paint.drawn k c.loop-cpu.cpu c.loop-cpu.console c.loop-cpu.invariant.cartridge in
    rw c.pass_stop.ensures (stop-kept g.S.Paint.drawn k c.step_running.new.bus (rw c.step_running.ensures.bus after))

pub loop-cpu-smaller-then-has_event : goal.loop-cpu-smaller-then-has_event
loop-cpu-smaller-then-has_event g c =
    let drawn = g.S.Paint.drawn in
    let m : Machine g.row.S.Denot = record { registers = c.loop-cpu.cpu; console = c.loop-cpu.console } in
    let next : Machine g.row.S.Denot = record { registers = c.step_running.new.cpu; console = c.pass_stop.new.self } in
    let short : c.loop-cpu.console.cycles < overlong_cycles = c.are_cycles_below.ensures.0 c.loop-cpu-test.true in
    let there = went drawn m c.in_default.field-0 c.step_running.new.cpu c.step_running.new.bus c.pass_stop.new.self (sym c.in_default.is ∙ c.step_running.ensures.answer)
    c.step_running.ensures.registers c.step_running.ensures.bus c.pass_stop.ensures in
    let later = turn-more drawn m next short there in
    let same-cycles = ap (λ (x : Console g.row.S.Denot). x.cycles) c.clear_event.ensures in
    omega (arith, later, short, c.pass_rounds_after_read.ensures.later, same-cycles)

pub loop-cpu-preserved-then-has_event : goal.loop-cpu-preserved-then-has_event
loop-cpu-preserved-then-has_event g c =
    let drawn = g.S.Paint.drawn in
    let k = c.args.console.now.cart.cartridge in
    let m : Machine g.row.S.Denot = record { registers = c.loop-cpu.cpu; console = c.loop-cpu.console } in
    let next : Machine g.row.S.Denot = record { registers = c.step_running.new.cpu; console = c.pass_stop.new.self } in
    let short : c.loop-cpu.console.cycles < overlong_cycles = c.are_cycles_below.ensures.0 c.loop-cpu-test.true in
    let there = went drawn m c.in_default.field-0 c.step_running.new.cpu c.step_running.new.bus c.pass_stop.new.self (sym c.in_default.is ∙ c.step_running.ensures.answer)
    c.step_running.ensures.registers c.step_running.ensures.bus c.pass_stop.ensures in
    let after = step-cart drawn k c.loop-cpu.cpu c.loop-cpu.console c.loop-cpu.invariant.cartridge in
    record {
      stops = c.loop-cpu.invariant.stops
          ∙ stops-later drawn m next short there (sym c.has_ended.ensures ∙ c.if-has_ended.false)
          ∙ c.pass_rounds_after_read.ensures.stops
          ∙ ap (λ (x : Console g.row.S.Denot). stop_of drawn (record { registers = c.pass_rounds_after_read.new.cpu; console = x })) (sym c.clear_event.ensures);
      cartridge = ap (λ (x : Console g.row.S.Denot). x.cart.cartridge) c.clear_event.ensures ∙ c.pass_rounds_after_read.ensures.cartridge ∙ rw c.pass_stop.ensures (stop-kept drawn k c.step_running.new.bus (rw c.step_running.ensures.bus after));
    }

pub loop-cpu-smaller : goal.loop-cpu-smaller
loop-cpu-smaller g c =
    let drawn = g.S.Paint.drawn in
    let m : Machine g.row.S.Denot = record { registers = c.loop-cpu.cpu; console = c.loop-cpu.console } in
    let next : Machine g.row.S.Denot = record { registers = c.step_running.new.cpu; console = c.step_running.new.bus } in
    let short : c.loop-cpu.console.cycles < overlong_cycles = c.are_cycles_below.ensures.0 c.loop-cpu-test.true in
    let free = no-stop drawn c.step_running.new.bus (c.has_event.ensures.no_stop c.if-has_event.false) in
    let there = went drawn m c.in_default.field-0 c.step_running.new.cpu c.step_running.new.bus c.step_running.new.bus (sym c.in_default.is ∙ c.step_running.ensures.answer)
    c.step_running.ensures.registers c.step_running.ensures.bus free in
    let later = turn-more drawn m next short there in
    omega (arith, later, short)

pub loop-cpu-preserved : goal.loop-cpu-preserved
loop-cpu-preserved g c =
    let drawn = g.S.Paint.drawn in
    let k = c.args.console.now.cart.cartridge in
    let m : Machine g.row.S.Denot = record { registers = c.loop-cpu.cpu; console = c.loop-cpu.console } in
    let next : Machine g.row.S.Denot = record { registers = c.step_running.new.cpu; console = c.step_running.new.bus } in
    let short : c.loop-cpu.console.cycles < overlong_cycles = c.are_cycles_below.ensures.0 c.loop-cpu-test.true in
    let free = no-stop drawn c.step_running.new.bus (c.has_event.ensures.no_stop c.if-has_event.false) in
    let there = went drawn m c.in_default.field-0 c.step_running.new.cpu c.step_running.new.bus c.step_running.new.bus (sym c.in_default.is ∙ c.step_running.ensures.answer)
    c.step_running.ensures.registers c.step_running.ensures.bus free in
    record {
      stops = c.loop-cpu.invariant.stops ∙ stops-later drawn m next short there (c.has_event.ensures.no_end c.if-has_event.false);
      cartridge = rw c.step_running.ensures.bus (step-cart drawn k c.loop-cpu.cpu c.loop-cpu.console c.loop-cpu.invariant.cartridge);
    }

pub returns-clause-err : goal.returns-clause-err
returns-clause-err g c =
    let m : Machine g.row.S.Denot = record { registers = c.loop-cpu.cpu; console = c.loop-cpu.console } in
    let long = not-below c.loop-cpu.console.cycles overlong_cycles c.are_cycles_below.result c.are_cycles_below.ensures c.loop-cpu-test.false in
    c.loop-cpu.invariant.stops ∙ stops-long g.S.Paint.drawn m long
