use Rattle.std.proofs.Common.{◌≡◌, ◌∙◌, ℕ, ◌+◌, ◌-◌, ◌*◌, ◌%◌, ◌≤◌, ap, arith}
use Rattle.std.specs.Prelude.{min}
use Rattle.std.specs.Fn.{iterate}
use Rattle.tia_chip.specs.Clock.{after_clock}
use Rattle.tia_chip.specs.Clocks.{sink_after_clocks}
use Rattle.chip_machine.specs.Consoles.{Console, cycles_to_line_start, most_cycles}
use Rattle.chip_machine.specs.Private.Lag.{cycles_seen, riot_after_steps, riot_seen, sink_seen, tia_seen}
use Rattle.chip_machine.proofs.LagLemmas.{stop-passed}
use Rattle.chip_machine.proofs.console.Console.pass_stop.Goals as goal

pub returns-then-self : goal.returns-then-self
returns-then-self g c =
    let drawn = g.S.Paint.drawn in
    let inside = c.self.inside in
    let before : Console g.row.S.Denot = record {
      cart = inside.cart;
      riot = riot_seen inside.devices;
      tia = tia_seen inside.devices;
      sink = sink_seen drawn inside.devices;
      byte = inside.byte;
      is_stopped = inside.is_stopped;
      has_ended = inside.has_ended;
      cycles = cycles_seen inside.devices;
    } in
    let d = c.line_cycle.new.self in
    let now = c.line_cycle.ensures in
    let n : ℕ = (76 - c.line_cycle.result) % 76 in
    let few : before.cycles ≤ most_cycles = omega arith in
    let count : n ≡ cycles_to_line_start before.tia.clock = ap (λ (cycle : ℕ). (76 - cycle) % 76) now.value in
    rw (← c.self.view_is)
    (stop-passed drawn before n _ _ _ _ c.if-self.true few count
    (c.pass.ensures.riot ∙ ap (riot_after_steps n) now.riot)
    (c.pass.ensures.tia ∙ ap (iterate after_clock (3 * n)) now.tia)
    (c.pass.ensures.sink
    ∙ ap (λ (s : g.row.S.Denot). sink_after_clocks drawn s (3 * n) (tia_seen d)) now.sink
    ∙ ap (sink_after_clocks drawn before.sink (3 * n)) now.tia)
    (c.pass.ensures.cycles ∙ ap (λ (k : ℕ). min (k + n) most_cycles) now.cycles))
