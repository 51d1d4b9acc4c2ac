use Rattle.std.proofs.Common.{◌≡◌, ◌∙◌, ℕ, sym, ap}
use Rattle.bus_cycles.specs.Buses.{Meaning}
use Rattle.tia_core.specs.declared.paint.NoPaint.{NoPaint}
use Rattle.chip_machine.specs.Consoles.{Console, meaning_of}
use Rattle.chip_machine.specs.Frame.{Machine}
use Rattle.chip_machine.specs.Instructions.{Listed}
use Rattle.chip_machine.proofs.LoggedLemmas.{listed-below}
use Rattle.chip_machine.proofs.StopLemmas.{turn-faulty, went}
use Rattle.chip_machine.proofs.stepping.Stepping.next.Goals as goal

abbrev undrawn : NoPaint → ℕ → ℕ → ℕ → NoPaint
undrawn s line x colour = s

abbrev M : Meaning (Console NoPaint)
M = meaning_of undrawn

pub returns-in-Err-clause-fault : goal.returns-in-Err-clause-fault
returns-in-Err-clause-fault c =
    let bus = c.self.inside.bus in
    let l : Listed (Console NoPaint) = record { bus = c.catch_up_tia.new.self; code = bus.code.items; accesses = bus.accesses.items } in
    let with : Console NoPaint → Machine NoPaint = λ (console : Console NoPaint). record { registers = c.self.inside.cpu; console = console } in
    let m = with c.catch_up_tia.new.self in
    let at : m ≡ c.args.self.now = ap with c.catch_up_tia.ensures ∙ c.self.view_is in
    let faulty = sym c.in-Err.is ∙ c.step-answer.ensures.answer in
    (c.in-Err.fault, c.from.ensures, rw (← at) (turn-faulty undrawn m c.in-Err.fault (rw (listed-below M m.registers l) (sym faulty))))

pub returns-clause-went : goal.returns-clause-went
returns-clause-went c =
    let bus = c.self.inside.bus in
    let l : Listed (Console NoPaint) = record { bus = c.catch_up_tia.new.self; code = bus.code.items; accesses = bus.accesses.items } in
    let with : Console NoPaint → Machine NoPaint = λ (console : Console NoPaint). record { registers = c.self.inside.cpu; console = console } in
    let m = with c.catch_up_tia.new.self in
    let at : m ≡ c.args.self.now = ap with c.catch_up_tia.ensures ∙ c.self.view_is in
    let below = listed-below M m.registers l in
    let answer = sym c.in_default.is ∙ c.step-answer.ensures.answer in
    rw (← at)
    (went undrawn m c.in_default.field-0 c.step-answer.new.cpu c.step-answer.new.bus.console c.pass_stop.new.self
    (rw below answer) (rw below c.step-answer.ensures.registers) (rw below (ap (λ (x : Listed (Console NoPaint)). x.bus) c.step-answer.ensures.bus))
    c.pass_stop.ensures)
