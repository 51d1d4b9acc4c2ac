use Rattle.std.proofs.Common.{◌≡◌, ◌∙◌, ℕ, ◌+◌, ◌%◌, ◌<◌, Some, ap, sym, arith}
use Rattle.std.proofs.lemmas.Bool.{cond-false}
use Rattle.std.specs.Fn.{iterate}
use Rattle.tia_chip.proofs.LineClockLemmas.{later, told-unsynced, unsynced}
use Rattle.tia_chip.specs.AtRest.{awaits_rsync}
use Rattle.tia_chip.specs.Clock.{after_clock}
use Rattle.tia_chip.proofs.tia.Tia.line_clock_after.Goals as goal

pub returns-in-Some-clause-value : goal.returns-in-Some-clause-value
returns-in-Some-clause-value c =
    let t = c.self.inside.chip in
    let n = c.self.inside.behind in
    let told = told-unsynced (awaits_rsync t.waiting) ((t.clock + n) % 228) c.in-Some.clock (sym c.line_clock_after.ensures.value ∙ c.in-Some.is) in
    let now : (iterate after_clock n t).clock ≡ c.in-Some.clock = rw c.in-Some.is at c.line_clock_after.ensures.clock in
    rw (← c.self.view_is) (ap (λ (k : ℕ). Some k) (omega (arith, now)) ∙ sym (cond-false (awaits_rsync (iterate after_clock n t).waiting) _ _ (unsynced n t told)))

pub returns-in-Some-clause-clock : goal.returns-in-Some-clause-clock
returns-in-Some-clause-clock c =
    let t = c.self.inside.chip in
    let n = c.self.inside.behind in
    let told = told-unsynced (awaits_rsync t.waiting) ((t.clock + n) % 228) c.in-Some.clock (sym c.line_clock_after.ensures.value ∙ c.in-Some.is) in
    let now : (iterate after_clock n t).clock ≡ c.in-Some.clock = rw c.in-Some.is at c.line_clock_after.ensures.clock in
    let few : c.in-Some.clock < 228 = rw c.in-Some.is at c.line_clock_after.ensures.range in
    rw (← c.self.view_is) (later c.args.count (iterate after_clock n t) (unsynced n t told) (omega (arith, now, few)) ∙ omega (arith, now))
