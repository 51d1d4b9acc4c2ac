-- A TIA at rest, and what a cycle of the processor leaves on its way. Stella Programmer's Guide: a
-- cycle has three colour clocks.
use Rattle.std.specs.Prelude.{◌≡◌, ℕ, ◌+◌, ◌-◌, ◌%◌, ◌==◌, ◌&&◌, not, nat_lt, Bool, true, false, if◌then◌else◌}
use Rattle.std.specs.Prelude.{Option, Some, None, is_none}
use Rattle.tia_chip.specs.declared.register.Register.{Register}
use Rattle.tia_chip.specs.declared.register.Register.TheVariants.{Vsync, Wsync, Rsync, Ignored}
use Rattle.tia_chip.specs.declared.state.TiaState.{TiaState}
use Rattle.tia_chip.specs.declared.waiting.Waiting.{Waiting}

-- A record says all of a TIA but its line and its buttons: no write is on its way, none has changed an
-- object since the last clock, and pixels are put where the line's clock is.
abbrev pub is_at_rest : TiaState → Bool
is_at_rest t = is_none t.waiting && is_none t.hmove && not t.changed && (t.beam == t.clock)

-- whether a write of this register leaves a TIA at rest: it changes VSYNC alone, or nothing
abbrev pub leaves_at_rest : Register → Bool
leaves_at_rest Vsync = true
leaves_at_rest Wsync = true
leaves_at_rest Ignored = true
leaves_at_rest _ = false

-- whether an RSYNC is on its way: it acts at once, so that no write leaves one
abbrev pub is_rsync : Register → Bool
is_rsync Rsync = true
is_rsync _ = false

abbrev pub awaits_rsync : Option Waiting → Bool
awaits_rsync None = false
awaits_rsync (Some write) = is_rsync write.register

-- how many clocks an HMOVE has still to wait, once so many have passed
abbrev pub hmove_after : ℕ → Option ℕ → Option ℕ
hmove_after passed None = None
hmove_after passed (Some clocks) = if nat_lt clocks passed then None else Some (clocks - passed)

-- What a cycle without a write leaves: of writes on their way HMOVE alone, and of RSYNC nothing, since
-- it left three clocks of its line.
pub record IsCycle (before after : TiaState) : Type 0 where
  pub waiting : after.waiting ≡ None
  pub hmove : after.hmove ≡ hmove_after 3 before.hmove
  pub changed : after.changed ≡ false
  pub beam : after.beam ≡ after.clock
  pub clock : after.clock ≡ (before.clock + 3) % 228
