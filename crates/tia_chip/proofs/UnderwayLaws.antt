-- What is true of the numbers of a TIA that runs is true at power-on, and each call keeps it.
use Rattle.std.proofs.Common.{ℕ, Bool, refl, rules}
use Rattle.tia_chip.proofs.UnderwayBeam.{line-clock, line-read, line-write}
use Rattle.tia_chip.proofs.UnderwayClock.{clock-kept, read-kept}
use Rattle.tia_chip.proofs.UnderwayNumbers.{register_write-kept}
use Rattle.tia_chip.proofs.UnderwayTables.{has_line, has_numbers, is_underway, underway-record}
use Rattle.tia_chip.specs.Clock.{after_clock}
use Rattle.tia_chip.specs.Numbers.{is_tia}
use Rattle.tia_chip.specs.PowerOn.{at_frame_start, tia_at_power_on, with_fire}
use Rattle.tia_chip.specs.Read.{tia_after_read}
use Rattle.tia_chip.specs.Registers.{register_of}
use Rattle.tia_chip.specs.Underway.{IsUnderway}
use Rattle.tia_chip.specs.Write.{tia_after_write}
use Rattle.tia_chip.specs.declared.state.TiaState.{TiaState}

pub underway-power_on : IsUnderway tia_at_power_on
unfolding is_tia
underway-power_on = underway-record tia_at_power_on refl refl

pub underway-clock : (t : TiaState) → IsUnderway t → IsUnderway (after_clock t)
underway-clock t h = is_underway (after_clock t) (clock-kept t (has_numbers t h)) (line-clock t (has_line t h))

pub underway-write : (t : TiaState) (number value : ℕ) → IsUnderway t → IsUnderway (tia_after_write t number value)
unfolding tia_after_write
underway-write t number value h =
    let r = register_of number in
    is_underway (tia_after_write t number value) (register_write-kept r value t (has_numbers t h)) (line-write r value t (has_line t h))

pub underway-read : (t : TiaState) (number : ℕ) → IsUnderway t → IsUnderway (tia_after_read t number)
underway-read t number h = is_underway (tia_after_read t number) (read-kept t number (has_numbers t h)) (line-read t number (has_line t h))

pub underway-fire : (t : TiaState) (fire0 fire1 : Bool) → IsUnderway t → IsUnderway (with_fire t fire0 fire1)
underway-fire t fire0 fire1 h = search rules

pub underway-frame : (t : TiaState) → IsUnderway t → IsUnderway (at_frame_start t)
underway-frame t h = search rules
