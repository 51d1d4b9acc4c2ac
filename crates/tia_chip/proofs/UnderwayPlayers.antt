-- What is true of a player's numbers, and that steps, looks and writes keep it.
use Rattle.std.proofs.Common.{◌≡◌, ℕ, ◌-◌, ◌%◌, ◌<◌, ◌≤◌, ◌==◌, ◌&&◌, ◌||◌, ◌⊎◌, not, Bool, true, false, arith, refl, if◌then◌else◌}
use Rattle.std.proofs.Common.{Option, Some, None, rules}
use Rattle.std.proofs.lemmas.Bool.{cond_both}
use Rattle.std.proofs.lemmas.Bool.Decides.{nat_tests}
use Rattle.std.specs.Prelude.{nat_le, nat_lt}
use Rattle.tia_chip.specs.Blank.{is_in_blank}
use Rattle.tia_chip.specs.Counter.{begins_copy, next_counter}
use Rattle.tia_chip.specs.Motion.{player_after_pulse, still_moves}
use Rattle.tia_chip.specs.Numbers.{bit_number, player_copy_number}
use Rattle.tia_chip.specs.Player.{begins_player, copy_after_step, counts_for_change, ends_bit, looked_at_player}
use Rattle.tia_chip.specs.Player.{player_after_step, player_after_strobe, stepped_copy, strobed_copy}
use Rattle.tia_chip.specs.Player.{width_of, with_awaited_step, is_player_changed}
use Rattle.tia_chip.specs.PlayerWidth.{beginning_of, change_of, copy_at_change, copy_in_mode}
use Rattle.tia_chip.specs.PlayerWidth.{player_after_nusiz, steps_to_change, with_width}
use Rattle.tia_chip.specs.Registers.{fits_register}
use Rattle.tia_chip.specs.Write.{player_after_write}
use Rattle.tia_chip.specs.declared.player.Player.{Player}
use Rattle.tia_chip.specs.declared.player.PlayerCopy.{PlayerCopy}
use Rattle.tia_chip.specs.declared.register.Register.TheVariants.{Hmp0, Nusiz0, Refp0, Vdelp0}
use Rattle.tia_chip.specs.declared.state.TiaState.{TiaState}

-- a copy on its way: one that isn't drawn yet is at bit 0
abbrev pub IsCopy : Option PlayerCopy → Type 0
IsCopy copy =
    (player_copy_number copy < 11) × (bit_number copy < 8) × ((nat_le 7 (player_copy_number copy) || (bit_number copy == 0)) ≡ true)

-- a width in force, and a change of it that waits
abbrev pub IsWidthNumber : ℕ → Type 0
IsWidthNumber width = (width == 1 || (width == 2) || (width == 4)) ≡ true

abbrev pub IsChange : ℕ → ℕ → ℕ → Type 0
IsChange nusiz width change =
    (change < 6) × ((if width == width_of nusiz then change == 0 else not (change == 0)) ≡ true)

pub record IsPlayerUnderway (p : Player) : Type 0 where
  pub nusiz : fits_register Nusiz0 p.nusiz ≡ true
  pub refp : fits_register Refp0 p.refp ≡ true
  pub vdelp : fits_register Vdelp0 p.vdelp ≡ true
  pub hmp : fits_register Hmp0 p.hmp ≡ true
  pub counter : p.counter < 160
  pub copy : IsCopy p.copy
  pub width : IsWidthNumber p.width
  pub change : IsChange p.nusiz p.width p.change

-- steps
IsCopy-stepped : (width : ℕ) (copy : Option PlayerCopy) → IsCopy copy → IsCopy (stepped_copy width copy)
IsCopy-stepped width None h = h
IsCopy-stepped width (Some copy) h =
    cond_both (ends_bit width copy.place) _ _ IsCopy
    (λ e. cond_both (copy.bit == 7) _ _ IsCopy (λ f. (omega arith, omega arith, refl)) (λ f. (grind (arith, nat_tests), grind (arith, nat_tests), grind (arith, nat_tests))))
    (λ e. (grind (arith, nat_tests), grind (arith, nat_tests), grind (arith, nat_tests)))

IsCopy-after_step : (p : Player) → IsCopy p.copy → IsCopy (copy_after_step p)
IsCopy-after_step p h =
    cond_both (begins_player p) _ _ IsCopy (λ e. (omega arith, omega arith, refl)) (λ e. IsCopy-stepped p.width p.copy h)

pub next_counter-small : (counter : ℕ) → counter < 160 → next_counter counter < 160
next_counter-small counter h = grind (arith, nat_tests)

IsWidthNumber-of : (nusiz : ℕ) → IsWidthNumber (width_of nusiz)
IsWidthNumber-of nusiz = grind (arith, nat_tests)

IsChange-none : (nusiz width : ℕ) → width ≡ width_of nusiz → IsChange nusiz width 0
IsChange-none nusiz width e = (omega arith, grind (arith, nat_tests, e))

IsChange-less : (nusiz width change : ℕ) → (change == 1) ≡ false → IsChange nusiz width change → IsChange nusiz width (change - 1)
IsChange-less nusiz width change e h = (omega (arith, h.0), grind (arith, nat_tests, h.0, h.1, e))

awaited : (p : Player) → IsPlayerUnderway p → IsPlayerUnderway (with_awaited_step p)
awaited p h =
    cond_both (p.change == 1) _ _ IsPlayerUnderway
    (λ e. record { nusiz = h.nusiz; refp = h.refp; vdelp = h.vdelp; hmp = h.hmp; counter = h.counter; copy = h.copy; width = IsWidthNumber-of p.nusiz; change = IsChange-none p.nusiz (width_of p.nusiz) refl })
    (λ e. record { nusiz = h.nusiz; refp = h.refp; vdelp = h.vdelp; hmp = h.hmp; counter = h.counter; copy = h.copy; width = h.width; change = IsChange-less p.nusiz p.width p.change e h.change })

stepped_copy_alone : (p : Player) → IsPlayerUnderway p → IsPlayerUnderway (record (looked_at_player p) { counter = next_counter p.counter; copy = copy_after_step p })
stepped_copy_alone p h =
    record { nusiz = h.nusiz; refp = h.refp; vdelp = h.vdelp; hmp = h.hmp; counter = next_counter-small p.counter h.counter; copy = IsCopy-after_step p h.copy; width = h.width; change = h.change }

pub player-stepped : (p : Player) → IsPlayerUnderway p → IsPlayerUnderway (player_after_step p)
player-stepped p h =
    cond_both (counts_for_change p) _ _ IsPlayerUnderway (λ e. awaited _ (stepped_copy_alone p h)) (λ e. stepped_copy_alone p h)

-- looks, and what HMOVE and writes of its graphics change
pub player-looked_at : (p : Player) → IsPlayerUnderway p → IsPlayerUnderway (looked_at_player p)
player-looked_at p h = search rules

pub player-moved : (p : Player) (moves : Bool) → IsPlayerUnderway p → IsPlayerUnderway (record p { moves = moves })
player-moved p moves h = search rules

pub player-unseen : (p : Player) → IsPlayerUnderway p → IsPlayerUnderway (record p { seen = false })
player-unseen p h = search rules

pub player-pulsed : (t : TiaState) (p : Player) → IsPlayerUnderway p → IsPlayerUnderway (player_after_pulse t p)
player-pulsed t p h =
    let now = record p { moves = p.moves && still_moves p.hmp t.pulses } in
    cond_both (now.moves && is_in_blank t) _ _ IsPlayerUnderway (λ e. player-stepped now (player-moved p now.moves h)) (λ e. player-moved p now.moves h)

pub player-written : (in_blank : Bool) (before after : Player) → IsPlayerUnderway after → IsPlayerUnderway (player_after_write in_blank before after)
player-written in_blank before after h =
    cond_both (in_blank && is_player_changed before after) _ _ IsPlayerUnderway (λ e. player-looked_at after h) (λ e. h)

-- RESP
IsCopy-strobed : (late : ℕ) (copy : Option PlayerCopy) → late ≤ 2 → IsCopy copy → IsCopy (strobed_copy late copy)
IsCopy-strobed late None l h = h
IsCopy-strobed late (Some copy) l h =
    cond_both (nat_lt copy.place 4) _ _ IsCopy (λ e. (omega arith, h.1, grind (arith, nat_tests))) (λ e. h)

pub player-strobed : (late : ℕ) (p : Player) → late ≤ 2 → IsPlayerUnderway p → IsPlayerUnderway (player_after_strobe late p)
player-strobed late p l h =
    record { nusiz = h.nusiz; refp = h.refp; vdelp = h.vdelp; hmp = h.hmp; counter = omega arith; copy = IsCopy-strobed late p.copy l h.copy; width = h.width; change = h.change }

-- NUSIZ
pub width_cases : (width : ℕ) → IsWidthNumber width → (width ≡ 1) ⊎ ((width ≡ 2) ⊎ (width ≡ 4))
width_cases width h = grind (arith, nat_tests, h)

steps_to_change-small : (in_blank : Bool) (old new place : ℕ) → IsWidthNumber old → steps_to_change in_blank old new place < 6
steps_to_change-small in_blank old new place h = grind (arith, nat_tests, width_cases old h)

change_of-small : (in_blank : Bool) (old new : ℕ) (copy : Option PlayerCopy) → IsWidthNumber old → change_of in_blank old new copy < 6
change_of-small in_blank old new None h = omega arith
change_of-small in_blank old new (Some copy) h = steps_to_change-small in_blank old new copy.place h

IsCopy-changed : (in_blank : Bool) (old new : ℕ) (copy : Option PlayerCopy) → IsCopy copy → IsCopy (copy_at_change in_blank old new copy)
IsCopy-changed in_blank old new None h = h
IsCopy-changed in_blank old new (Some copy) h = (grind (arith, nat_tests, h.0), h.1, grind (arith, nat_tests, h.2))

IsCopy-in_mode : (old new counter : ℕ) (copy : Option PlayerCopy) → IsCopy copy → IsCopy (copy_in_mode old new counter copy)
IsCopy-in_mode old new counter None h = h
IsCopy-in_mode old new counter (Some copy) h =
    cond_both (not (old == new) && nat_lt copy.place 2 && not (begins_copy new (beginning_of counter copy.place))) _ _ IsCopy
    (λ e. (omega arith, omega arith, refl)) (λ e. h)

-- but for a change that waits
record IsPlayerBut (p : Player) : Type 0 where
  pub nusiz : fits_register Nusiz0 p.nusiz ≡ true
  pub refp : fits_register Refp0 p.refp ≡ true
  pub vdelp : fits_register Vdelp0 p.vdelp ≡ true
  pub hmp : fits_register Hmp0 p.hmp ≡ true
  pub counter : p.counter < 160
  pub copy : IsCopy p.copy
  pub width : IsWidthNumber p.width

IsChange-waiting : (nusiz width change : ℕ) → (width == width_of nusiz) ≡ false → (change == 0) ≡ false → change < 6 → IsChange nusiz width change
IsChange-waiting nusiz width change e f h = (h, grind (arith, nat_tests, e, f))

with_width-kept : (in_blank : Bool) (p : Player) → IsPlayerBut p → IsPlayerUnderway (with_width in_blank (width_of p.nusiz) p)
with_width-kept in_blank p h =
    let new = width_of p.nusiz in
    let steps = change_of in_blank p.width new p.copy in
    cond_both (p.width == new) _ _ IsPlayerUnderway
    (λ e. record { nusiz = h.nusiz; refp = h.refp; vdelp = h.vdelp; hmp = h.hmp; counter = h.counter; copy = h.copy; width = h.width; change = IsChange-none p.nusiz p.width (grind (arith, nat_tests, e)) })
    (λ e. cond_both (steps == 0) _ _ IsPlayerUnderway
    (λ f. record { nusiz = h.nusiz; refp = h.refp; vdelp = h.vdelp; hmp = h.hmp; counter = h.counter; copy = IsCopy-changed in_blank p.width new p.copy h.copy; width = IsWidthNumber-of p.nusiz; change = IsChange-none p.nusiz new refl })
    (λ f. record { nusiz = h.nusiz; refp = h.refp; vdelp = h.vdelp; hmp = h.hmp; counter = h.counter; copy = h.copy; width = h.width; change = IsChange-waiting p.nusiz p.width steps e f (change_of-small in_blank p.width new p.copy h.width) }))

pub player-resized : (in_blank : Bool) (nusiz : ℕ) (p : Player) → fits_register Nusiz0 nusiz ≡ true → IsPlayerUnderway p
    → IsPlayerUnderway (player_after_nusiz in_blank nusiz p)
player-resized in_blank nusiz p e h =
    with_width-kept in_blank (record p { nusiz = nusiz; copy = copy_in_mode (p.nusiz % 8) (nusiz % 8) p.counter p.copy })
    (record { nusiz = e; refp = h.refp; vdelp = h.vdelp; hmp = h.hmp; counter = h.counter; copy = IsCopy-in_mode (p.nusiz % 8) (nusiz % 8) p.counter p.copy h.copy; width = h.width })

-- what none of these changes
abbrev pub IsAlike : Player → Player → Type 0
IsAlike before after = (after.moves ≡ before.moves) × (after.seen ≡ before.seen)

with_width-alike : (in_blank : Bool) (new : ℕ) (p : Player) → IsAlike p (with_width in_blank new p)
with_width-alike in_blank new p =
    cond_both (p.width == new) _ _ (IsAlike p) (λ e. (refl, refl))
    (λ e. cond_both (change_of in_blank p.width new p.copy == 0) _ _ (IsAlike p) (λ f. (refl, refl)) (λ f. (refl, refl)))

pub resized-alike : (in_blank : Bool) (nusiz : ℕ) (p : Player) → IsAlike p (player_after_nusiz in_blank nusiz p)
resized-alike in_blank nusiz p =
    with_width-alike in_blank (width_of nusiz) (record p { nusiz = nusiz; copy = copy_in_mode (p.nusiz % 8) (nusiz % 8) p.counter p.copy })

pub written-moves : (in_blank : Bool) (before after : Player) → (player_after_write in_blank before after).moves ≡ after.moves
written-moves in_blank before after =
    cond_both (in_blank && is_player_changed before after) _ _ (λ (p : Player). p.moves ≡ after.moves) (λ e. refl) (λ e. refl)

pub stepped-moves : (p : Player) → (player_after_step p).moves ≡ p.moves
stepped-moves p =
    let stepped = record (looked_at_player p) { counter = next_counter p.counter; copy = copy_after_step p } in
    cond_both (counts_for_change p) _ _ (λ (q : Player). q.moves ≡ p.moves)
    (λ e. cond_both (stepped.change == 1) _ _ (λ (q : Player). q.moves ≡ p.moves) (λ f. refl) (λ f. refl)) (λ e. refl)
