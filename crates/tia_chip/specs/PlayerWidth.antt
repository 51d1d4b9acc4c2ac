-- What a write of NUSIZ does to a player. Stella Programmer's Guide: the copies and widths of NUSIZ.
-- Measured in Stella 6.7: when a copy on its way takes the new width, and which copies
-- are dropped.
use Rattle.std.specs.Prelude.{ℕ, ◌+◌, ◌-◌, ◌%◌, ◌==◌, ◌&&◌, ◌||◌, not, nat_lt, nat_le, Bool, if◌then◌else◌}
use Rattle.std.specs.Prelude.{Option, Some, None}
use Rattle.tia_chip.specs.Counter.{begins_copy}
use Rattle.tia_chip.specs.Player.{width_of, is_drawn_at}
use Rattle.tia_chip.specs.declared.player.Player.{Player}
use Rattle.tia_chip.specs.declared.player.PlayerCopy.{PlayerCopy}

-- The place that a change of width goes by: that of the copy, in the picture after its next step.
abbrev pub place_for_change : Bool → ℕ → ℕ
place_for_change in_blank place = if in_blank then place else place + 1

-- How many steps are left to the end of a bit of width 2 or 4. One begins at place 6, and would at
-- place 14.
abbrev pub steps_to_bit_end : ℕ → ℕ → ℕ
steps_to_bit_end width place = (14 - place) % width

-- With which of the steps after which the copy is drawn the width changes; 0: it changes at once. So
-- it does if the place that it goes by is below 4, and from width 2 or 4 if that is below 6. Else, to
-- or from width 1, it changes with the second such step, but in the blank, if the copy is drawn
-- already, with the first. Between 2 and 4 it changes with the step after a bit's end; if a bit is at
-- its end now, in the blank at once, in the picture with the step after the next one's.
abbrev pub steps_to_change : Bool → ℕ → ℕ → ℕ → ℕ
steps_to_change in_blank old new place =
    let soon = place_for_change in_blank place in
    let left = steps_to_bit_end old place in
    if nat_lt soon 4 then 0
    else if not (old == 1) && nat_lt soon 6 then 0
    else if old == 1 || new == 1 then (if in_blank && is_drawn_at old place then 1 else 2)
    else if left == 0 then (if in_blank then 0 else old + 1)
    else left + 1

-- The same of a player, whose width changes at once if no copy is on its way.
abbrev pub change_of : Bool → ℕ → ℕ → Option PlayerCopy → ℕ
change_of in_blank old new None = 0
change_of in_blank old new (Some copy) = steps_to_change in_blank old new copy.place

-- The place of a copy as the width changes: one less, if it goes from 2 or 4 to 1 just before the
-- copy is drawn.
abbrev pub place_at_change : Bool → ℕ → ℕ → ℕ → ℕ
place_at_change in_blank old new place =
    let soon = place_for_change in_blank place in
    if not (old == 1) && (new == 1) && nat_le 4 soon && nat_lt soon 6 then place - 1 else place

abbrev pub copy_at_change : Bool → ℕ → ℕ → Option PlayerCopy → Option PlayerCopy
copy_at_change in_blank old new None = None
copy_at_change in_blank old new (Some copy) = Some (record copy { place = place_at_change in_blank old new copy.place })

-- A player whose width becomes `new`, at once or later. A change that still waited is dropped.
abbrev pub with_width : Bool → ℕ → Player → Player
with_width in_blank new p =
    let steps = change_of in_blank p.width new p.copy in
    if p.width == new then record p { change = 0 }
    else if steps == 0 then record p { width = new; change = 0; copy = copy_at_change in_blank p.width new p.copy }
    else record p { change = steps }

-- The counter of the step with which the copy at this place began.
abbrev pub beginning_of : ℕ → ℕ → ℕ
beginning_of counter place = (counter + 159 - place) % 160

-- A copy as NUSIZ changes to another mode: one that began with the last step or the one before is
-- dropped if none begins there in the new mode.
abbrev pub copy_in_mode : ℕ → ℕ → ℕ → Option PlayerCopy → Option PlayerCopy
copy_in_mode old new counter None = None
copy_in_mode old new counter (Some copy) =
    if not (old == new) && nat_lt copy.place 2 && not (begins_copy new (beginning_of counter copy.place)) then None else Some copy

-- a player after a write of NUSIZ
abbrev pub player_after_nusiz : Bool → ℕ → Player → Player
player_after_nusiz in_blank nusiz p =
    with_width in_blank (width_of nusiz)
    (record p { nusiz = nusiz; copy = copy_in_mode (p.nusiz % 8) (nusiz % 8) p.counter p.copy })
