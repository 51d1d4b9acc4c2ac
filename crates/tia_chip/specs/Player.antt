-- The steps of a player. Stella Programmer's Guide: GRP0 and GRP1, REFP0 and REFP1, VDELP0 and
-- VDELP1, and the widths of NUSIZ. Measured in Stella 6.7: the numbers of steps, and that a wide
-- player is a pixel later.
--
-- A copy on its way has a place and a bit. Its place is 0 as it begins; each later step adds 1, but
-- takes 9 to 6. It is drawn from place 5 on, at widths 2 and 4 from place 6 on.
use Rattle.std.specs.Prelude.{ℕ, ◌+◌, ◌-◌, ◌%◌, ◌==◌, ◌&&◌, nat_lt, nat_le, Bool, false, not, if◌then◌else◌}
use Rattle.std.specs.Prelude.{Option, Some, None}
use Rattle.tia_chip.specs.Bits.{has_bit}
use Rattle.tia_chip.specs.Counter.{next_counter, begins_copy, strobed_counter}
use Rattle.tia_chip.specs.Registers.{value_by_delay}
use Rattle.tia_chip.specs.declared.player.Player.{Player}
use Rattle.tia_chip.specs.declared.player.PlayerCopy.{PlayerCopy}

-- the width of a player's bits, 1, 2 or 4, by NUSIZ D2 to D0
abbrev pub width_of : ℕ → ℕ
width_of nusiz = if nusiz % 8 == 5 then 2 else if nusiz % 8 == 7 then 4 else 1

-- the graphic that a player shows
abbrev pub graphic_of : Player → ℕ
graphic_of p = value_by_delay p.vdelp p.grp_old p.grp_new

-- whether a copy is drawn at this place
abbrev pub is_drawn_at : ℕ → ℕ → Bool
is_drawn_at width place = nat_le (if width == 1 then 5 else 6) place

-- whether a copy is drawn
abbrev pub is_drawn : ℕ → Option PlayerCopy → Bool
is_drawn width None = false
is_drawn width (Some copy) = is_drawn_at width copy.place

-- whether a copy shows a bit that is 1: its bits are counted from the left, with REFP from the right
abbrev pub shows_one : Player → Option PlayerCopy → Bool
shows_one p None = false
shows_one p (Some copy) =
    is_drawn_at p.width copy.place && has_bit (graphic_of p) (if has_bit p.refp 3 then copy.bit else 7 - copy.bit)

-- a player that is looked at: what is seen stays until the next look
abbrev pub looked_at_player : Player → Player
looked_at_player p = record p { seen = shows_one p p.copy }

-- the place after a step
abbrev pub next_place : ℕ → ℕ
next_place place = if place == 9 then 6 else place + 1

-- whether the step from this place ends a bit: at width 1 each step to place 6 or beyond, at widths
-- 2 and 4 one from a drawn place to the first of a bit, which is at place 6 or some widths further
abbrev pub ends_bit : ℕ → ℕ → Bool
ends_bit width place =
    if width == 1 then nat_le 6 (next_place place)
    else is_drawn_at width place && ((next_place place - 6) % width == 0)

-- a copy after a step: after bit 7 it is over
abbrev pub stepped_copy : ℕ → Option PlayerCopy → Option PlayerCopy
stepped_copy width None = None
stepped_copy width (Some copy) =
    if ends_bit width copy.place
    then (if copy.bit == 7 then None else Some (record { place = next_place copy.place; bit = copy.bit + 1 }))
    else Some (record { place = next_place copy.place; bit = copy.bit })

-- whether a copy begins with this step
abbrev pub begins_player : Player → Bool
begins_player p = begins_copy (p.nusiz % 8) p.counter

-- the copy after a step: one that begins takes the place of another
abbrev pub copy_after_step : Player → Option PlayerCopy
copy_after_step p =
    if begins_player p then Some (record { place = 0; bit = 0 }) else stepped_copy p.width p.copy

-- whether a step from this copy leads to a place at which it is drawn, even if it is over then
abbrev pub is_drawn_next : ℕ → Option PlayerCopy → Bool
is_drawn_next width None = false
is_drawn_next width (Some copy) = is_drawn_at width (next_place copy.place)

-- A player whose change of width has one step less to wait for. With the last the width is that of
-- NUSIZ, from the next step on.
abbrev pub with_awaited_step : Player → Player
with_awaited_step p =
    if p.change == 1 then record p { width = width_of p.nusiz; change = 0 } else record p { change = p.change - 1 }

-- Whether a step is one of those that a change of width waits for: it leads to a place at which the
-- copy is drawn, also if the copy is over then. Measured in Stella 6.7: a step with which another
-- copy begins is none of them.
abbrev pub counts_for_change : Player → Bool
counts_for_change p = not (begins_player p) && is_drawn_next p.width p.copy

-- A player after a step: it is looked at before anything in it changes.
abbrev pub player_after_step : Player → Player
player_after_step p =
    let seen = looked_at_player p in
    let stepped = record seen { counter = next_counter p.counter; copy = copy_after_step p } in
    if counts_for_change p then with_awaited_step stepped else stepped

-- A copy after a strobe: one before place 4 begins anew, so many steps late, and a later one goes on.
abbrev pub strobed_copy : ℕ → Option PlayerCopy → Option PlayerCopy
strobed_copy late None = None
strobed_copy late (Some copy) = if nat_lt copy.place 4 then Some (record copy { place = late }) else Some copy

-- a player after RESP. The strobe's own copy comes with the next round of the counter: Stella
-- Programmer's Guide.
abbrev pub player_after_strobe : ℕ → Player → Player
player_after_strobe late p = record p { counter = strobed_counter late; copy = strobed_copy late p.copy }

-- whether a write that made a player of another changed what it draws: a copy that isn't drawn, and
-- a write that keeps the graphic, REFP and VDELP, change nothing
abbrev pub is_player_changed : Player → Player → Bool
is_player_changed before after =
    is_drawn after.width after.copy
    && not (graphic_of before == graphic_of after && before.refp == after.refp && before.vdelp == after.vdelp)
