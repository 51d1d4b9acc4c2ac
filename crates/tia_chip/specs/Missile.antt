-- The steps of a missile. Stella Programmer's Guide: ENAM0 and ENAM1, RESMP0 and RESMP1, and the
-- sizes and copies of NUSIZ. Andrew Towers' notes: HMOVE in the picture changes a missile's size,
-- which makes the starfield of some games. Measured in Stella 6.7: the numbers of steps, and when.
--
-- A copy on its way has a place: 0 as it begins, and one more with each later step. It is drawn from
-- place 4 on, as many steps as its size.
use Rattle.std.specs.Prelude.{ℕ, ◌+◌, ◌-◌, ◌/◌, ◌%◌, ◌^◌, ◌==◌, ◌&&◌, not, nat_lt, nat_le, Bool, if◌then◌else◌}
use Rattle.std.specs.Prelude.{Option, Some, None, false}
use Rattle.tia_chip.specs.Bits.{has_bit}
use Rattle.tia_chip.specs.Counter.{next_counter, begins_copy, strobed_counter}
use Rattle.tia_chip.specs.declared.missile.Missile.{Missile}
use Rattle.tia_chip.specs.declared.missile.MissileCopy.{MissileCopy}

-- the size 1, 2, 4 or 8 of a missile or ball, by bits 5 and 4 of NUSIZ or CTRLPF
abbrev pub size_of : ℕ → ℕ
size_of register = 2 ^ (register / 16 % 4)

-- whether a copy is drawn
abbrev pub is_missile_drawn : Option MissileCopy → Bool
is_missile_drawn None = false
is_missile_drawn (Some copy) = nat_le 4 copy.place

-- a missile that is looked at: what is seen stays until the next look
abbrev pub looked_at_missile : Missile → Missile
looked_at_missile m = record m { seen = is_missile_drawn m.copy }

-- whether the missile locks copies from beginning
abbrev pub is_locked : Missile → Bool
is_locked m = has_bit m.resmp 1

-- A copy as the step from place 3 finds it, which gives it its own size: that of NUSIZ. But if the
-- missile moves in the picture, its own size is 0 at a clock that is 1 modulo 4; and at one that is
-- 2 modulo 4 sizes 1 and 2 become 2, and it is at place 4 already.
abbrev pub copy_about_to_show : ℕ → ℕ → Bool → MissileCopy
copy_about_to_show size clock moves =
    if moves && (clock % 4 == 1) then record { place = 3; own_size = 0 }
    else if moves && (clock % 4 == 2) && nat_le size 2 then record { place = 4; own_size = 2 }
    else record { place = 3; own_size = size }

-- A copy as a step finds it. No step in the blank is at a clock that is 1 or 2 modulo 4.
abbrev pub copy_before_step : ℕ → ℕ → Bool → Option MissileCopy → Option MissileCopy
copy_before_step size clock moves None = None
copy_before_step size clock moves (Some copy) = if copy.place == 3 then Some (copy_about_to_show size clock moves) else Some copy

-- A copy after a step, unless another begins: it is over after as many drawn steps as its size, or
-- as its own size if the missile moves.
abbrev pub stepped_missile_copy : ℕ → Bool → Option MissileCopy → Option MissileCopy
stepped_missile_copy size moves None = None
stepped_missile_copy size moves (Some copy) =
    if nat_le (4 + (if moves then copy.own_size else size)) (copy.place + 1) then None else Some (record copy { place = copy.place + 1 })

-- whether a copy begins with this step
abbrev pub begins_missile : ℕ → Missile → Bool
begins_missile nusiz m = begins_copy (nusiz % 8) m.counter && not (is_locked m)

-- A missile after a step at this clock, with NUSIZ of its player: it is looked at before anything in
-- it changes.
abbrev pub missile_after_step : ℕ → ℕ → Missile → Missile
missile_after_step nusiz clock m =
    let seen = looked_at_missile (record m { copy = copy_before_step (size_of nusiz) clock m.moves m.copy }) in
    record seen {
      counter = next_counter m.counter;
      copy =
          if begins_missile nusiz m then Some (record { place = 0; own_size = 1 })
          else stepped_missile_copy (size_of nusiz) m.moves seen.copy;
    }

-- A copy after NUSIZ has changed its size: it is over if as many steps were drawn.
abbrev pub resized_copy : ℕ → Option MissileCopy → Option MissileCopy
resized_copy size None = None
resized_copy size (Some copy) = if nat_le (4 + size) copy.place then None else Some copy

abbrev pub missile_after_nusiz : ℕ → Missile → Missile
missile_after_nusiz nusiz m = record m { copy = resized_copy (size_of nusiz) m.copy }

-- A copy after RESM: before place 4 it begins anew, so many steps late. A drawn one goes back to its
-- first or second half, at sizes 4 and 8; at sizes 1 and 2 a pixel of it is left, and in the blank
-- none.
abbrev pub strobed_missile_copy : ℕ → Bool → ℕ → Option MissileCopy → Option MissileCopy
strobed_missile_copy size in_blank late None = None
strobed_missile_copy size in_blank late (Some copy) =
    if nat_lt copy.place 4 then Some (record copy { place = late })
    else if nat_le 4 size then Some (record copy { place = (if nat_lt copy.place 8 then 4 else 8) + late })
    else if in_blank then None
    else Some (record copy { place = 5 })

abbrev pub missile_after_strobe : ℕ → Bool → ℕ → Missile → Missile
missile_after_strobe nusiz in_blank late m = record m {
  counter = strobed_counter late;
  copy = strobed_missile_copy (size_of nusiz) in_blank late m.copy;
}

-- how far a missile's counter is behind that of the player that lets it go, by the player's width
abbrev pub release_of : ℕ → ℕ
release_of width = if width == 1 then 5 else if width == 2 then 8 else 12

-- A missile after a write of RESMP: if the bit falls its player lets it go. A copy on its way goes
-- on.
abbrev pub missile_after_resmp : ℕ → ℕ → ℕ → Missile → Missile
missile_after_resmp width counter resmp m = record m {
  resmp = resmp;
  counter = if is_locked m && not (has_bit resmp 1) then (counter + 160 - release_of width) % 160 else m.counter;
}

-- whether a missile is lit: what is seen of it, with ENAM and RESMP as they are
abbrev pub is_missile_lit : Missile → Bool
is_missile_lit m = m.seen && has_bit m.enam 1 && not (is_locked m)

-- whether a write that made a missile of another changed ENAM or RESMP
abbrev pub is_missile_changed : Missile → Missile → Bool
is_missile_changed before after = not (before.enam == after.enam && before.resmp == after.resmp)
