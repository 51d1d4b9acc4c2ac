-- What HMOVE's pulses in the blank make of a player. Andrew Towers' notes: HMOVE counts pulses, and an
-- object makes a step with each until the count meets its register.
use Rattle.std.specs.Prelude.{ℕ, zero, suc, ◌+◌, ◌%◌, ◌==◌, ◌&&◌, min, if◌then◌else◌}
use Rattle.tia_chip.specs.Motion.{still_moves}
use Rattle.tia_chip.specs.Player.{player_after_step}
use Rattle.tia_chip.specs.declared.player.Player.{Player}

-- With how many of the next n pulses an object makes a step that makes `most` of them in all, if so many
-- are counted: the count is compared modulo 16, and stops at 16.
abbrev pub moving_steps : ℕ → ℕ → ℕ → ℕ
moving_steps most pulses zero = 0
moving_steps most pulses (suc n) =
    if most == pulses % 16 then 0 else suc (moving_steps most (min (pulses + 1) 16) n)

-- a player after a pulse in the blank, if so many are counted
abbrev pub pulsed_player : ℕ → Player → Player
pulsed_player pulses p =
    let now = record p { moves = p.moves && still_moves p.hmp pulses } in
    if now.moves then player_after_step now else now

-- after n of them
abbrev pub player_after_pulses : ℕ → ℕ → Player → Player
player_after_pulses pulses zero p = p
player_after_pulses pulses (suc n) p = player_after_pulses (min (pulses + 1) 16) n (pulsed_player pulses p)
