-- Which pixels of a line a player, missile or ball covers, by remainders modulo 160 and divisions.
-- Stella Programmer's Guide: NUSIZ0 and NUSIZ1, REFP0 and REFP1. This project's own: copies wrap at
-- 160.
use Rattle.std.specs.Prelude.{ℕ, ◌-◌, ◌/◌, ◌==◌, ◌&&◌, nat_lt, Bool, if◌then◌else◌, List, [], ◌∷◌}
use Rattle.std.specs.Prelude.{pos, ◌-ℤ◌}
use Rattle.std.specs.List.{list_any}
use Rattle.tia_core.specs.Bits.{has_bit}
use Rattle.tia_core.specs.Position.{modulo_160}

-- how far pixel x lies to the right of a copy of an object, going round from 159 to 0
abbrev pub distance_of : ℕ → ℕ → ℕ → ℕ
distance_of x position copy = modulo_160 (pos x -ℤ pos position -ℤ pos copy)

-- how far the copies of each mode lie to the right of the object's position
abbrev pub copies_of : ℕ → List ℕ
copies_of mode =
    if mode == 1 then 0 ∷ 16 ∷ []
    else if mode == 2 then 0 ∷ 32 ∷ []
    else if mode == 3 then 0 ∷ 16 ∷ 32 ∷ []
    else if mode == 4 then 0 ∷ 64 ∷ []
    else if mode == 6 then 0 ∷ 32 ∷ 64 ∷ []
    else 0 ∷ []

-- the width of a player's copy: double in mode 5, quadruple in mode 7
abbrev pub width_of : ℕ → ℕ
width_of mode = if mode == 5 then 16 else if mode == 7 then 32 else 8

-- whether a copy of a player, of this width, shows a pixel at distance d
abbrev pub is_shown_at : ℕ → Bool → ℕ → ℕ → Bool
is_shown_at width reflected graphic d =
    nat_lt d width && has_bit graphic (if reflected then d / (width / 8) else 7 - d / (width / 8))

abbrev pub player_covers : ℕ → Bool → ℕ → ℕ → ℕ → Bool
player_covers mode reflected graphic position x =
    list_any (λ c. is_shown_at (width_of mode) reflected graphic (distance_of x position c)) (copies_of mode)

-- a missile of this size has its player's copies
abbrev pub missile_covers : ℕ → ℕ → ℕ → ℕ → Bool
missile_covers mode size position x = list_any (λ c. nat_lt (distance_of x position c) size) (copies_of mode)

-- a ball of this size
abbrev pub ball_covers : ℕ → ℕ → ℕ → Bool
ball_covers size position x = nat_lt (distance_of x position 0) size
