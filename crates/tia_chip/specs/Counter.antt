-- The counters of the two players, the two missiles and the ball. Andrew Towers' notes: each object
-- has a counter that goes round in 160 steps, and a copy begins at some of its values; NUSIZ chooses
-- which, as in the Stella Programmer's Guide. Measured in Stella 6.7: the numbers.
use Rattle.std.specs.Prelude.{ℕ, ◌+◌, ◌==◌, Bool, if◌then◌else◌, List, [], ◌∷◌}
use Rattle.std.specs.List.{list_any}

-- a counter after a step
abbrev pub next_counter : ℕ → ℕ
next_counter counter = if counter == 159 then 0 else counter + 1

-- what a strobe of RESP, RESM or RESBL sets a counter to, if it takes effect so many steps late
abbrev pub strobed_counter : ℕ → ℕ
strobed_counter late = 157 + late

-- the counters with whose step a copy begins, by NUSIZ D2 to D0
abbrev pub beginnings_of : ℕ → List ℕ
beginnings_of mode =
    if mode == 1 then 156 ∷ 12 ∷ []
    else if mode == 2 then 156 ∷ 28 ∷ []
    else if mode == 3 then 156 ∷ 12 ∷ 28 ∷ []
    else if mode == 4 then 156 ∷ 60 ∷ []
    else if mode == 6 then 156 ∷ 28 ∷ 60 ∷ []
    else 156 ∷ []

-- whether a copy begins with the step of this counter
abbrev pub begins_copy : ℕ → ℕ → Bool
begins_copy mode counter = list_any (λ beginning. counter == beginning) (beginnings_of mode)
