-- Pixels of one colour, side by side. This project's own.
use Rattle.std.specs.Prelude.{ℕ, zero, suc, ◌+◌}

-- a sink after k pixels of a line in one colour, from x on, where `drawn` is what it says of one
-- pixel
abbrev pub run_drawn : {S : Type 0} → (S → ℕ → ℕ → ℕ → S) → S → ℕ → ℕ → ℕ → ℕ → S
run_drawn drawn sink line x zero colour = sink
run_drawn drawn sink line x (suc k) colour = run_drawn drawn (drawn sink line x colour) line (x + 1) k colour
