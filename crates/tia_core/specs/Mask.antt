-- The pixels of a line that an object covers, as 160 truth values. This project's own.
use Rattle.std.specs.Prelude.{ℕ, zero, suc, ◌+◌, ◌||◌, Bool, false, List, slice_index_or}

-- whether a mask covers pixel x
abbrev pub covers : List Bool → ℕ → Bool
covers mask x = slice_index_or mask x false

-- whether one of k pixels from x on passes a test
abbrev pub any_from : (ℕ → Bool) → ℕ → ℕ → Bool
any_from test x zero = false
any_from test x (suc k) = test x || any_from test (x + 1) k
