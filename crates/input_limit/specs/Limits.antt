-- How long an input may be. This project's own.
use Rattle.std.specs.Prelude.{ℕ}

-- The most bytes of one input.
abbrev pub input_limit : ℕ
input_limit = 16777216
