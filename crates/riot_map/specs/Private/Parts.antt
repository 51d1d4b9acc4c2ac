-- The timer as it is kept: the value shown, the cycles until it changes, and whether zero is
-- behind.
use Rattle.std.specs.Prelude.{ℕ, ◌≡◌, ◌<◌, ◌≤◌, Bool, true}

pub record ArePartsLawful (value part interval : ℕ) (past_zero : Bool) : Type 0 where
  pub byte : value < 256
  pub some : 1 ≤ part
  pub most : part ≤ interval
  pub past : past_zero ≡ true → part ≡ 1
