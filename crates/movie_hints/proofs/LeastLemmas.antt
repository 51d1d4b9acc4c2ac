-- The least number of frames between checkpoints, if one stands after the last frame too.
use Rattle.std.proofs.Common.{ℕ, ◌<◌, ◌≤◌, inl, inr, arith}
use Rattle.std.specs.Int.{div_ceil}
use Rattle.std.proofs.lemmas.Bool.{cases_lt}
use Rattle.std.proofs.lemmas.Grind.{div_ceil_times}
use Rattle.std.proofs.lemmas.Nat.{mul-le}

-- with it there are few enough checkpoints
pub few_with_least : (n : ℕ) → 0 < n → div_ceil n (div_ceil n 4095) ≤ 4095
few_with_least n some =
    let least = div_ceil n 4095 in
    let up = div_ceil_times n 4095 (omega arith) in
    let positive : 0 < least = omega (arith, up.0) in
    let count = div_ceil n least in
    let down = (div_ceil_times n least positive).1 in
    elim (cases_lt count 4096) [
      | inl less ↦ omega arith
      | inr le ↦ let more = mul-le 4096 least count least le (omega arith) in absurd (omega (arith, more, down, up.0))
    ]

-- and with a smaller one there aren't
pub least_of_few : (n other : ℕ) → 1 ≤ other → div_ceil n other ≤ 4095 → div_ceil n 4095 ≤ other
least_of_few n other some few =
    let up = (div_ceil_times n other some).0 in
    let bound = mul-le (div_ceil n other) other 4095 other few (omega arith) in
    let down = (div_ceil_times n 4095 (omega arith)).1 in
    omega (arith, up, bound, down)
