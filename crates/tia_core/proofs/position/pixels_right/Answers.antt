use Rattle.std.proofs.Common.{◌≡◌, ◌==◌, ◌/◌, ◌%◌, ◌-◌, ◌<◌, ℕ, true, nat_lt, if◌then◌else◌, slice_index_or, refl, arith}
use Rattle.std.proofs.lemmas.Bool.{agree_below_at, eqb-true}
use Rattle.tia_core.specs.declared.position.TheConstants.{MOVES}
use Rattle.tia_core.proofs.Tables.{table_below}
use Rattle.tia_core.proofs.position.pixels_right.Goals as goal

abbrev right : ℕ → ℕ
right n = if nat_lt n 8 then (160 - n) % 160 else 16 - n

moves-at : (n : ℕ) → n < 16 → slice_index_or MOVES.now n 0 ≡ right n
moves-at n h = eqb-true _ _ (agree_below_at (λ m. slice_index_or MOVES.now m 0 == right m) (λ m. true) 16 n refl h)

pub returns : goal.returns
returns c = record {
  value = moves-at (c.args.motion / 16) (omega (arith, c.ranges.motion.fits));
  range = table_below (λ n. slice_index_or MOVES.now n 0) 16 160 refl (c.args.motion / 16) (omega (arith, c.ranges.motion.fits));
}
