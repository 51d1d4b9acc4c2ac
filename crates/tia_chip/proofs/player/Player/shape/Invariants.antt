use Rattle.std.proofs.Common.{◌≡◌, ℕ, ◌-◌, ◌≤◌, ◌&&◌}
use Rattle.std.specs.Prelude.{nat_lt}
use Rattle.tia_chip.specs.Bits.{has_bit}
use Rattle.tia_chip.specs.Player.{width_of}
use Rattle.tia_chip.specs.Quiet.{first_drawn, shows_one_at_age}
use Rattle.tia_chip.proofs.player.Player.shape.Given as goal

abbrev pub invariant-loop-age : goal.invariant-loop-age
invariant-loop-age l = record {
  first : first_drawn l.width ≤ l.age;
  most : l.age ≤ l.end;
  bits : (age : ℕ) → has_bit l.shape age ≡ (nat_lt age l.age && shows_one_at_age l.self (width_of l.self.nusiz) age);
}

abbrev pub decreases-loop-age : goal.decreases-loop-age
decreases-loop-age l = l.end - l.age
