use Rattle.std.proofs.Common.{◌≡◌, ℕ, ◌+◌, ◌-◌, ◌≤◌, ◌&&◌}
use Rattle.std.specs.Prelude.{nat_lt}
use Rattle.tia_chip.specs.Bits.{has_bit}
use Rattle.tia_chip.specs.Private.Lines.{shown_playfield}
use Rattle.tia_chip.proofs.calm.playfield_in.Given as goal

-- the bits of the pixels so far
abbrev pub invariant-loop-k : goal.invariant-loop-k
invariant-loop-k l = record {
  most : l.k ≤ l.count;
  bits : (j : ℕ) → has_bit l.lit j ≡ (nat_lt j l.k && (has_bit l.pixels j && shown_playfield l.tia (l.tia.clock - 68) (l.tia.clock - 68 + j)));
}

abbrev pub decreases-loop-k : goal.decreases-loop-k
decreases-loop-k l = l.count - l.k
