use Rattle.std.proofs.Common.{◌≡◌, ◌<◌, ◌^◌, drop}
use Rattle.tia_chip.specs.Collision.{number_from}
use Rattle.tia_chip.proofs.collision.number_of.Given as goal

abbrev pub invariant-loop-bit : goal.invariant-loop-bit
invariant-loop-bit l = record {
  value : number_from l.number (drop l.bit-index l.bits) ≡ number_from 0 l.bits;
  range : l.number < 2 ^ l.bit-index;
}
