-- A frame that goes on by one instruction.
use Rattle.std.proofs.Common.{◌≡◌, ℕ, ◌<◌, false, refl, arith}
use Rattle.std.specs.Prelude.{nat_le, Ok}
use Rattle.std.proofs.lemmas.Bool.{or_parts}
use Rattle.std.proofs.lemmas.Bool.Decides.{nat_tests}
use Rattle.chip_machine.specs.Frame.{Turn as TurnOfChip, Faulty as FaultyByChip, Went as WentByChip, turn as turn_by_chip}
use Rattle.chip_machine.proofs.StopLemmas.{turn-more}
use Rattle.tia_core.specs.declared.paint.NoPaint.{NoPaint}
use Rattle.vcs_machine.specs.Frame.{Turn, Faulty, Went, turn as turn_by_guide}
use Rattle.vcs_machine.specs.Instructions.{Undrawn, undrawn_meaning}
use Rattle.vcs_machine.proofs.OneStop.{turn-least}
use Rattle.movie_machine.specs.Instructions.{Underway, Guide, Chip, after_turn, after_turn_by_chip, cycles_of, is_over, next_of}

-- One that isn't over is short.
pub short_of : (here : Underway) → is_over here ≡ false → cycles_of here < 77824
short_of (Guide bytes cycle m) going = let parts = or_parts (undrawn_meaning.ended m.bus) (nat_le 24320 m.cycles) going in grind (arith, nat_tests)
short_of (Chip cartridge m) going = let parts = or_parts m.console.has_ended (nat_le 77824 m.console.cycles) going in grind (arith, nat_tests)

-- An instruction takes some cycles.
pub next-later : (here next : Underway) → is_over here ≡ false → next_of here ≡ Ok next → cycles_of here < cycles_of next
next-later (Guide bytes cycle m) next going e = by (turn_by_guide undrawn_meaning m) refl e
  where
    by : (t : Turn Undrawn) → turn_by_guide undrawn_meaning m ≡ t → after_turn bytes cycle t ≡ Ok next → m.cycles < cycles_of next
    by (Faulty fault) is e = absurd (cc)
    by (Went later) is e =
        let same : Guide bytes cycle later ≡ next = cc in
        let more = turn-least undrawn_meaning m later is in rw (← same) (omega (arith, more))
next-later (Chip cartridge m) next going e = by (turn_by_chip undrawn m) refl e
  where
    undrawn : NoPaint → ℕ → ℕ → ℕ → NoPaint
    undrawn s line x colour = s

    by : (t : TurnOfChip NoPaint) → turn_by_chip undrawn m ≡ t → after_turn_by_chip cartridge t ≡ Ok next → m.console.cycles < cycles_of next
    by (FaultyByChip fault) is e = absurd (cc)
    by (WentByChip later) is e =
        let same : Chip cartridge later ≡ next = cc in
        rw (← same) (turn-more undrawn m later (short_of (Chip cartridge m) going) is)
