-- The cycles of a frame never become fewer, and each instruction takes some.
use Rattle.std.proofs.Common.{◌≡◌, ℕ, zero, suc, ◌+◌, ◌<◌, ◌≤◌, Ok, refl, arith}
use Rattle.std.specs.Prelude.{min}
use Rattle.std.specs.Fn.{iterate}
use Rattle.std.proofs.lemmas.Bool.{cond_both}
use Rattle.mos_cpu.specs.Registers.{Registers}
use Rattle.bus_cycles.specs.Execution.{step_of}
use Rattle.bus_cycles.specs.declared.bus.Purpose.{Purpose}
use Rattle.bus_cycles.specs.declared.bus.Purpose.TheVariants.{Code}
use Rattle.riot_map.specs.Place.{place_of}
use Rattle.riot_map.specs.declared.places.Place.{Place}
use Rattle.riot_map.specs.declared.places.Place.TheVariants.{Cart, Tia, Ram, Io}
use Rattle.tia_chip.specs.Write.{effect_of}
use Rattle.tia_chip.specs.declared.effect.Effect.{Effect}
use Rattle.tia_chip.specs.declared.effect.Effect.TheVariants.{Nothing, Sync, FrameEnd}
use Rattle.chip_machine.specs.Consoles.{Console, after_cycle, after_stop, cycles_to_line_start, most_cycles}
use Rattle.chip_machine.specs.Consoles.{read_at, written_at, with_effect, meaning_of}
use Rattle.chip_machine.proofs.CycleLemmas.{step-kept}

module _ {S : Type 0} (drawn : S → ℕ → ℕ → ℕ → S) where
  cycle-counts : (c : Console S) → (after_cycle drawn c).cycles ≡ min (c.cycles + 1) most_cycles
  cycle-counts c = refl

  -- what is read and written leaves the count
  read_at-counts : (c : Console S) (place : Place) → (read_at c place).cycles ≡ c.cycles
  read_at-counts c (Cart address) = refl
  read_at-counts c (Tia register) = refl
  read_at-counts c (Ram index) = refl
  read_at-counts c (Io register) = refl

  effect-counts : (effect : Effect) (c : Console S) → (with_effect effect c).cycles ≡ c.cycles
  effect-counts Nothing c = refl
  effect-counts Sync c = refl
  effect-counts FrameEnd c = refl

  written_at-counts : (c : Console S) (place : Place) (value : ℕ) → (written_at c place value).cycles ≡ c.cycles
  written_at-counts c (Cart address) value = refl
  written_at-counts c (Tia register) value = effect-counts (effect_of c.tia register value) _
  written_at-counts c (Ram index) value = refl
  written_at-counts c (Io register) value = refl

  module _ (n : ℕ) (counted : n ≤ most_cycles) where
    cycle-past : (c : Console S) → n ≤ c.cycles → n ≤ (after_cycle drawn c).cycles
    cycle-past c past = rw (cycle-counts c) (omega arith)

    cycles-past : (k : ℕ) (c : Console S) → n ≤ c.cycles → n ≤ (iterate (after_cycle drawn) k c).cycles
    cycles-past zero c past = past
    cycles-past (suc k) c past = cycles-past k (after_cycle drawn c) (cycle-past c past)

    pub stop-past : (c : Console S) → n ≤ c.cycles → n ≤ (after_stop drawn c).cycles
    stop-past c past =
        cond_both c.is_stopped _ _ (λ (stopped : Console S). n ≤ stopped.cycles)
        (λ _. cycles-past (cycles_to_line_start c.tia.clock) c past) (λ _. past)

    read-past : (c : Console S) (purpose : Purpose) (at : ℕ) → n ≤ c.cycles → n ≤ ((meaning_of drawn).after_read c purpose at).cycles
    unfolding meaning_of
    read-past c purpose at past = rw (read_at-counts _ (place_of at)) (cycle-past (after_stop drawn c) (stop-past c past))

    write-past : (c : Console S) (at byte : ℕ) → n ≤ c.cycles → n ≤ ((meaning_of drawn).after_write c at byte).cycles
    unfolding meaning_of
    write-past c at byte past = rw (written_at-counts _ (place_of at) byte) (cycle-past c past)

  -- The first access of an instruction takes a cycle.
  first-more : (c : Console S) (purpose : Purpose) (at : ℕ) → c.cycles < most_cycles
      → c.cycles + 1 ≤ ((meaning_of drawn).after_read c purpose at).cycles
  unfolding meaning_of
  first-more c purpose at small =
      let stopped = stop-past c.cycles (omega arith) c (omega arith) in
      rw (read_at-counts _ (place_of at), cycle-counts (after_stop drawn c)) (omega (arith, stopped))

  pub step-more : (r : Registers) (c : Console S) (n : ℕ) → c.cycles < most_cycles → (step_of (meaning_of drawn) r c).answer ≡ Ok n
      → c.cycles < (step_of (meaning_of drawn) r c).bus.cycles
  step-more r c n small answer =
      let k : ℕ = c.cycles + 1 in
      let more = step-kept (meaning_of drawn) (λ (after : Console S). k ≤ after.cycles) (read-past k (omega arith)) (write-past k (omega arith))
      r c n answer (first-more c Code r.pc small) in
      omega (arith, more)
