-- As many rows as a frame has at its begin it has at its end.
use Rattle.std.proofs.Common.{◌≡◌, ℕ, zero, suc, false, length, Option, Some, None, Ok, Err, refl, ◌∙◌}
use Rattle.std.specs.Fn.{iterate}
use Rattle.std.specs.Prelude.{Result, ◌&&◌, nat_lt}
use Rattle.std.proofs.lemmas.Bool.{cond_both}
use Rattle.std.proofs.lemmas.List.{length-set}
use Rattle.bus_cycles.specs.Execution.{step_of}
use Rattle.bus_cycles.specs.declared.bus.Purpose.{Purpose}
use Rattle.bus_cycles.specs.declared.bus.Purpose.TheVariants.{Code}
use Rattle.mos_cpu.specs.declared.fault.CpuFault.{CpuFault}
use Rattle.riot_map.specs.Place.{place_of}
use Rattle.riot_map.specs.declared.places.Place.{Place}
use Rattle.riot_map.specs.declared.places.Place.TheVariants.{Cart, Tia, Ram, Io}
use Rattle.tia_chip.specs.Clock.{at_pixel}
use Rattle.tia_chip.specs.Clocks.{with_pixel}
use Rattle.tia_chip.specs.Colour.{pixel_of}
use Rattle.tia_chip.specs.Write.{effect_of}
use Rattle.tia_chip.specs.declared.effect.Effect.{Effect}
use Rattle.tia_chip.specs.declared.effect.Effect.TheVariants.{Nothing, Sync, FrameEnd}
use Rattle.tia_chip.specs.declared.pixel.Pixel.{Pixel}
use Rattle.vcs_machine.specs.Pictures.{Rows, with_pixel as with_pixel_in}
use Rattle.chip_machine.specs.Consoles.{Console, after_colour_clock, after_cycle, after_stop, cycles_to_line_start, meaning_of}
use Rattle.chip_machine.specs.Consoles.{read_at, with_effect, written_at}
use Rattle.chip_machine.specs.Frame.{Machine, Went, Ended, turn, turn_by, stop_of}
use Rattle.chip_machine.proofs.CycleLemmas.{step-kept}
use Rattle.chip_machine.proofs.TurnLemmas.{ended-kept}

pixel-length : (rows : Rows) (line x colour : ℕ) → length (with_pixel_in rows line x colour) ≡ length rows
pixel-length rows line x colour =
    cond_both (nat_lt line (length rows) && nat_lt x 160) _ _ (λ (r : Rows). length r ≡ length rows) (λ _. length-set rows line _) (λ _. refl)

drawn-length : (rows : Rows) (pixel : Option Pixel) → length (with_pixel with_pixel_in rows pixel) ≡ length rows
drawn-length rows None = refl
drawn-length rows (Some pixel) = pixel-length rows pixel.line pixel.x pixel.colour

-- what is read and written leaves the sink
read_at-sink : {S : Type 0} (c : Console S) (place : Place) → (read_at c place).sink ≡ c.sink
read_at-sink c (Cart address) = refl
read_at-sink c (Tia register) = refl
read_at-sink c (Ram index) = refl
read_at-sink c (Io register) = refl

effect-sink : {S : Type 0} (effect : Effect) (c : Console S) → (with_effect effect c).sink ≡ c.sink
effect-sink Nothing c = refl
effect-sink Sync c = refl
effect-sink FrameEnd c = refl

written_at-sink : {S : Type 0} (c : Console S) (place : Place) (value : ℕ) → (written_at c place value).sink ≡ c.sink
written_at-sink c (Cart address) value = refl
written_at-sink c (Tia register) value = effect-sink (effect_of c.tia register value) _
written_at-sink c (Ram index) value = refl
written_at-sink c (Io register) value = refl

module _ (n : ℕ) where
  abbrev HasRows : Console Rows → Type 0
  HasRows c = length c.sink ≡ n

  clock-kept : (c : Console Rows) → HasRows c → HasRows (after_colour_clock with_pixel_in c)
  clock-kept c has = drawn-length c.sink (pixel_of (at_pixel c.tia)) ∙ has

  cycle-kept : (c : Console Rows) → HasRows c → HasRows (after_cycle with_pixel_in c)
  cycle-kept c has =
      let once = after_colour_clock with_pixel_in c in
      let twice = after_colour_clock with_pixel_in once in
      clock-kept twice (clock-kept once (clock-kept c has))

  cycles-kept : (k : ℕ) (c : Console Rows) → HasRows c → HasRows (iterate (after_cycle with_pixel_in) k c)
  cycles-kept zero c has = has
  cycles-kept (suc k) c has = cycles-kept k (after_cycle with_pixel_in c) (cycle-kept c has)

  stop-kept : (c : Console Rows) → HasRows c → HasRows (after_stop with_pixel_in c)
  stop-kept c has =
      cond_both c.is_stopped _ _ HasRows (λ _. cycles-kept (cycles_to_line_start c.tia.clock) c has) (λ _. has)

  read-kept : (c : Console Rows) (purpose : Purpose) (at : ℕ) → HasRows c → HasRows ((meaning_of with_pixel_in).after_read c purpose at)
  unfolding meaning_of
  read-kept c purpose at has = rw (read_at-sink _ (place_of at)) (cycle-kept (after_stop with_pixel_in c) (stop-kept c has))

  write-kept : (c : Console Rows) (at byte : ℕ) → HasRows c → HasRows ((meaning_of with_pixel_in).after_write c at byte)
  unfolding meaning_of
  write-kept c at byte has = rw (written_at-sink _ (place_of at) byte) (cycle-kept c has)

  turn-kept : (m next : Machine Rows) → HasRows m.console → m.console.has_ended ≡ false → turn with_pixel_in m ≡ Went next → HasRows next.console
  unfolding turn
  turn-kept m next has unended e = by (step_of (meaning_of with_pixel_in) m.registers m.console).answer refl e
    where
      by : (let step = step_of (meaning_of with_pixel_in) m.registers m.console in
          (answer : Result ℕ CpuFault) → step.answer ≡ answer → turn_by with_pixel_in step.registers step.bus answer ≡ Went next
          → HasRows next.console)
      by (Err fault) is went = absurd (cc)
      by (Ok n) is went =
          let step = step_of (meaning_of with_pixel_in) m.registers m.console in
          let same : record { registers = step.registers; console = after_stop with_pixel_in step.bus } ≡ next = cc in
          let kept = step-kept (meaning_of with_pixel_in) HasRows read-kept write-kept m.registers m.console n is
          (read-kept m.console Code m.registers.pc has) in
          rw (← same) (stop-kept step.bus kept)

  -- at the end of a frame
  pub rows-kept : (m end : Machine Rows) → HasRows m.console → m.console.has_ended ≡ false
      → stop_of with_pixel_in m ≡ Ended end → HasRows end.console
  rows-kept m end has unended e = (ended-kept with_pixel_in (λ (m : Machine Rows). HasRows m.console) turn-kept m end has unended e).0
