-- A console does the same whatever its pixels go to: it follows one that draws, where its own sink never changes.
use Rattle.std.proofs.Common.{◌≡◌, ℕ, zero, suc, ◌+◌, false, Option, Some, None, refl, ap, ◌∙◌}
use Rattle.std.specs.Prelude.{Result, Ok, Err, min, nat_le, if◌then◌else◌}
use Rattle.std.specs.Fn.{iterate}
use Rattle.mos_cpu.specs.Execution.{Step}
use Rattle.mos_cpu.specs.Registers.{Registers}
use Rattle.mos_cpu.specs.declared.fault.CpuFault.{CpuFault}
use Rattle.bus_cycles.specs.Execution.{step_of}
use Rattle.riot_chip.specs.Riot.{riot_after_step}
use Rattle.riot_map.specs.Place.{place_of}
use Rattle.riot_map.specs.declared.places.Place.{Place}
use Rattle.riot_map.specs.declared.places.Place.TheVariants.{Cart, Tia, Ram, Io}
use Rattle.tia_chip.specs.Clock.{at_pixel}
use Rattle.tia_chip.specs.Clocks.{with_pixel}
use Rattle.tia_chip.specs.Colour.{pixel_of}
use Rattle.tia_chip.specs.Write.{tia_after_write, effect_of}
use Rattle.tia_chip.specs.declared.effect.Effect.{Effect}
use Rattle.tia_chip.specs.declared.effect.Effect.TheVariants.{Nothing, Sync, FrameEnd}
use Rattle.tia_chip.specs.declared.pixel.Pixel.{Pixel}
use Rattle.chip_machine.specs.Consoles.{Console, after_colour_clock, after_cycle, after_stop, at_read, at_write, byte_at, byte_found}
use Rattle.chip_machine.specs.Consoles.{cycles_to_line_start, found_at, holds_code_at, meaning_of, most_cycles, read_at, seen}
use Rattle.chip_machine.specs.Consoles.{selected, stored_at, with_effect, written_at}
use Rattle.chip_machine.specs.Frame.{Machine, Turn, Faulty, Went, Stop, Ended, Overlong, Faulted, overlong_cycles}
use Rattle.chip_machine.specs.Frame.{turn, turn_by, stop_after, stop_within, stop_of}
use Rattle.chip_machine.proofs.AlongBuses.{Respects, choice-along, step_of-along}

-- steps follow steps
iterate-along : {B C : Type 0} (f : B → B) (g : C → C) (h : B → C) → ((s : B) → g (h s) ≡ h (f s)) → (k : ℕ) (s : B)
    → iterate g k (h s) ≡ h (iterate f k s)
iterate-along f g h follows zero s = refl
iterate-along f g h follows (suc k) s = ap (iterate g k) (follows s) ∙ iterate-along f g h follows k (f s)

module _ {S T : Type 0} (drawn : S → ℕ → ℕ → ℕ → S) (other : T → ℕ → ℕ → ℕ → T) (t : T)
    (fixed : (line x colour : ℕ) → other t line x colour ≡ t) where
  abbrev pub on : Console S → Console T
  on c = record {
    cart = c.cart;
    riot = c.riot;
    tia = c.tia;
    sink = t;
    byte = c.byte;
    is_stopped = c.is_stopped;
    has_ended = c.has_ended;
    cycles = c.cycles;
  }

  pixel-fixed : (pixel : Option Pixel) → with_pixel other t pixel ≡ t
  pixel-fixed None = refl
  pixel-fixed (Some pixel) = fixed pixel.line pixel.x pixel.colour

  clock-along : (c : Console S) → after_colour_clock other (on c) ≡ on (after_colour_clock drawn c)
  clock-along c =
      ap (λ (sink : T). record (on (after_colour_clock drawn c)) { sink = sink }) (pixel-fixed (pixel_of (at_pixel c.tia)))

  cycle-along : (c : Console S) → after_cycle other (on c) ≡ on (after_cycle drawn c)
  cycle-along c =
      ap (λ (x : Console T). record x { riot = riot_after_step x.riot; cycles = min (x.cycles + 1) most_cycles })
      (iterate-along (after_colour_clock drawn) (after_colour_clock other) on clock-along 3 c)

  stop-along : (c : Console S) → after_stop other (on c) ≡ on (after_stop drawn c)
  stop-along c =
      let count = cycles_to_line_start c.tia.clock in
      let passed : Console S = record (iterate (after_cycle drawn) count c) { is_stopped = false } in
      ap (λ (x : Console T). if c.is_stopped then record x { is_stopped = false } else on c)
      (iterate-along (after_cycle drawn) (after_cycle other) on cycle-along count c)
      ∙ choice-along on c.is_stopped passed c

  at_read-along : (c : Console S) (at : ℕ) → at_read other (on c) at ≡ on (at_read drawn c at)
  at_read-along c at =
      ap (λ (x : Console T). selected (after_cycle other x) at None) (stop-along c)
      ∙ ap (λ (x : Console T). selected x at None) (cycle-along (after_stop drawn c))

  at_write-along : (c : Console S) (at byte : ℕ) → at_write other (on c) at byte ≡ on (at_write drawn c at byte)
  at_write-along c at byte = ap (λ (x : Console T). selected x at (Some byte)) (cycle-along c)

  holds-along : (c : Console S) (place : Place) → holds_code_at (on c) place ≡ holds_code_at c place
  holds-along c (Cart address) = refl
  holds-along c (Tia register) = refl
  holds-along c (Ram index) = refl
  holds-along c (Io register) = refl

  byte-along : (c : Console S) (place : Place) → byte_at (on c) place ≡ byte_at c place
  byte-along c (Cart address) = refl
  byte-along c (Tia register) = refl
  byte-along c (Ram index) = refl
  byte-along c (Io register) = refl

  read-along : (c : Console S) (place : Place) (at : ℕ) → seen (read_at (on c) place) at (byte_at (on c) place) ≡ on (seen (read_at c place) at (byte_at c place))
  read-along c (Cart address) at = refl
  read-along c (Tia register) at = refl
  read-along c (Ram index) at = refl
  read-along c (Io register) at = refl

  effect-along : (effect : Effect) (c : Console S) (at byte : ℕ) → seen (with_effect effect (on c)) at byte ≡ on (seen (with_effect effect c) at byte)
  effect-along Nothing c at byte = refl
  effect-along Sync c at byte = refl
  effect-along FrameEnd c at byte = refl

  write-along : (c : Console S) (place : Place) (at byte : ℕ) → seen (written_at (on c) place byte) at byte ≡ on (seen (written_at c place byte) at byte)
  write-along c (Cart address) at byte = refl
  write-along c (Tia register) at byte =
      effect-along (effect_of c.tia register byte) (record c { tia = tia_after_write c.tia register byte }) at byte
  write-along c (Ram index) at byte = refl
  write-along c (Io register) at byte = refl

  pub respects : Respects (meaning_of drawn) (meaning_of other) on
  unfolding meaning_of
  respects = record {
    holds_code = λ c at. holds-along c (place_of at);
    read_value = λ c at.
        ap (λ (here : Console T). byte_found here at) (at_read-along c at) ∙ byte-along (at_read drawn c at) (place_of at);
    after_read = λ c purpose at.
        ap (λ (here : Console T). seen (found_at here at) at (byte_found here at)) (at_read-along c at)
        ∙ read-along (at_read drawn c at) (place_of at) at;
    after_write = λ c at byte.
        ap (λ (here : Console T). seen (stored_at here at byte) at byte) (at_write-along c at byte)
        ∙ write-along (at_write drawn c at byte) (place_of at) at byte;
  }

  -- ---- a frame

  abbrev pub machine_on : Machine S → Machine T
  machine_on m = record { registers = m.registers; console = on m.console }

  abbrev turn_on : Turn S → Turn T
  turn_on (Faulty fault) = Faulty fault
  turn_on (Went m) = Went (machine_on m)

  abbrev pub stop_on : Stop S → Stop T
  stop_on (Ended m) = Ended (machine_on m)
  stop_on Overlong = Overlong
  stop_on (Faulted fault) = Faulted fault

  turn_by-along : (r : Registers) (c : Console S) (answer : Result ℕ CpuFault) → turn_by other r (on c) answer ≡ turn_on (turn_by drawn r c answer)
  turn_by-along r c (Err fault) = refl
  turn_by-along r c (Ok n) = ap (λ (x : Console T). Went (record { registers = r; console = x })) (stop-along c)

  turn-along : (m : Machine S) → turn other (machine_on m) ≡ turn_on (turn drawn m)
  unfolding turn
  turn-along m =
      let step = step_of (meaning_of drawn) m.registers m.console in
      ap (λ (s : Step (Console T)). turn_by other s.registers s.bus s.answer)
      (step_of-along (meaning_of drawn) (meaning_of other) on respects m.registers m.console)
      ∙ turn_by-along step.registers step.bus step.answer

  within-along : (tries : ℕ) (m : Machine S) → stop_within other tries (machine_on m) ≡ stop_on (stop_within drawn tries m)
  unfolding stop_within
  within-along zero m = refl
  within-along (suc n) m =
      ap (λ (x : Turn T). if nat_le overlong_cycles m.console.cycles then Overlong else stop_after other (stop_within other n) x) (turn-along m)
      ∙ ap (λ (x : Stop T). if nat_le overlong_cycles m.console.cycles then Overlong else x) (after (turn drawn m) (within-along n))
      ∙ choice-along stop_on (nat_le overlong_cycles m.console.cycles) Overlong (stop_after drawn (stop_within drawn n) (turn drawn m))
    where
      after : (x : Turn S) → ((m : Machine S) → stop_within other n (machine_on m) ≡ stop_on (stop_within drawn n m))
          → stop_after other (stop_within other n) (turn_on x) ≡ stop_on (stop_after drawn (stop_within drawn n) x)
      after (Faulty fault) later = refl
      after (Went next) later =
          ap (λ (x : Stop T). if next.console.has_ended then Ended (machine_on next) else x) (later next)
          ∙ choice-along stop_on next.console.has_ended (Ended next) (stop_within drawn n next)

  pub stop_of-along : (m : Machine S) → stop_of other (machine_on m) ≡ stop_on (stop_of drawn m)
  unfolding stop_of
  stop_of-along m = within-along overlong_cycles m
