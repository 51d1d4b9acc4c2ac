-- The beam over instructions, waits and frames: three colour clocks a cycle.
use Rattle.std.proofs.Common.{◌≡◌, ℕ, zero, suc, ◌+◌, ◌*◌, ◌%◌, ◌<◌, ◌≤◌}
use Rattle.std.proofs.Common.{Bool, true, refl, ap, ◌∙◌, arith}
use Rattle.std.specs.Fn.{iterate}
use Rattle.std.proofs.lemmas.Bool.{cases_Bool}
use Rattle.std.proofs.lemmas.Bool.Decides.{nat_tests}
use Rattle.mos_cpu.specs.Buses.{IsClock, IsInvariant}
use Rattle.mos_cpu.specs.Registers.{Registers}
use Rattle.mos_cpu.specs.Execution.{step_of}
use Rattle.mos_cpu.proofs.StepLaws.{step_of-most, step_of-clock, step_of-kept}
use Rattle.mos_cpu.proofs.StepLaws.{count_modulo-adds}
use Rattle.riot_map.specs.Place.{place_of}
use Rattle.riot_map.specs.declared.places.Place.{Place}
use Rattle.riot_map.specs.declared.places.Place.TheVariants.{Tia}
use Rattle.tia_core.specs.Clock.{after_clock}
use Rattle.tia_core.specs.TiaState.{TiaState}
use Rattle.tia_core.specs.Write.{fields_after, tia_after_write}
use Rattle.tia_core.specs.declared.fields.TiaFields.{TiaFields}
use Rattle.tia_core.specs.declared.register.Register.{Register}
use Rattle.tia_core.proofs.ClockLemmas.{iterate-clocked-clock}
use Rattle.vcs_machine.specs.Consoles.{Console, meaning_of, read_at, written_at, after_wait}
use Rattle.vcs_machine.specs.Consoles.{frame_meaning_of, wait_cycles}
use Rattle.vcs_machine.specs.Frame.{Machine, Went, machine_at, turn}
use Rattle.vcs_machine.specs.Frame.{turns, overlong_cycles, stop_of}
use Rattle.vcs_machine.proofs.ConsoleInvariants.{turns-kept}
use Rattle.vcs_machine.proofs.OneStop.{stop_of-keeps, turn-parts}

-- One clock, wherever the beam is.
clocked-count : (s : TiaState) → (after_clock s).fields.clock % 228 ≡ (s.fields.clock % 228 + 1) % 228
clocked-count s = grind (arith, nat_tests)

iterate-clocked-count : (n : ℕ) (s : TiaState) → (iterate after_clock n s).fields.clock % 228 ≡ (s.fields.clock % 228 + n) % 228
iterate-clocked-count zero s = omega arith
iterate-clocked-count (suc n) s = let one = clocked-count s in let more = iterate-clocked-count n (after_clock s) in omega arith

-- A write leaves the beam.
pub fields_after-clock : (t : TiaFields) (fire0 fire1 : Bool) (r : Register) (v : ℕ) → (fields_after t fire0 fire1 r v).clock ≡ t.clock
fields_after-clock t fire0 fire1 r v = grind arith

module _ {S : Type 0} (drawn : S → ℕ → ℕ → ℕ → S) where
  abbrev clock_of : Console S → ℕ
  clock_of c = c.tia.fields.clock

  pub read_at-clock : (c : Console S) (place : Place) → clock_of (read_at c place) ≡ clock_of c
  read_at-clock c place = grind arith

  pub written_at-clock : (c : Console S) (place : Place) (v : ℕ) → clock_of (written_at c place v) ≡ clock_of c
  unfolding tia_after_write
  written_at-clock c (Tia register) v = fields_after-clock c.tia.fields c.tia.fire0 c.tia.fire1 _ v
  written_at-clock c other v = refl

  is_clock : IsClock (meaning_of drawn) (λ t n. (t + 3 * n) % 228) (λ c. clock_of c % 228)
  unfolding meaning_of
  is_clock = record {
    adds = count_modulo-adds 3 228;
    passed = λ c n. iterate-clocked-count (3 * n) c.tia;
    read = λ c address. ap (λ (t : ℕ). t % 228) (read_at-clock c (place_of address));
    written = λ c address v. ap (λ (t : ℕ). t % 228) (written_at-clock c (place_of address) v);
  }

  -- The beam is in a scanline, a whole number of cycles after its begin.
  abbrev pub IsWhole : Console S → Type 0
  IsWhole c = (clock_of c < 228) × (clock_of c % 3 ≡ 0)

  keeps_whole : IsInvariant (meaning_of drawn) IsWhole
  unfolding meaning_of
  keeps_whole = record {
    passed = λ c n whole. rw (iterate-clocked-clock (3 * n) c.tia whole.0) (let aligned = whole.1 in (omega arith, omega arith));
    read = λ c address whole. rw (read_at-clock c (place_of address)) whole;
    written = λ c address v whole. rw (written_at-clock c (place_of address) v) whole;
  }

  -- So it is after an instruction that has yet to wait.
  pub step-whole : (count : ℕ) (start m : Machine (Console S)) → IsWhole start.bus → turns (frame_meaning_of drawn) count start ≡ Went m
      → IsWhole (step_of (meaning_of drawn) m.registers m.bus).bus
  step-whole count start m whole e =
      step_of-kept (meaning_of drawn) IsWhole keeps_whole m.registers m.bus
      (turns-kept drawn IsWhole keeps_whole (λ c whole. whole) count start m whole e)

  -- A wait ends where a scanline begins.
  pub after_wait-line : (c : Console S) → c.awaits_line ≡ true → c.tia.fields.clock < 228
      → c.tia.fields.clock % 3 ≡ 0 → (after_wait drawn c).tia.fields.clock ≡ 0
  after_wait-line c awaits_line inside aligned = grind (arith, iterate-clocked-clock)

  -- A frame that began at this cycle of its scanline, on its way: so far it took so many cycles, by
  -- which the beam has moved.
  pub record OnItsWay (line_cycle : ℕ) (m : Machine (Console S)) : Type 0 where
    pub beam : m.bus.tia.fields.clock ≡ (3 * line_cycle + 3 * m.cycles) % 228
    pub most : m.cycles ≤ 24401
    pub room : line_cycle + m.cycles ≤ 24472

  -- It is still so after an instruction and its wait.
  after_wait-way : (line_cycle cycles : ℕ) (r : Registers) (c : Console S) → line_cycle < 76 → cycles ≤ 24326
      → clock_of c ≡ (3 * line_cycle + 3 * cycles) % 228
      → OnItsWay line_cycle (record { registers = r; bus = after_wait drawn c; cycles = cycles + wait_cycles c })
  after_wait-way line_cycle cycles r c small short at = grind (arith, cases_Bool, iterate-clocked-clock)

  way-goes_on : (line_cycle : ℕ) → line_cycle < 76 → (m next : Machine (Console S)) → OnItsWay line_cycle m → m.cycles < overlong_cycles
      → turn (frame_meaning_of drawn) m ≡ Went next → OnItsWay line_cycle next
  unfolding frame_meaning_of
  way-goes_on line_cycle small m next way short e =
      let t = turn-parts (frame_meaning_of drawn) m next e in
      let step = step_of (meaning_of drawn) m.registers m.bus in
      let most = rw t.answer at (step_of-most (meaning_of drawn) m.registers m.bus) in
      let moved = rw t.answer at (step_of-clock (meaning_of drawn) (λ t n. (t + 3 * n) % 228) (λ c. clock_of c % 228) is_clock m.registers m.bus) in
      let whole = step_of-kept (meaning_of drawn) IsWhole keeps_whole m.registers m.bus (let beam = way.beam in (omega arith, omega arith)) in
      rw (← t.same) (after_wait-way line_cycle (m.cycles + t.taken) step.registers step.bus small (omega (arith, most))
      (let beam = way.beam in let inside = whole.0 in omega arith))

  pub way-stops : (line_cycle : ℕ) (m : Machine (Console S)) → line_cycle < 76 → m.cycles ≡ 0 → m.bus.tia.fields.clock ≡ 3 * line_cycle
      → OnItsWay line_cycle (machine_at (stop_of (frame_meaning_of drawn) m))
  way-stops line_cycle m small fresh at =
      stop_of-keeps (frame_meaning_of drawn) (OnItsWay line_cycle) (way-goes_on line_cycle small) m
      (record { beam = at ∙ (omega arith); most = omega arith; room = omega arith })
