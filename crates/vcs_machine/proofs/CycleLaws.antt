-- Cycles one by one, and the place of the beam in a frame.
use Rattle.std.proofs.Common.{◌≡◌, ℕ, zero, suc, ◌+◌, ◌*◌, ◌%◌, ◌<◌, ◌≤◌, List, [], ◌∷◌, map}
use Rattle.std.proofs.Common.{IsTrue, Result, Ok, Err, Bool, true, false, refl, sym, ap, ◌∙◌, arith}
use Rattle.std.specs.Prelude.{IfOk}
use Rattle.std.specs.Fn.{iterate}
use Rattle.std.proofs.lemmas.Bool.Decides.{nat_tests}
use Rattle.mos_cpu.specs.Accesses.{accesses_of, instruction_cycles}
use Rattle.mos_cpu.specs.Buses.{IsClock}
use Rattle.mos_cpu.specs.Execution.{step_of}
use Rattle.mos_cpu.specs.Operands.{Instruction, instruction_at}
use Rattle.mos_cpu.specs.Registers.{Registers}
use Rattle.mos_cpu.specs.Timing.{AscendsTo, IsTimed, KeepsTime}
use Rattle.mos_cpu.specs.declared.access.Access.{Access}
use Rattle.mos_cpu.specs.declared.fault.CpuFault.{CpuFault}
use Rattle.mos_cpu.proofs.AccessLemmas.{accesses_of-ascend}
use Rattle.mos_cpu.proofs.StepLaws.{count_modulo-adds, cycles_of-timed, decoded-keeps, decoded-timed}
use Rattle.mos_cpu.proofs.StepLaws.{step_of-clock}
use Rattle.riot_map.specs.Place.{place_of}
use Rattle.riot_map.specs.Riot.{after_cycles}
use Rattle.riot_map.specs.declared.places.Place.{Place}
use Rattle.riot_map.specs.declared.places.Place.TheVariants.{Tia}
use Rattle.tia_core.specs.Beam.{beam_of}
use Rattle.tia_core.specs.Clock.{after_clock}
use Rattle.tia_core.specs.TiaState.{TiaState}
use Rattle.tia_core.specs.Write.{tia_after_write}
use Rattle.vcs_machine.specs.Consoles.{Console, after_wait, frame_meaning_of, meaning_of, passed, read_at}
use Rattle.vcs_machine.specs.Consoles.{wait_cycles, written_at}
use Rattle.vcs_machine.specs.Cycles.{MeetsBeam, after_one_cycle, beam_place, place_after}
use Rattle.vcs_machine.specs.Frame.{Faulty, Machine, Turn, Went, turn, turn_after, turns}
use Rattle.vcs_machine.specs.Inputs.{InputData}
use Rattle.vcs_machine.specs.Outcomes.{machine_of}
use Rattle.vcs_machine.specs.States.{is_state, line_cycle_of}
use Rattle.vcs_machine.specs.declared.fields.StateFields.{StateFields}
use Rattle.vcs_machine.proofs.BeamLaws.{fields_after-clock}
use Rattle.vcs_machine.proofs.OneStop.{turn-parts}
use Rattle.vcs_machine.proofs.PollLemmas.{passed-add}
use Rattle.vcs_machine.proofs.StateLemmas.{clock-thirds, line_cycle-lt}

-- ---- cycles one by one
module _ {S : Type 0} (drawn : S → ℕ → ℕ → ℕ → S) where
  passed-none : (c : Console S) → passed drawn c 0 ≡ c
  unfolding after_cycles
  passed-none c = refl

  passed-one : (c : Console S) → passed drawn c 1 ≡ after_one_cycle drawn c
  unfolding after_cycles
  passed-one c = grind arith

  pub passed-cycles : (n : ℕ) (c : Console S) → passed drawn c n ≡ iterate (after_one_cycle drawn) n c
  passed-cycles zero c = passed-none c
  passed-cycles (suc n) c =
      let e : 1 + n ≡ suc n = omega arith in
      rw e at (sym (passed-add drawn c 1 n)) ∙ passed-cycles n (passed drawn c 1) ∙ ap (iterate (after_one_cycle drawn) n) (passed-one c)

-- ---- the beam's place, among the 14,942,208 clocks of 65,536 lines
-- One clock, wherever the beam is.
clocked-place : (s : TiaState) → beam_of (after_clock s) % 14942208 ≡ (beam_of s % 14942208 + 1) % 14942208
clocked-place s = grind (arith, nat_tests)

iterate-clocked-place : (n : ℕ) (s : TiaState) → beam_of (iterate after_clock n s) % 14942208 ≡ (beam_of s % 14942208 + n) % 14942208
iterate-clocked-place zero s = omega arith
iterate-clocked-place (suc n) s = let one = clocked-place s in let more = iterate-clocked-place n (after_clock s) in omega arith

module _ {S : Type 0} (drawn : S → ℕ → ℕ → ℕ → S) where
  pub read_at-beam : (c : Console S) (place : Place) → beam_of (read_at c place).tia ≡ beam_of c.tia
  read_at-beam c place = grind arith

  pub written_at-beam : (c : Console S) (place : Place) (v : ℕ) → beam_of (written_at c place v).tia ≡ beam_of c.tia
  unfolding tia_after_write
  written_at-beam c (Tia register) v = ap (λ (clock : ℕ). 228 * c.tia.line + clock) (fields_after-clock c.tia.fields c.tia.fire0 c.tia.fire1 _ v)
  written_at-beam c other v = refl

  pub beam-clock : IsClock (meaning_of drawn) place_after beam_place
  unfolding meaning_of
  beam-clock = record {
    adds = count_modulo-adds 3 14942208;
    passed = λ c n. iterate-clocked-place (3 * n) c.tia;
    read = λ c address. ap (λ (t : ℕ). t % 14942208) (read_at-beam c (place_of address));
    written = λ c address v. ap (λ (t : ℕ). t % 14942208) (written_at-beam c (place_of address) v);
  }

  -- A frame that began at this place, on its way.
  abbrev IsAt : ℕ → Machine (Console S) → Type 0
  IsAt start m = beam_place m.bus ≡ place_after start m.cycles

  after_wait-place : (c : Console S) → beam_place (after_wait drawn c) ≡ place_after (beam_place c) (wait_cycles c)
  after_wait-place c = by c.awaits_line refl
    where
      by : (waits : Bool) → c.awaits_line ≡ waits → beam_place (after_wait drawn c) ≡ place_after (beam_place c) (wait_cycles c)
      by true e = rw e (iterate-clocked-place _ c.tia)
      by false e = rw e (omega arith)

  pub turn-place : (start : ℕ) (m next : Machine (Console S)) → IsAt start m → turn (frame_meaning_of drawn) m ≡ Went next → IsAt start next
  unfolding frame_meaning_of
  turn-place start m next at e =
      let t = turn-parts (frame_meaning_of drawn) m next e in
      let step = step_of (meaning_of drawn) m.registers m.bus in
      let moved = rw t.answer at (step_of-clock (meaning_of drawn) place_after beam_place beam-clock m.registers m.bus) in
      rw (← t.same) (after_wait-place step.bus ∙ omega (arith, moved, at))

  pub turns-place : (start : ℕ) (count : ℕ) (first m : Machine (Console S)) → IsAt start first
      → turns (frame_meaning_of drawn) count first ≡ Went m → IsAt start m
  turns-place start zero first m at e = let same : first ≡ m = cc in rw (← same) at
  turns-place start (suc n) first m at e = by (turns (frame_meaning_of drawn) n first) (λ k same. turns-place start n first k at same) e
    where
      by : (t : Turn (Console S)) → ((k : Machine (Console S)) → t ≡ Went k → IsAt start k) → turn_after (frame_meaning_of drawn) t ≡ Went m → IsAt start m
      by (Faulty fault) before after = absurd (cc)
      by (Went k) before after = turn-place start k m (before k refl) after

  -- ---- each access
  ascends-most : (now last : ℕ) (accesses : List Access) → AscendsTo now accesses last → now ≤ last
  ascends-most now last [] ascends = ascends
  ascends-most now last (access ∷ accesses) ascends = let rest = ascends-most access.cycle last accesses ascends.1 in omega (arith, ascends.0)

  near : (place now last : ℕ) (accesses : List Access) → AscendsTo now accesses last → 3 * place + 3 * last < 14942208
      → map (λ access. (3 * place + 3 * access.cycle) % 14942208) accesses ≡ map (λ access. 3 * (place + access.cycle)) accesses
  near place now last [] ascends small = refl
  near place now last (access ∷ accesses) ascends small =
      let most = ascends-most access.cycle last accesses ascends.1 in
      let here : (3 * place + 3 * access.cycle) % 14942208 ≡ 3 * (place + access.cycle) = omega arith in
      rw (here, near place access.cycle last accesses ascends.1 small) refl

  instruction-beam : (r : Registers) (c : Console S) (cycles : ℕ) → cycles ≤ 24476 → beam_place c ≡ 3 * cycles
      → IfOk (instruction_at (meaning_of drawn) c r) (MeetsBeam drawn r c cycles)
  instruction-beam r c cycles few at =
      by (instruction_at (meaning_of drawn) c r) (decoded-keeps (meaning_of drawn) r c) (decoded-timed (meaning_of drawn) c r)
    where
      by : (d : Result Instruction CpuFault) → IfOk d (KeepsTime (meaning_of drawn) r c) → IfOk d (λ i. IsTimed i.row) → IfOk d (MeetsBeam drawn r c cycles)
      by (Err fault) keeps timed = tt
      by (Ok i) keeps timed =
          let timing = cycles_of-timed i r.p timed in
          keeps place_after beam_place beam-clock
          ∙ rw at (near cycles 0 (instruction_cycles i r.p) (accesses_of i r (instruction_cycles i r.p))
          (accesses_of-ascend i r (instruction_cycles i r.p) timing.2) (omega (arith, timing.1)))

  -- ---- a frame from a state
  pub frame-place : (cartridge : List ℕ) (s : StateFields) (i : InputData) (sink : S) (count : ℕ) (m : Machine (Console S)) → IsTrue (is_state s)
      → turns (frame_meaning_of drawn) count (machine_of cartridge s i sink) ≡ Went m → beam_place m.bus ≡ place_after 0 (line_cycle_of s + m.cycles)
  frame-place cartridge s i sink count m lawful e =
      let thirds = clock-thirds s lawful in
      let small = line_cycle-lt s lawful in
      turns-place (3 * line_cycle_of s) count (machine_of cartridge s i sink) m (omega (arith, thirds, small)) e ∙ omega arith

  pub frame-meets : (cartridge : List ℕ) (s : StateFields) (i : InputData) (sink : S) (count : ℕ) (m : Machine (Console S)) → IsTrue (is_state s)
      → turns (frame_meaning_of drawn) count (machine_of cartridge s i sink) ≡ Went m → m.cycles ≤ 24401
      → IfOk (instruction_at (meaning_of drawn) m.bus m.registers) (MeetsBeam drawn m.registers m.bus (line_cycle_of s + m.cycles))
  frame-meets cartridge s i sink count m lawful e short =
      let small = line_cycle-lt s lawful in
      let few : line_cycle_of s + m.cycles ≤ 24476 = omega arith in
      let near : (0 + 3 * (line_cycle_of s + m.cycles)) % 14942208 ≡ 3 * (line_cycle_of s + m.cycles) = omega arith in
      instruction-beam m.registers m.bus (line_cycle_of s + m.cycles) few (frame-place cartridge s i sink count m lawful e ∙ near)
