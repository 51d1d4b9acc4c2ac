-- The cycles of a frame so far, told by its beam.
use Rattle.std.proofs.Common.{◌≡◌, ℕ, zero, suc, ◌+◌, ◌-◌, ◌*◌, ◌%◌, ◌<◌, ◌≤◌, true, false, inl, inr}
use Rattle.std.proofs.Common.{refl, sym, ◌∙◌, arith}
use Rattle.std.specs.Fn.{iterate}
use Rattle.std.specs.Prelude.{Ok, Err}
use Rattle.std.proofs.lemmas.Bool.{cases_lt}
use Rattle.std.proofs.lemmas.Bool.Decides.{nat_tests}
use Rattle.mos_cpu.specs.Arithmetic.{load_of}
use Rattle.mos_cpu.specs.Buses.{IsInvariant}
use Rattle.mos_cpu.specs.Effects.{with_a}
use Rattle.mos_cpu.specs.Execution.{step_of}
use Rattle.mos_cpu.specs.Registers.{Registers}
use Rattle.mos_cpu.specs.declared.fault.CpuFault.{CpuFault}
use Rattle.mos_cpu.proofs.StepLaws.{step_of-most}
use Rattle.riot_map.specs.Place.{place_of}
use Rattle.riot_map.specs.Riot.{riot_read}
use Rattle.riot_map.specs.declared.places.Place.{Place}
use Rattle.riot_map.specs.declared.places.Place.TheVariants.{Tia, Io}
use Rattle.tia_core.specs.Beam.{beam_of}
use Rattle.tia_core.specs.Clock.{after_clock}
use Rattle.tia_core.specs.TiaState.{TiaState}
use Rattle.tia_core.specs.Write.{tia_after_write}
use Rattle.tia_core.proofs.ClockLemmas.{iterate-clocked-beam, iterate-clocked-clock, iterate-clocked-line}
use Rattle.vcs_machine.specs.Consoles.{Console, after_wait, frame_meaning_of, meaning_of, passed, read_at}
use Rattle.vcs_machine.specs.Consoles.{wait_cycles, written_at}
use Rattle.vcs_machine.specs.Cycles.{beam_place, place_after}
use Rattle.vcs_machine.specs.Frame.{Ended, Faulted, Machine, Went, overlong_cycles, stop_of, turn}
use Rattle.vcs_machine.specs.Private.Lag.{is_late}
use Rattle.vcs_machine.specs.Private.Polls.{GoOn, loaded_at}
use Rattle.vcs_machine.specs.Private.BeamCycles.{IsBegun, IsInside, beam_cycles, machine_since}
use Rattle.vcs_machine.specs.declared.polls.Poll.{Poll}
use Rattle.vcs_machine.proofs.BeamLaws.{read_at-clock, written_at-clock}
use Rattle.vcs_machine.proofs.CycleLaws.{turn-place}
use Rattle.vcs_machine.proofs.ConsoleInvariants.{turn-kept}
use Rattle.vcs_machine.proofs.OneStop.{stops-ended, stops-faulty, stops-later, turn-least, turn-parts}
use Rattle.vcs_machine.proofs.PollLemmas.{IsAtBranch, faulty_turn, quiet_turn, rounds, waited_turn}

-- ---- a line that is not late
-- Clocks bring the beam on by one place each at most.
clocked-most : (s : TiaState) → beam_of (after_clock s) ≤ beam_of s + 1
clocked-most s = grind (arith, nat_tests)

iterate-clocked-most : (n : ℕ) (s : TiaState) → beam_of (iterate after_clock n s) ≤ beam_of s + n
iterate-clocked-most zero s = omega arith
iterate-clocked-most (suc n) s = let one = clocked-most s in let more = iterate-clocked-most n (after_clock s) in omega arith

-- A beam that is in no line stays there.
clocked-outside : (s : TiaState) → 228 ≤ s.fields.clock → (228 ≤ (after_clock s).fields.clock) × ((after_clock s).line ≡ s.line)
clocked-outside s h = grind (arith, nat_tests)

iterate-clocked-outside : (n : ℕ) (s : TiaState) → 228 ≤ s.fields.clock → (iterate after_clock n s).line ≡ s.line
iterate-clocked-outside zero s h = refl
iterate-clocked-outside (suc n) s h = let one = clocked-outside s h in iterate-clocked-outside n (after_clock s) one.0 ∙ one.1

-- The clocks of a line end one line at most.
pub lines-few : (n : ℕ) (s : TiaState) → n ≤ 228 → is_late s ≡ false → (iterate after_clock n s).line < 320
lines-few n s few early =
    let line : s.line < 319 = grind (arith, nat_tests) in
    elim (cases_lt s.fields.clock 228) [
      | inl inside ↦ (let most = iterate-clocked-most n s in omega arith)
      | inr outside ↦ (let same = iterate-clocked-outside n s outside in omega arith)
    ]

-- ---- the beam of a frame on its way
module _ {S : Type 0} (drawn : S → ℕ → ℕ → ℕ → S) where
  read_at-line : (c : Console S) (place : Place) → (read_at c place).tia.line ≡ c.tia.line
  read_at-line c place = grind arith

  written_at-line : (c : Console S) (place : Place) (v : ℕ) → (written_at c place v).tia.line ≡ c.tia.line
  unfolding tia_after_write
  written_at-line c (Tia register) v = refl
  written_at-line c other v = refl

  passed-inside : (c : Console S) (n : ℕ) → IsInside c → IsInside (passed drawn c n)
  passed-inside c n inside = record {
    clock = rw (iterate-clocked-clock (3 * n) c.tia inside.clock) (omega arith);
    line = rw (iterate-clocked-line (3 * n) c.tia inside.clock inside.line) (omega arith);
  }

  keeps_inside : IsInvariant (meaning_of drawn) IsInside
  unfolding meaning_of
  keeps_inside = record {
    passed = passed-inside;
    read = λ c address inside. record {
      clock = rw (read_at-clock drawn c (place_of address)) inside.clock;
      line = rw (read_at-line c (place_of address)) inside.line;
    };
    written = λ c address v inside. record {
      clock = rw (written_at-clock drawn c (place_of address) v) inside.clock;
      line = rw (written_at-line c (place_of address) v) inside.line;
    };
  }

  -- The machine after an instruction with its wait is that which the beam tells.
  pub record IsNext (start : ℕ) (c : Console S) (next : Machine (Console S)) : Type 0 where
    pub begun : IsBegun start next.bus
    pub same : next.cycles ≡ beam_cycles next.bus - start
    pub later : beam_cycles c < beam_cycles next.bus
    pub most : next.cycles ≤ 24401

  wait-most : (c : Console S) → wait_cycles c ≤ 75
  wait-most c = grind arith

  turn-most : (m next : Machine (Console S)) → turn (frame_meaning_of drawn) m ≡ Went next → next.cycles ≤ m.cycles + 82
  unfolding frame_meaning_of
  turn-most m next e =
      let t = turn-parts (frame_meaning_of drawn) m next e in
      let most = rw t.answer at (step_of-most (meaning_of drawn) m.registers m.bus) in
      let wait = wait-most (step_of (meaning_of drawn) m.registers m.bus).bus in
      rw (← t.same) (omega (arith, most, wait))

  pub turn-next : (start : ℕ) (r : Registers) (c : Console S) (next : Machine (Console S)) → IsBegun start c → beam_cycles c - start < overlong_cycles
      → turn (frame_meaning_of drawn) (machine_since start r c) ≡ Went next → IsNext start c next
  turn-next start r c next b short e =
      let m = machine_since start r c in
      let place : ℕ = 3 * start + c.tia.fields.clock % 3 in
      let clock = b.inside.clock in
      let line = b.inside.line in
      let first = b.first in
      let begun = b.begun in
      let at : beam_place c ≡ place_after place (beam_cycles c - start) = omega arith in
      let moved = turn-place drawn place m next at e in
      let inside = turn-kept drawn IsInside keeps_inside (λ c inside. record { clock = inside.clock; line = inside.line }) m next b.inside e in
      let least = turn-least (frame_meaning_of drawn) m next e in
      let most = turn-most m next e in
      let next_clock = inside.clock in
      let next_line = inside.line in
      record {
        begun = record { inside = inside; first = first; begun = omega arith };
        same = omega arith;
        later = omega arith;
        most = omega arith;
      }

  -- The console after cycles that pass at once, and a read of the RIOT.
  pub record IsLater (start : ℕ) (c after : Console S) (n : ℕ) : Type 0 where
    pub begun : IsBegun start after
    pub cycles : beam_cycles after - start ≡ beam_cycles c - start + n
    pub later : beam_cycles c ≤ beam_cycles after

  pub passed-later : (start : ℕ) (c : Console S) (n register : ℕ) → IsBegun start c → beam_cycles c - start + n ≤ overlong_cycles
      → IsLater start c (read_at (passed drawn c n) (Io register)) n
  passed-later start c n register b few =
      let clock = b.inside.clock in
      let first = b.first in
      let begun = b.begun in
      let inside = passed-inside c n b.inside in
      let moved = iterate-clocked-beam (3 * n) c.tia clock (omega arith) in
      record {
        begun = record { inside = record { clock = inside.clock; line = inside.line }; first = first; begun = omega arith };
        cycles = omega arith;
        later = omega arith;
      }

  -- Rounds that are passed at once.
  pub rounds-since : (start : ℕ) (r : Registers) (c : Console S) (poll : Poll) (count : ℕ) → IsBegun start c → IsAtBranch drawn poll (machine_since start r c)
      → 0 < count → GoOn poll c.riot count → beam_cycles c - start + poll.cycles * count ≤ overlong_cycles
      → (let bus = passed drawn c (poll.cycles * count) in
      stop_of (frame_meaning_of drawn) (machine_since start r c)
      ≡ stop_of (frame_meaning_of drawn) (machine_since start (with_a r (load_of (riot_read bus.riot poll.register) r.p)) (read_at bus (Io poll.register))))
  rounds-since start r c poll count b at some on room =
      let n : ℕ = poll.cycles * count in
      let later = passed-later start c n poll.register b room in
      rounds drawn poll (machine_since start r c) at count some on room
      ∙ (λ i. stop_of (frame_meaning_of drawn) (loaded_at r poll.register (passed drawn c n) (sym later.cycles i)))

-- Before line 320 a frame isn't too long.
pub early-short : {S : Type 0} (start : ℕ) (c : Console S) → IsBegun start c → c.tia.line < 320 → beam_cycles c - start < overlong_cycles
early-short start c b early = let clock = b.inside.clock in omega arith

module _ {S : Type 0} (drawn : S → ℕ → ℕ → ℕ → S) (first : Machine (Console S)) (start : ℕ) (r : Registers) (c : Console S) where
  -- A frame on its way stops as it would have stopped from its first machine on.
  pub record IsUnderway : Type 0 where
    pub stops : stop_of (frame_meaning_of drawn) first ≡ stop_of (frame_meaning_of drawn) (machine_since start r c)
    pub begun : IsBegun start c
    pub short : beam_cycles c - start < overlong_cycles

  pub faulty-stop : IsUnderway → (fault : CpuFault) → Err fault ≡ (step_of (meaning_of drawn) r c).answer
      → stop_of (frame_meaning_of drawn) first ≡ Faulted fault (machine_since start r c)
  faulty-stop u fault e =
      let m = machine_since start r c in
      u.stops ∙ stops-faulty (frame_meaning_of drawn) m fault u.short (faulty_turn drawn m fault e)

  -- After an instruction with its wait.
  pub record IsWaited (after_r : Registers) (after : Console S) : Type 0 where
    pub begun : IsBegun start after
    pub later : beam_cycles c < beam_cycles after
    pub most : beam_cycles after - start ≤ 24401
    pub over : after.ended ≡ true → stop_of (frame_meaning_of drawn) first ≡ Ended (machine_since start after_r after)
    pub on : after.ended ≡ false → stop_of (frame_meaning_of drawn) first ≡ stop_of (frame_meaning_of drawn) (machine_since start after_r after)

  pub waited-on : IsUnderway → (n : ℕ) (after_r : Registers) (bus : Console S)
      → (let step = step_of (meaning_of drawn) r c in Ok n ≡ step.answer → after_r ≡ step.registers → bus ≡ step.bus
      → IsWaited after_r (after_wait drawn bus))
  unfolding frame_meaning_of
  waited-on u n after_r bus answer registers left =
      let m = machine_since start r c in
      let after = after_wait drawn bus in
      let next : Machine (Console S) = record { registers = after_r; bus = after; cycles = m.cycles + n + wait_cycles bus } in
      let went = waited_turn drawn m n after_r bus answer registers left in
      let on = turn-next drawn start r c next u.begun u.short went in
      record {
        begun = on.begun;
        later = on.later;
        most = rw (← on.same) on.most;
        over = λ ended. u.stops
            ∙ stops-ended (frame_meaning_of drawn) m next u.short went ended
            ∙ (λ i. Ended (record { registers = after_r; bus = after; cycles = on.same i }));
        on = λ unended. u.stops
            ∙ stops-later (frame_meaning_of drawn) m next u.short went unended
            ∙ (λ i. stop_of (frame_meaning_of drawn) (record { registers = after_r; bus = after; cycles = on.same i }));
      }

-- After an instruction that asked for nothing, before line 320.
pub record IsQuiet {S : Type 0} (drawn : S → ℕ → ℕ → ℕ → S) (first : Machine (Console S)) (start : ℕ) (c : Console S)
    (after_r : Registers) (after : Console S) : Type 0 where
  pub underway : IsUnderway drawn first start after_r after
  pub later : beam_cycles c < beam_cycles after

module _ {S : Type 0} (drawn : S → ℕ → ℕ → ℕ → S) (first : Machine (Console S)) (start : ℕ) (r : Registers) (c : Console S) where
  pub quiet-on : IsUnderway drawn first start r c → (n : ℕ) (after_r : Registers) (bus : Console S)
      → (let step = step_of (meaning_of drawn) r c in Ok n ≡ step.answer → after_r ≡ step.registers → bus ≡ step.bus
      → bus.awaits_line ≡ false → bus.ended ≡ false → bus.tia.line < 320 → IsQuiet drawn first start c after_r bus)
  unfolding frame_meaning_of
  quiet-on u n after_r bus answer registers left no_wait no_end early =
      let m = machine_since start r c in
      let next : Machine (Console S) = record { registers = after_r; bus = bus; cycles = m.cycles + n } in
      let went = quiet_turn drawn m n after_r bus answer registers left no_wait in
      let on = turn-next drawn start r c next u.begun u.short went in
      record {
        underway = record {
          stops = u.stops
              ∙ stops-later (frame_meaning_of drawn) m next u.short went no_end
              ∙ (λ i. stop_of (frame_meaning_of drawn) (record { registers = after_r; bus = bus; cycles = on.same i }));
          begun = on.begun;
          short = early-short start bus on.begun early;
        };
        later = on.later;
      }
