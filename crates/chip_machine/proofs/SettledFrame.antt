-- A frame that ends leaves a TIA of which a record says all.
use Rattle.std.proofs.Common.{◌≡◌, ℕ, zero, suc, ◌%◌, ◌≤◌, Bool, true, false, Option, Some, None, Ok, arith, refl, subst}
use Rattle.std.specs.Prelude.{Result, Err, IfSome, nat_le, if◌then◌else◌}
use Rattle.mos_cpu.specs.Registers.{Registers}
use Rattle.mos_cpu.specs.declared.fault.CpuFault.{CpuFault}
use Rattle.bus_cycles.specs.Execution.{step_of}
use Rattle.bus_cycles.specs.declared.bus.Purpose.{Purpose}
use Rattle.bus_cycles.specs.declared.bus.Purpose.TheVariants.{Code}
use Rattle.tia_chip.specs.Numbers.{is_settled, is_tia}
use Rattle.tia_chip.specs.PowerOn.{at_frame_start, with_fire}
use Rattle.tia_chip.specs.Registers.{delay_of}
use Rattle.tia_chip.specs.declared.register.Register.TheVariants.{Hmove}
use Rattle.tia_chip.specs.declared.state.TiaState.{TiaState}
use Rattle.chip_machine.specs.Consoles.{Console, after_stop, meaning_of}
use Rattle.chip_machine.specs.Frame.{Machine, Turn, Faulty, Went, Ended, Overlong, overlong_cycles}
use Rattle.chip_machine.specs.Frame.{turn, turn_by, stop_after, stop_within, stop_of}
use Rattle.tia_chip.proofs.AtRestLemmas.{left-settled}
use Rattle.chip_machine.proofs.SettledTia.{IsRunning, IsAtRest, IsWithin, begun-running, left-lawful}
use Rattle.chip_machine.proofs.SettledConsole.{IsFresh, IsDone, Of, fresh-cycle, fresh-read, fresh-done, done-cycle, done-read, read-leads, stop-stays}
use Rattle.chip_machine.proofs.SettledConsole.{Ready-written, Ready-written_twice, Ready-pushed_twice, Ready-pushed_thrice}
use Rattle.chip_machine.proofs.SettledRows.{step-done}

-- An HMOVE acts within seven clocks of its write.
hmove-within : (hmove : Option ℕ) → IfSome hmove (λ clocks. clocks ≤ delay_of Hmove) → IsWithin 7 hmove
hmove-within None h = tt
hmove-within (Some clocks) h = omega arith

module _ {S : Type 0} (drawn : S → ℕ → ℕ → ℕ → S) where
  early-read : (c : Console S) (purpose : Purpose) (at : ℕ) → Of drawn (IsFresh 4) c → Of drawn (IsFresh 3) ((meaning_of drawn).after_read c purpose at)
  early-read =
      read-leads drawn (IsFresh 4) (IsFresh 3) (λ t ended. fresh-cycle 4 4 t ended (omega arith)) (λ t ended. fresh-cycle 4 3 t ended (omega arith))
      (fresh-read 3)

  ready-read : (c : Console S) (purpose : Purpose) (at : ℕ) → Of drawn (IsFresh 3) c → Of drawn (IsFresh 3) ((meaning_of drawn).after_read c purpose at)
  ready-read =
      read-leads drawn (IsFresh 3) (IsFresh 3) (λ t ended. fresh-cycle 3 3 t ended (omega arith)) (λ t ended. fresh-cycle 3 3 t ended (omega arith))
      (fresh-read 3)

  first-read : (c : Console S) (purpose : Purpose) (at : ℕ) → Of drawn (IsFresh 7) c → Of drawn (IsFresh 4) ((meaning_of drawn).after_read c purpose at)
  first-read =
      read-leads drawn (IsFresh 7) (IsFresh 4) (λ t ended. fresh-cycle 7 7 t ended (omega arith)) (λ t ended. fresh-cycle 7 4 t ended (omega arith))
      (fresh-read 4)

  over-read : (c : Console S) (purpose : Purpose) (at : ℕ) → Of drawn IsDone c → Of drawn IsDone ((meaning_of drawn).after_read c purpose at)
  over-read = read-leads drawn IsDone IsDone done-cycle done-cycle done-read

  -- An instruction that takes cycles.
  instruction-done : (r : Registers) (c : Console S) (n : ℕ) → (step_of (meaning_of drawn) r c).answer ≡ Ok n → Of drawn (IsFresh 7) c
      → Of drawn IsDone (step_of (meaning_of drawn) r c).bus
  instruction-done r c n answer h =
      step-done (meaning_of drawn) (Of drawn (IsFresh 4)) (Of drawn (IsFresh 3)) (Of drawn IsDone) early-read ready-read over-read
      (λ c. fresh-done 4 c.tia c.has_ended) (λ c. fresh-done 3 c.tia c.has_ended)
      (Ready-written drawn) (Ready-written_twice drawn) (Ready-pushed_twice drawn) (Ready-pushed_thrice drawn)
      r c n answer (first-read c Code r.pc h)

  -- The same with its stop.
  turn-done : (m next : Machine S) → Of drawn (IsFresh 7) m.console → turn drawn m ≡ Went next → Of drawn IsDone next.console
  unfolding turn
  turn-done m next h e = by (step_of (meaning_of drawn) m.registers m.console).answer refl e
    where
      by : (let step = step_of (meaning_of drawn) m.registers m.console in
          (answer : Result ℕ CpuFault) → step.answer ≡ answer → turn_by drawn step.registers step.bus answer ≡ Went next
          → Of drawn IsDone next.console)
      by (Err fault) is went = absurd (cc)
      by (Ok n) is went =
          let step = step_of (meaning_of drawn) m.registers m.console in
          let same : record { registers = step.registers; console = after_stop drawn step.bus } ≡ next = cc in
          subst (λ (next : Machine S). Of drawn IsDone next.console) same
          (stop-stays drawn IsDone done-cycle step.bus (instruction-done m.registers m.console n is h))

  -- Where it hasn't ended the frame, the next one begins as it did.
  later-fresh : (c : Console S) → c.has_ended ≡ false → Of drawn IsDone c → Of drawn (IsFresh 7) c
  later-fresh c unended h = record { running = h.running; within = hmove-within c.tia.hmove h.running.underway.hmove; unended = unended }

  abbrev IsLeft : Machine S → Type 0
  IsLeft m = IsRunning m.console.tia × IsAtRest m.console.tia

  -- the same of what is left of a frame, with so many tries
  abbrev Later : ℕ → Machine S → Type 0
  Later tries here = (next : Machine S) → Of drawn (IsFresh 7) next.console → stop_within drawn tries next ≡ Ended here → IsLeft here

  ended-left : (tries : ℕ) (m here : Machine S) → Of drawn (IsFresh 7) m.console → stop_within drawn tries m ≡ Ended here
      → IsLeft here
  unfolding stop_within
  ended-left zero m here h e = absurd (cc)
  ended-left (suc tries) m here h e =
      by_length (λ next fresh went. ended-left tries next here fresh went) (nat_le overlong_cycles m.console.cycles) e
    where
      by_end : Later tries here → (next : Machine S) (ended : Bool) → next.console.has_ended ≡ ended → Of drawn IsDone next.console
          → (if ended then Ended next else stop_within drawn tries next) ≡ Ended here → IsLeft here
      by_end later next true is done e =
          let same : next ≡ here = cc in
          subst IsLeft same (done.running, done.at_rest is)
      by_end later next false is done e = later next (later-fresh next.console is done) e

      by_turn : Later tries here → (t : Turn S) → turn drawn m ≡ t → stop_after drawn (stop_within drawn tries) t ≡ Ended here
          → IsLeft here
      by_turn later (Faulty fault) is e = absurd (cc)
      by_turn later (Went next) is e = by_end later next next.console.has_ended refl (turn-done m next h is) e

      by_length : Later tries here → (long : Bool) → (if long then Overlong else stop_after drawn (stop_within drawn tries) (turn drawn m)) ≡ Ended here
          → IsLeft here
      by_length later true e = absurd (cc)
      by_length later false e = by_turn later (turn drawn m) refl e

  stop-left : (m here : Machine S) → Of drawn (IsFresh 7) m.console → stop_of drawn m ≡ Ended here
      → IsLeft here
  unfolding stop_of
  stop-left m here h e = ended-left overlong_cycles m here h e

-- What a frame that began with a record's TIA leaves of it.
pub record IsLawful (t : TiaState) : Type 0 where
  pub lawful : is_tia t ≡ true
  pub settled : is_settled t ≡ true
  pub cycle : t.clock % 3 ≡ 0

pub stop-lawful : {S : Type 0} (drawn : S → ℕ → ℕ → ℕ → S) (m here : Machine S) (t : TiaState) (fire0 fire1 : Bool) → IsLawful t
    → m.console.tia ≡ at_frame_start (with_fire t fire0 fire1) → m.console.has_ended ≡ false → stop_of drawn m ≡ Ended here
    → IsLawful (at_frame_start (with_fire here.console.tia false false))
stop-lawful drawn m here t fire0 fire1 h same unended e =
    let running = begun-running t fire0 fire1 h.lawful h.settled h.cycle in
    let begun : IsFresh 7 (at_frame_start (with_fire t fire0 fire1)) false =
    record { running = running; within = hmove-within t.hmove running.underway.hmove; unended = refl }
    in
    let left = stop-left drawn m here (rw (same, unended) begun) e in
    record { lawful = left-lawful here.console.tia left.0 left.1; settled = left-settled here.console.tia left.1; cycle = left.0.cycle }
