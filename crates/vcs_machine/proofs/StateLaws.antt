-- A frame that begins at a lawful state leaves one.
use Rattle.std.proofs.Common.{◌≡◌, ℕ, zero, suc, ◌*◌, ◌%◌, ◌<◌, ◌≤◌, List, [], IsTrue, arith, refl}
use Rattle.std.proofs.Common.{Bool, true, false, Result, Ok, Err}
use Rattle.std.specs.Fn.{iterate}
use Rattle.std.proofs.lemmas.Bool.Decides.{nat_tests}
use Rattle.mos_cpu.specs.Arithmetic.{asl_of, dec_of, inc_of, lsr_of, rol_of, ror_of}
use Rattle.mos_cpu.specs.Buses.{IsInvariant, Meaning}
use Rattle.mos_cpu.specs.Decimal.{adc_of}
use Rattle.mos_cpu.specs.Effects.{effect_on, with_pc, with_result}
use Rattle.mos_cpu.specs.Execution.{step_by, step_of}
use Rattle.mos_cpu.specs.Operands.{Instruction, Operand, Register, instruction_at}
use Rattle.mos_cpu.specs.Registers.{IsStatus, Registers}
use Rattle.mos_cpu.specs.Status.{has_flag, pulled_of, put_flag}
use Rattle.mos_cpu.specs.declared.arithmetic.Alu.{Alu}
use Rattle.mos_cpu.specs.declared.fault.CpuFault.{CpuFault}
use Rattle.mos_cpu.specs.declared.operation.Operation.{Operation}
use Rattle.mos_cpu.specs.declared.operation.Operation.TheVariants.{Adc, Asl, Dec, Inc, Lsr, Rol, Ror}
use Rattle.mos_cpu.specs.declared.status.Flag.TheVariants.{Carry, Decimal, Interrupt, Negative, Overflow}
use Rattle.mos_cpu.specs.declared.status.Flag.TheVariants.{Zero}
use Rattle.riot_map.specs.Cart.{bank_after}
use Rattle.riot_map.specs.Place.{place_of}
use Rattle.riot_map.specs.Riot.{RiotState, after_cycles, after_read, after_timer_read, after_write, fields_of, riot_of}
use Rattle.riot_map.specs.RiotFields.{is_riot, timer_of}
use Rattle.riot_map.specs.Timer.{Countdown, after_cycle, interval_code, is_interval, is_running, part_left}
use Rattle.riot_map.specs.Timer.{timer_of_write}
use Rattle.riot_map.specs.declared.places.Place.{Place}
use Rattle.riot_map.specs.declared.places.Place.TheVariants.{Cart, Io, Ram, Tia}
use Rattle.riot_map.proofs.RiotNumbers.{interval-back, interval-positive, is_interval-of}
use Rattle.tia_core.specs.Clock.{Pixel}
use Rattle.tia_core.specs.Private.Lawful.{IsLawfulTia}
use Rattle.tia_core.specs.TiaState.{tia_of, with_fire}
use Rattle.tia_core.proofs.FieldLemmas.{frame_begun-lawful, iterate-clocked-lawful, written-lawful}
use Rattle.tia_core.proofs.LawfulNumbers.{lawful_of, passes}
use Rattle.vcs_machine.specs.Consoles.{Console, frame_meaning_of, meaning_of, read_at, with_pixel_logged}
use Rattle.vcs_machine.specs.Consoles.{written_at}
use Rattle.vcs_machine.specs.Frame.{Ended, Machine, Stop, Went, machine_at, stop_of, turn}
use Rattle.vcs_machine.specs.Inputs.{InputData, is_pressed}
use Rattle.vcs_machine.specs.Outcomes.{frame_of, left_by, machine_of, outcome_of, state_left}
use Rattle.vcs_machine.specs.States.{is_state, line_cycle_of}
use Rattle.vcs_machine.specs.declared.fields.StateFields.{StateFields}
use Rattle.vcs_machine.proofs.FrameOutcomes.{stop-way}
use Rattle.vcs_machine.proofs.ConsoleInvariants.{turn-kept}
use Rattle.vcs_machine.proofs.OneStop.{stop_of-keeps, turn-parts}
use Rattle.vcs_machine.proofs.StateLemmas.{parts_of, state_of_parts}

-- ---- the status
put_carry : (on : Bool) (p : ℕ) → IsStatus p → IsStatus (put_flag Carry on p)
put_carry on p h = grind (arith, nat_tests)

put_zero : (on : Bool) (p : ℕ) → IsStatus p → IsStatus (put_flag Zero on p)
put_zero on p h = grind (arith, nat_tests)

put_interrupt : (on : Bool) (p : ℕ) → IsStatus p → IsStatus (put_flag Interrupt on p)
put_interrupt on p h = grind (arith, nat_tests)

put_decimal : (on : Bool) (p : ℕ) → IsStatus p → IsStatus (put_flag Decimal on p)
put_decimal on p h = grind (arith, nat_tests)

put_overflow : (on : Bool) (p : ℕ) → IsStatus p → IsStatus (put_flag Overflow on p)
put_overflow on p h = grind (arith, nat_tests)

put_negative : (on : Bool) (p : ℕ) → IsStatus p → IsStatus (put_flag Negative on p)
put_negative on p h = grind (arith, nat_tests)

pulled : (byte : ℕ) → IsStatus (pulled_of byte)
pulled byte = omega arith

ruleset statuses = (put_carry, put_zero, put_interrupt, put_decimal, put_overflow, put_negative, pulled)

adc-status : (a m p : ℕ) → IsStatus p → IsStatus (adc_of a m p).p
adc-status a m p h = by (has_flag Decimal p) refl
  where
    by : (decimal : Bool) → has_flag Decimal p ≡ decimal → IsStatus (adc_of a m p).p
    by true e = rw e (search statuses)
    by false e = rw e (search statuses)

with_result-status : (operand : Operand) (r : Registers) (o : Alu) → IsStatus o.p → IsStatus (with_result operand r o).p
with_result-status Register r o h = h
with_result-status other r o h = h

effect_on-status : (m : ℕ) (o : Operation) (operand : Operand) (r : Registers) (bytes : List ℕ) → IsStatus r.p
    → IsStatus (effect_on m o operand r bytes).p
effect_on-status m Adc operand r bytes h = adc-status r.a m r.p h
effect_on-status m Asl operand r bytes h = with_result-status operand r (asl_of m r.p) (search statuses)
effect_on-status m Lsr operand r bytes h = with_result-status operand r (lsr_of m r.p) (search statuses)
effect_on-status m Rol operand r bytes h = with_result-status operand r (rol_of m r.p) (search statuses)
effect_on-status m Ror operand r bytes h = with_result-status operand r (ror_of m r.p) (search statuses)
effect_on-status m Inc operand r bytes h = with_result-status operand r (inc_of m r.p) (search statuses)
effect_on-status m Dec operand r bytes h = with_result-status operand r (dec_of m r.p) (search statuses)
effect_on-status m other operand r bytes h = first_of (search statuses, grind (arith, nat_tests))

pub step_of-status : {S : Type 0} (m : Meaning S) (r : Registers) (s : S) → IsStatus r.p → IsStatus (step_of m r s).registers.p
step_of-status m r s h = by (instruction_at m s r)
  where
    by : (d : Result Instruction CpuFault) → IsStatus (step_by m r s d).registers.p
    by (Err fault) = h
    by (Ok i) = effect_on-status _ i.row.operation i.operand (with_pc r _) _ h

-- ---- the timer
abbrev HasInterval : Countdown → Type 0
HasInterval t = is_interval t.interval ≡ true

ticked-interval : (n : ℕ) (t : Countdown) → (iterate after_cycle n t).interval ≡ t.interval
unfolding after_cycle
ticked-interval zero t = refl
ticked-interval (suc n) t = ticked-interval n (after_cycle t)

cycles-interval : (n : ℕ) (r : RiotState) → HasInterval r.timer → HasInterval (after_cycles n r).timer
unfolding after_cycles
cycles-interval n r h = rw (ticked-interval n r.timer) h

read-interval : (r : RiotState) (register : ℕ) → HasInterval r.timer → HasInterval (after_read r register).timer
unfolding after_read after_timer_read
read-interval r register h = grind (arith, nat_tests, h)

write-interval : (r : RiotState) (register v : ℕ) → HasInterval r.timer → HasInterval (after_write r register v).timer
unfolding after_write timer_of_write
write-interval r register v h = grind (arith, nat_tests, h, is_interval-of (register % 4))

code-small : (interval : ℕ) → interval_code interval < 4
code-small interval = grind (arith, nat_tests)

part_left-range : (t : Countdown) → HasInterval t → (1 ≤ part_left t) × (part_left t ≤ t.interval) × (is_running t ≡ false → part_left t ≡ 1)
unfolding part_left
part_left-range t h =
    let positive : 0 < t.interval = rw (interval-back t.interval h) at (interval-positive (interval_code t.interval)) in
    (grind (arith, nat_tests), grind (arith, nat_tests), λ stopped. rw stopped refl)

riot-lawful : (r : RiotState) → HasInterval r.timer → IsTrue (is_riot (fields_of r))
unfolding fields_of is_riot
riot-lawful r h =
    let part = part_left-range r.timer h in
    grind (arith, nat_tests, interval-back r.timer.interval h, code-small r.timer.interval, part.0, part.1, part.2)

-- ---- the console
record IsLawfulConsole {S : Type 0} (c : Console S) : Type 0 where
  timer : HasInterval c.riot.timer
  tia : IsLawfulTia c.tia.fields
  bank : c.bank < 2

bank_after-lt : (cartridge : List ℕ) (bank address : ℕ) → bank < 2 → bank_after cartridge bank address < 2
bank_after-lt cartridge bank address h = grind (arith, nat_tests)

module _ {S : Type 0} (drawn : S → ℕ → ℕ → ℕ → S) where
  read_at-lawful : (c : Console S) (place : Place) → IsLawfulConsole c → IsLawfulConsole (read_at c place)
  read_at-lawful c (Cart address) h = record { timer = h.timer; tia = h.tia; bank = bank_after-lt c.cartridge c.bank address h.bank }
  read_at-lawful c (Io register) h = record { timer = read-interval c.riot register h.timer; tia = h.tia; bank = h.bank }
  read_at-lawful c other h = h

  written_at-lawful : (c : Console S) (place : Place) (v : ℕ) → IsLawfulConsole c → IsLawfulConsole (written_at c place v)
  written_at-lawful c (Cart address) v h = record { timer = h.timer; tia = h.tia; bank = bank_after-lt c.cartridge c.bank address h.bank }
  written_at-lawful c (Tia register) v h = record { timer = h.timer; tia = written-lawful c.tia register v h.tia; bank = h.bank }
  written_at-lawful c (Ram index) v h = record { timer = h.timer; tia = h.tia; bank = h.bank }
  written_at-lawful c (Io register) v h = record { timer = write-interval c.riot register v h.timer; tia = h.tia; bank = h.bank }

  keeps_lawful : IsInvariant (meaning_of drawn) IsLawfulConsole
  unfolding meaning_of
  keeps_lawful = record {
    passed = λ c n h. record {
      timer = cycles-interval n c.riot h.timer;
      tia = iterate-clocked-lawful (3 * n) c.tia h.tia;
      bank = h.bank;
    };
    read = λ c address h. read_at-lawful c (place_of address) h;
    written = λ c address v h. written_at-lawful c (place_of address) v h;
  }

  -- ---- the machine
  record IsLawfulMachine (m : Machine (Console S)) : Type 0 where
    status : IsStatus m.registers.p
    console : IsLawfulConsole m.bus

  turn-lawful : (m next : Machine (Console S)) → IsLawfulMachine m → turn (frame_meaning_of drawn) m ≡ Went next → IsLawfulMachine next
  unfolding frame_meaning_of
  turn-lawful m next h e = record {
    status = (let t = turn-parts (frame_meaning_of drawn) m next e in rw (← t.same) (step_of-status (meaning_of drawn) m.registers m.bus h.status));
    console = turn-kept drawn IsLawfulConsole keeps_lawful (λ c k. record { timer = k.timer; tia = k.tia; bank = k.bank }) m next h.console e;
  }

  start-lawful : (cartridge : List ℕ) (s : StateFields) (i : InputData) (sink : S) → IsTrue (is_state s) → IsLawfulMachine (machine_of cartridge s i sink)
  unfolding riot_of timer_of
  start-lawful cartridge s i sink lawful =
      let parts = parts_of s lawful in
      record {
        status = parts.status;
        console = record {
          timer = is_interval-of s.riot.interval;
          tia = frame_begun-lawful (with_fire (tia_of s.tia) (is_pressed 0 i) (is_pressed 1 i)) (lawful_of s.tia parts.tia);
          bank = parts.bank;
        };
      }

  stop-lawful : (cartridge : List ℕ) (s : StateFields) (i : InputData) (sink : S) → IsTrue (is_state s)
      → IsLawfulMachine (machine_at (stop_of (frame_meaning_of drawn) (machine_of cartridge s i sink)))
  stop-lawful cartridge s i sink lawful =
      stop_of-keeps (frame_meaning_of drawn) IsLawfulMachine (λ m next h short. turn-lawful m next h) (machine_of cartridge s i sink)
      (start-lawful cartridge s i sink lawful)

  left-lawful : (m : Machine (Console S)) → m.bus.tia.fields.clock % 3 ≡ 0 → IsLawfulMachine m → IsTrue (is_state (state_left m))
  left-lawful m aligned h = state_of_parts (state_left m) (record {
    status = h.status;
    riot = riot-lawful m.bus.riot h.console.timer;
    tia = passes m.bus.tia.fields h.console.tia;
    aligned = aligned;
    bank = h.console.bank;
  })

left_by-stop : (line_cycle : ℕ) (stop : Stop (Console (List Pixel))) → left_by (outcome_of line_cycle stop) ≡ state_left (machine_at stop)
left_by-stop line_cycle (Ended m) = refl
left_by-stop line_cycle other = refl

pub frame_of-lawful : (cartridge : List ℕ) (s : StateFields) (i : InputData) → IsTrue (is_state s) → IsTrue (is_state (left_by (frame_of cartridge s i)))
unfolding frame_of
frame_of-lawful cartridge s i lawful =
    let stop = stop_of (frame_meaning_of with_pixel_logged) (machine_of cartridge s i []) in
    let beam = (stop-way with_pixel_logged cartridge s i [] lawful).beam in
    rw (left_by-stop (line_cycle_of s) stop)
    (left-lawful with_pixel_logged (machine_at stop) (omega (arith, beam)) (stop-lawful with_pixel_logged cartridge s i [] lawful))
