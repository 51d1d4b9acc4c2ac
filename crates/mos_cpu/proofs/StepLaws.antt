-- What follows from the definition of an instruction: how many cycles it takes, that each clock of
-- its bus is advanced by them, and what it keeps.
use Rattle.std.proofs.Common.{◌≡◌, ℕ, ◌+◌, ◌-◌, ◌*◌, ◌%◌, ◌≤◌, List, [], ◌∷◌, Option, Some, None}
use Rattle.std.proofs.Common.{Result, Ok, Err, zero-add, refl, ap, sym, ◌∙◌, arith}
use Rattle.std.proofs.Math.Nat.{mod-add-mod}
use Rattle.std.specs.Prelude.{fold, map, IfOk, IfSome}
use Rattle.mos_cpu.specs.Buses.{Meaning, IsClock, IsInvariant}
use Rattle.mos_cpu.specs.Registers.{Registers}
use Rattle.mos_cpu.specs.Opcodes.{row_of}
use Rattle.mos_cpu.specs.Operands.{Instruction, and_then, instruction_byte, operand_of}
use Rattle.mos_cpu.specs.Operands.{row_or_fault, instruction_at}
use Rattle.mos_cpu.specs.Accesses.{accesses_of, instruction_cycles, use_of}
use Rattle.mos_cpu.specs.Execution.{Progress, progress_at, bus_at, after_transfer, after_access, at_start}
use Rattle.mos_cpu.specs.Execution.{execution_of, step_by, step_of}
use Rattle.mos_cpu.specs.Timing.{IsTimed, least_of, AscendsTo, access_clocks, KeepsTime}
use Rattle.mos_cpu.proofs.AccessLemmas.{accesses_of-ascend, cycles_of-least, cycles_of-most}
use Rattle.mos_cpu.proofs.OpcodeLemmas.{row_of-timed}
use Rattle.mos_cpu.specs.declared.fault.CpuFault.{CpuFault}
use Rattle.mos_cpu.specs.declared.opcode_row.Row.{Row}
use Rattle.mos_cpu.specs.declared.operation.Operation.{Operation}
use Rattle.mos_cpu.specs.declared.access.Transfer.{Transfer}
use Rattle.mos_cpu.specs.declared.access.Transfer.TheVariants.{Read, Write}
use Rattle.mos_cpu.specs.declared.access.Access.{Access}

-- What holds of each value that a chain gives.
and_then-ok : {T U : Type 0} (P : U → Type 0) (x : Result T CpuFault) (next : T → Result U CpuFault)
    → ((t : T) → IfOk (next t) P) → IfOk (and_then x next) P
and_then-ok P (Ok t) next h = h t
and_then-ok P (Err fault) next h = tt

documented-ok : {U : Type 0} (P : U → Type 0) (x : Option Row) (opcode at : ℕ) (next : Row → Result U CpuFault)
    → IfSome x IsTimed → ((row : Row) → IsTimed row → IfOk (next row) P)
    → IfOk (and_then (row_or_fault x opcode at) next) P
documented-ok P (Some row) opcode at next timed h = h row timed
documented-ok P None opcode at next timed h = tt

module _ {S : Type 0} (m : Meaning S) where
  -- What holds of each instruction of the table holds of one that was decoded.
  decoded-ok : (s : S) (r : Registers) (P : Instruction → Type 0) → ((i : Instruction) → IsTimed i.row → P i)
      → IfOk (instruction_at m s r) P
  decoded-ok s r P h =
      and_then-ok P (instruction_byte m s r.pc) _
      (λ opcode. documented-ok P (row_of opcode) opcode r.pc _ (row_of-timed opcode)
      (λ row timed. and_then-ok P (operand_of m s r row) _ (λ operand. h _ timed)))

  -- An instruction that was decoded is one of the table.
  pub decoded-timed : (s : S) (r : Registers) → IfOk (instruction_at m s r) (λ i. IsTimed i.row)
  decoded-timed s r = decoded-ok s r (λ i. IsTimed i.row) (λ i timed. timed)

  step_by-ok : (P : ℕ → S → Type 0) (r : Registers) (s : S) (d : Result Instruction CpuFault)
      → IfOk d (λ i. P (instruction_cycles i r.p) (execution_of m r s i).bus)
      → IfOk (step_by m r s d).answer (λ cycles. P cycles (step_by m r s d).bus)
  step_by-ok P r s (Ok i) h = h
  step_by-ok P r s (Err fault) h = tt

  -- What holds of the cycles of each instruction of the table, and of the bus after it, holds of a step.
  step_of-ok : (P : ℕ → S → Type 0) (r : Registers) (s : S)
      → ((i : Instruction) → IsTimed i.row → P (instruction_cycles i r.p) (execution_of m r s i).bus)
      → IfOk (step_of m r s).answer (λ cycles. P cycles (step_of m r s).bus)
  step_of-ok P r s h = step_by-ok P r s (instruction_at m s r) (decoded-ok s r _ h)

-- The cycles of an instruction of the table: 2 to 7, with room for its accesses.
pub cycles_of-timed : (i : Instruction) (p : ℕ) → IsTimed i.row
    → (2 ≤ instruction_cycles i p) × (instruction_cycles i p ≤ 7) × (least_of (use_of i.row.operation) ≤ instruction_cycles i p)
cycles_of-timed i p timed =
    let low = cycles_of-least i p in
    let high = cycles_of-most i p in
    (omega arith, omega arith, omega arith)

module _ {S : Type 0} (m : Meaning S) where
  -- An instruction takes at least 2 cycles.
  pub step_of-least : (r : Registers) (s : S) → IfOk (step_of m r s).answer (λ cycles. 2 ≤ cycles)
  step_of-least r s = step_of-ok m (λ cycles bus. 2 ≤ cycles) r s (λ i timed. (cycles_of-timed i r.p timed).0)

  -- It takes at most 7.
  pub step_of-most : (r : Registers) (s : S) → IfOk (step_of m r s).answer (λ cycles. cycles ≤ 7)
  step_of-most r s = step_of-ok m (λ cycles bus. cycles ≤ 7) r s (λ i timed. (cycles_of-timed i r.p timed).1)

module _ {S : Type 0} (m : Meaning S) (advance : ℕ → ℕ → ℕ) (clock : S → ℕ) (is : IsClock m advance clock) where
  -- A clock is ahead of a time by the cycles of an instruction that are over.
  abbrev IsAhead : ℕ → S → ℕ → Type 0
  IsAhead t bus cycle = (n : ℕ) → advance (clock bus) n ≡ advance t (cycle + n)

  reached-clock : (t : ℕ) (g : Progress S) (cycle : ℕ) → g.cycle ≤ cycle → IsAhead t g.bus g.cycle
      → clock (bus_at m g cycle) ≡ advance t cycle
  reached-clock t g cycle le ahead =
      let e : g.cycle + (cycle - g.cycle) ≡ cycle = omega arith in
      is.passed g.bus (cycle - g.cycle) ∙ ahead (cycle - g.cycle) ∙ ap (advance t) e

  ahead-after : (t : ℕ) (g : Progress S) (cycle : ℕ) (bus : S) → g.cycle ≤ cycle → IsAhead t g.bus g.cycle
      → clock bus ≡ clock (bus_at m g cycle) → IsAhead t bus cycle
  ahead-after t g cycle bus le ahead e n =
      ap (λ (c : ℕ). advance c n) (e ∙ is.passed g.bus (cycle - g.cycle))
      ∙ is.adds (clock g.bus) (cycle - g.cycle) n
      ∙ ahead (cycle - g.cycle + n)
      ∙ ap (advance t) (omega arith)

  -- What holds after whatever shows the clock of an access's cycle holds after the access.
  accessed : (P : Progress S → Type 0) (o : Operation) (p : ℕ) (g : Progress S) (access : Access)
      → ((bus : S) (bytes : List ℕ) → clock bus ≡ clock (bus_at m g access.cycle) → P (progress_at bus access.cycle bytes))
      → P (after_access m o p g access)
  accessed P o p g access h = by access.transfer
    where
      by : (t : Transfer) → P (after_transfer m o p g access.cycle access.address t)
      by Read = h _ _ (is.read _ access.address)
      by (Write source) = h _ _ (is.written _ access.address _)

  -- Each access is made, and the last cycle ends, when that many cycles have passed.
  abbrev IsInTime : Operation → ℕ → ℕ → List Access → ℕ → Progress S → Type 0
  IsInTime o p t accesses last g =
      (access_clocks m clock o p g accesses ≡ map (λ access. advance t access.cycle) accesses)
      × (clock (bus_at m (fold (after_access m o p) g accesses) last) ≡ advance t last)

  accesses-timed : (o : Operation) (p t : ℕ) (g : Progress S) (accesses : List Access) (last : ℕ)
      → AscendsTo g.cycle accesses last → IsAhead t g.bus g.cycle → IsInTime o p t accesses last g
  accesses-timed o p t g [] last ascends ahead = (refl, reached-clock t g last ascends ahead)
  accesses-timed o p t g (access ∷ accesses) last ascends ahead =
      let rest = accessed (IsInTime o p t accesses last) o p g access
      (λ bus bytes e. accesses-timed o p t (progress_at bus access.cycle bytes) accesses last ascends.1
      (ahead-after t g access.cycle bus ascends.0 ahead e)) in
      (rw (reached-clock t g access.cycle ascends.0 ahead, rest.0) refl, rest.1)

  executed-timed : (r : Registers) (s : S) (i : Instruction) → IsTimed i.row
      → (let cycles = instruction_cycles i r.p in
      IsInTime i.row.operation r.p (clock s) (accesses_of i r cycles) cycles (at_start s))
  executed-timed r s i timed =
      let cycles = instruction_cycles i r.p in
      accesses-timed i.row.operation r.p (clock s) (at_start s) (accesses_of i r cycles) cycles
      (accesses_of-ascend i r cycles (cycles_of-timed i r.p timed).2) (λ n. ap (advance (clock s)) (sym (zero-add n)))

  -- A clock of the bus is advanced by the cycles of the instruction.
  pub step_of-clock : (r : Registers) (s : S)
      → IfOk (step_of m r s).answer (λ cycles. clock (step_of m r s).bus ≡ advance (clock s) cycles)
  step_of-clock r s =
      step_of-ok m (λ cycles bus. clock bus ≡ advance (clock s) cycles) r s (λ i timed. (executed-timed r s i timed).1)

-- Each access of an instruction is made when its cycle has passed.
pub decoded-keeps : {S : Type 0} (m : Meaning S) (r : Registers) (s : S) → IfOk (instruction_at m s r) (KeepsTime m r s)
decoded-keeps m r s =
    decoded-ok m s r _ (λ i timed advance clock is. (executed-timed m advance clock is r s i timed).0)

module _ {S : Type 0} (m : Meaning S) (Fact : S → Type 0) (kept : IsInvariant m Fact) where
  fold-kept : (o : Operation) (p : ℕ) (g : Progress S) (accesses : List Access) → Fact g.bus
      → Fact (fold (after_access m o p) g accesses).bus
  fold-kept o p g [] h = h
  fold-kept o p g (access ∷ accesses) h = fold-kept o p (after_access m o p g access) accesses (by access.transfer)
    where
      by : (t : Transfer) → Fact (after_transfer m o p g access.cycle access.address t).bus
      by Read = kept.read _ access.address (kept.passed g.bus (access.cycle - g.cycle) h)
      by (Write source) = kept.written _ access.address _ (kept.passed g.bus (access.cycle - g.cycle) h)

  -- What each call of a bus keeps, an instruction keeps.
  pub step_of-kept : (r : Registers) (s : S) → Fact s → Fact (step_of m r s).bus
  step_of-kept r s h = by (instruction_at m s r)
    where
      by : (d : Result Instruction CpuFault) → Fact (step_by m r s d).bus
      by (Ok i) = kept.passed _ _ (fold-kept i.row.operation r.p (at_start s) (accesses_of i r (instruction_cycles i r.p)) h)
      by (Err fault) = h

-- A count modulo a number, at a rate of so many a cycle, may be a clock.
pub count_modulo-adds : (rate modulus t a b : ℕ)
    → ((t + rate * a) % modulus + rate * b) % modulus ≡ (t + rate * (a + b)) % modulus
count_modulo-adds rate modulus t a b = mod-add-mod (t + rate * a) modulus (rate * b) ∙ ap (λ n. n % modulus) (grind arith)
