-- A step where its row and its operand are known, by how the operation uses its operand.
use Rattle.std.proofs.Common.{◌≡◌, ℕ, ◌+◌, ◌%◌, Bool, true, false, [], Option, Some, None, Result}
use Rattle.std.proofs.Common.{Ok, Err, refl, sym, rules, arith, tests}
use Rattle.std.proofs.Math.Nat.{sub-zero}
use Rattle.std.proofs.lemmas.Bool.{and_parts}
use Rattle.std.specs.Prelude.{IsErr, IfSome, not, if◌then◌else◌}
use Rattle.mos_cpu.specs.Accesses.{StoredByte, stored_byte, is_taken}
use Rattle.mos_cpu.proofs.OpcodeLemmas.{names_low, needs_low, row_of-told}
use Rattle.mos_cpu.specs.Buses.{Meaning}
use Rattle.mos_cpu.specs.Effects.{changed_of, effect, with_a, with_p, with_pc}
use Rattle.mos_cpu.specs.Execution.{execution_of, step_of}
use Rattle.mos_cpu.specs.Opcodes.{row_of, row_with}
use Rattle.mos_cpu.specs.Operands.{Operand, Register, Value, Place, and_then}
use Rattle.mos_cpu.specs.Operands.{instruction_byte, branch_target, row_or_fault, operand_by_mode}
use Rattle.mos_cpu.specs.Operands.{operand_of, takes_vector, instruction_at}
use Rattle.mos_cpu.specs.Registers.{Registers}
use Rattle.mos_cpu.specs.Private.OpcodeRuns.{has_low, row_here, IsRow, IsLow, IsTarget, IsStepOf}
use Rattle.mos_cpu.specs.Private.OpcodeRuns.{IsReader, IsStorer, IsChanger, IsBranch, IsImplied}
use Rattle.mos_cpu.specs.declared.addressing.Target.{Target}
use Rattle.mos_cpu.specs.declared.fault.CpuFault.{CpuFault}
use Rattle.mos_cpu.specs.declared.opcode_row.Row.{Row}
use Rattle.mos_cpu.specs.declared.operation.Operation.{Operation}
use Rattle.mos_cpu.specs.declared.mode.Mode.{Mode}
use Rattle.mos_cpu.specs.declared.mode.Mode.TheVariants.{Implied, Accumulator, Immediate}
use Rattle.mos_cpu.specs.declared.mode.Mode.TheVariants.{Relative}

-- The third of three steps where the first two give a value.
chained : {T U : Type 0} (x : Result ℕ CpuFault) (f : ℕ → Result T CpuFault) (g : T → Result U CpuFault) (t : T)
    → ◌≡◌ {A = Result T CpuFault} (and_then x f) (Ok t) → and_then x (λ n. and_then (f n) g) ≡ g t
chained (Ok n) f g t e = rw e refl
chained (Err fault) f g t e = cc

-- A chain is a fault where its first part is.
pub and_then-err : {T U : Type 0} (x : Result T CpuFault) (f : T → Result U CpuFault) → IsErr x → IsErr (and_then x f)
and_then-err (Ok t) f h = cc
and_then-err (Err fault) f h = h

module _ {S : Type 0} (m : Meaning S) (r : Registers) (s : S) where
  -- The instruction at a known row is by its operand alone.
  decoded : (row : Row) → ◌≡◌ {A = Result Row CpuFault} (row_here m s r) (Ok row)
      → instruction_at m s r ≡ and_then (operand_of m s r row) (λ operand. Ok (record { row = row; operand = operand }))
  decoded row here =
      chained (instruction_byte m s r.pc) (λ opcode. row_or_fault (row_of opcode) opcode r.pc)
      (λ (row : Row). and_then (operand_of m s r row) (λ operand. Ok (record { row = row; operand = operand }))) row here

  pub step_of-known : (row : Row) (operand : Operand) → ◌≡◌ {A = Result Row CpuFault} (row_here m s r) (Ok row)
      → takes_vector row.operation ≡ false → ◌≡◌ {A = Result Operand CpuFault} (operand_by_mode m s r row.mode) (Ok operand)
      → step_of m r s ≡ execution_of m r s (record { row = row; operand = operand })
  step_of-known row operand here plain named = rw (decoded row here, plain, named) refl

  -- An instruction whose operand is a fault is one.
  pub decoded-err : (row : Row) → ◌≡◌ {A = Result Row CpuFault} (row_here m s r) (Ok row)
      → takes_vector row.operation ≡ false → IsErr (operand_by_mode m s r row.mode) → IsErr (instruction_at m s r)
  decoded-err row here plain err = rw (decoded row here, plain) (and_then-err _ _ err)

  pub step_of-read : (o : Operation) (mode : Mode) (cycles : ℕ) (crossing : Bool) (t : Target) (n : ℕ)
      → IsReader o → ◌≡◌ {A = Result Row CpuFault} (row_here m s r) (Ok (row_with o mode cycles crossing))
      → IsTarget m s r mode t → n ≡ cycles + (if crossing then (if t.crossed then 1 else 0) else 0)
      → (let reached = m.passed s n in
      step_of m r s ≡ record {
        answer = Ok n;
        registers = effect o (Value (m.read_value reached t.address)) (with_pc r t.next) [];
        bus = m.passed (m.after_read reached t.address) 0;
      })
  step_of-read o mode cycles crossing t n reads here target e =
      rw (step_of-known _ _ here reads.plain target.named, reads.used, ← target.next, e, reads.same) (search rules)

  pub step_of-value : (o : Operation) (low : ℕ) → IsReader o → IsRow m s r o Immediate 2 false → IsLow m s r low
      → IsStepOf m r s 2 (effect o (Value low) (with_pc r ((r.pc + 2) % 65536)) []) (m.passed s 2)
  step_of-value o low reads here e =
      rw (step_of-known _ (Value low) here reads.plain (rw e refl), reads.used) refl

  pub step_of-store : (o : Operation) (what : StoredByte) (mode : Mode) (cycles : ℕ) (t : Target) → IsStorer o what
      → IsRow m s r o mode cycles false → IsTarget m s r mode t
      → IsStepOf m r s cycles (with_pc r t.next) (m.passed (m.after_write (m.passed s cycles) t.address (stored_byte what r)) 0)
  step_of-store o what mode cycles t stores here target =
      rw (step_of-known _ _ here stores.plain target.named, stores.used, ← target.next, stores.idle) (search rules)

  pub step_of-change : (o : Operation) (mode : Mode) (reading : ℕ) (t : Target) → IsChanger o
      → IsRow m s r o mode (reading + 2) false → IsTarget m s r mode t
      → (let reached = m.passed s reading in
      let byte = m.read_value reached t.address in
      let written_back = m.after_write (m.passed (m.after_read reached t.address) 1) t.address byte in
      let outcome = changed_of o byte r.p in
      IsStepOf m r s (reading + 2) (with_p (with_pc r t.next) outcome.p)
      (m.passed (m.after_write (m.passed written_back 1) t.address outcome.value) 0))
  step_of-change o mode reading t changes here target =
      rw (step_of-known _ _ here changes.plain target.named, changes.used, ← target.next, changes.in_memory) (search rules)

  pub step_of-change_a : (o : Operation) → IsChanger o → IsRow m s r o Accumulator 2 false
      → IsStepOf m r s 2 (with_a (with_pc r ((r.pc + 1) % 65536)) (changed_of o r.a r.p)) (m.passed s 2)
  step_of-change_a o changes here =
      rw (step_of-known _ Register here changes.plain refl, changes.used, changes.in_a) refl

  pub step_of-implied : (o : Operation) → IsImplied o → IsRow m s r o Implied 2 false
      → IsStepOf m r s 2 (effect o Register (with_pc r ((r.pc + 1) % 65536)) []) (m.passed s 2)
  step_of-implied o implied here = rw (step_of-known _ Register here implied.plain refl, implied.used) refl

  pub step_of-taken : (o : Operation) (low : ℕ) (t : Target) (cycles : ℕ)
      → cycles ≡ 3 + (if t.crossed then 1 else 0) → IsBranch o → IsRow m s r o Relative 2 false
      → IsLow m s r low
      → Place t.address t.crossed ≡ branch_target ((r.pc + 2) % 65536) low → is_taken o r.p ≡ true
      → IsStepOf m r s cycles (with_pc r t.address) (m.passed s cycles)
  step_of-taken o low t cycles sum goes here e place taken =
      let known = step_of-known _ (Place t.address t.crossed) here goes.plain (rw (e, ← place) refl) in
      let sum : 2 + (1 + (if t.crossed then 1 else 0)) ≡ cycles = omega arith in
      rw (known, goes.goes, taken, goes.untouched, sum, sub-zero cycles) refl

  pub step_of-straight : (o : Operation) (low : ℕ) → IsBranch o → IsRow m s r o Relative 2 false → IsLow m s r low
      → is_taken o r.p ≡ false → IsStepOf m r s 2 (with_pc r ((r.pc + 2) % 65536)) (m.passed s 2)
  step_of-straight o low goes here e straight =
      rw (step_of-known _ (branch_target ((r.pc + 2) % 65536) low) here goes.plain (rw e refl), goes.goes, straight, goes.untouched) refl

  -- An instruction whose opcode is none of the table is a fault.
  pub decoded-unknown : (opcode : ℕ) → m.peeked s r.pc ≡ Some opcode → ◌≡◌ {A = Option Row} None (row_of opcode)
      → IsErr (instruction_at m s r)
  decoded-unknown opcode e absent = rw (e, ← absent) refl

  named-err : (mode : Mode) → names_low mode ≡ true → m.peeked s ((r.pc + 1) % 65536) ≡ None → IsErr (operand_by_mode m s r mode)
  named-err Implied e none = cc
  named-err Accumulator e none = cc
  named-err other e none = rw none refl

  -- An instruction whose opcode is there and the byte after it isn't is a fault.
  pub decoded-short : (opcode : ℕ) → m.peeked s r.pc ≡ Some opcode → has_low opcode ≡ true
      → m.peeked s ((r.pc + 1) % 65536) ≡ None → IsErr (instruction_at m s r)
  decoded-short opcode e low none = by (row_of opcode) refl (row_of-told opcode)
    where
      by : (x : Option Row) → row_of opcode ≡ x → IfSome x (λ row. has_low opcode ≡ true → needs_low row ≡ true)
          → IsErr (instruction_at m s r)
      by (Some row) found told =
          let parts = and_parts (not (takes_vector row.operation)) (names_low row.mode) (told low) in
          decoded-err row (rw (e, found) refl) (search (rules, tests)) (named-err row.mode parts.1 none)
      by None found told = decoded-unknown opcode e (sym found)

-- A fault of a byte after the opcode.
pub ruleset outside = (decoded-err, and_then-err)
