-- The run of an instruction that finds no operand in memory, by the cycles of its kind.
use Rattle.std.proofs.Common.{◌≡◌, ◌∙◌, ℕ, ◌+◌, ◌*◌, ◌/◌, ◌%◌, Bool, true, false, List, [], ◌∷◌, Option, Some, Result, Ok, refl, sym, ap}
use Rattle.std.specs.Prelude.{fold, IsOk, ◌==◌, if◌then◌else◌}
use Rattle.mos_cpu.specs.Accesses.{StoredByte, RegisterA, RegisterP, Nothing, Pushes, Pulls, use_of, stored_byte, is_taken}
use Rattle.mos_cpu.specs.Accesses.{accesses_of, accesses_by, instruction_cycles, has_crossed}
use Rattle.mos_cpu.specs.Effects.{target_of, registers_after, effect, with_pc}
use Rattle.mos_cpu.specs.Execution.{Step, step_of, execution_of}
use Rattle.mos_cpu.specs.Opcodes.{row_of}
use Rattle.mos_cpu.specs.Operands.{Operand, Register, Value, Place, takes_vector, branch_target, operand_by_mode, instruction_at}
use Rattle.mos_cpu.specs.Registers.{Registers, after_pushes, after_pulls}
use Rattle.mos_cpu.specs.Status.{pushed_of, put_flag}
use Rattle.mos_cpu.specs.declared.status.Flag.TheVariants.{Interrupt}
use Rattle.mos_cpu.specs.declared.fault.CpuFault.{CpuFault}
use Rattle.mos_cpu.specs.declared.opcode_row.Row.{Row}
use Rattle.mos_cpu.specs.declared.operation.Operation.{Operation}
use Rattle.mos_cpu.specs.declared.operation.Operation.TheVariants.{Bcc, Bcs, Beq, Bmi, Bne, Bpl, Brk, Bvc, Bvs, Clc, Cld, Cli, Clv}
use Rattle.mos_cpu.specs.declared.operation.Operation.TheVariants.{Dex, Dey, Inx, Iny, Jmp, Jsr, Nop, Pha, Php, Pla, Plp, Rti, Rts}
use Rattle.mos_cpu.specs.declared.operation.Operation.TheVariants.{Sec, Sed, Sei, Tax, Tay, Tsx, Txa, Txs, Tya}
use Rattle.mos_cpu.specs.declared.mode.Mode.{Mode}
use Rattle.mos_cpu.specs.declared.mode.Mode.TheVariants.{Implied, Accumulator, Immediate, Absolute, Relative, Indirect}
use Rattle.bus_cycles.specs.Addresses.{opcode_seen, operand_by, in_page_of}
use Rattle.bus_cycles.specs.Buses.{Meaning}
use Rattle.bus_cycles.specs.Cycles.{Always, Taken, TakenAcross, Program, Uncarried, Pushed, Pulled, Held, Cycle, Fetch, Discard, Read, Write}
use Rattle.bus_cycles.specs.Cycles.{address_cycles, cycles_of}
use Rattle.bus_cycles.specs.Execution.{Under, after_cycle, run_of, step_after}
use Rattle.bus_cycles.specs.Private.Fetches.{IsFetched}
use Rattle.bus_cycles.specs.Private.Found.{seen_by, time_of, IsFound, IsRun}
use Rattle.bus_cycles.specs.Private.Held.{held_meaning, held_bus, opcode_held, IsGuideStep}
use Rattle.bus_cycles.specs.Private.Kinds.{kind_of}
use Rattle.bus_cycles.specs.Private.Rows.{expected, IsExpected}
use Rattle.bus_cycles.proofs.KindLemmas.{moved}
use Rattle.bus_cycles.proofs.ModeLemmas.{low-at}
use Rattle.bus_cycles.proofs.RowLemmas.{row_of-expected}
use Rattle.bus_cycles.proofs.RunLemmas.{reads-used, changes-used, read-cycles, change-cycles, guide-known, guide-ok}
use Rattle.bus_cycles.specs.declared.bus.Purpose.TheVariants.{Pointer, Data, Discarded}
use Rattle.bus_cycles.specs.declared.finding.Found.{Found}
use Rattle.bus_cycles.specs.declared.held.HeldBus.{HeldBus}
use Rattle.bus_cycles.specs.declared.held.HeldBytes.{HeldBytes}
use Rattle.bus_cycles.specs.declared.kind.Kind.TheVariants as kind

-- BRK alone takes its operand from the vector.
pub plain-kind : (o : Operation) → (kind_of o ≡ kind.Brk → ⊥) → takes_vector o ≡ false
plain-kind Brk h = absurd (h refl)
plain-kind other h = refl

-- ---- the modes of rows
implied-mode : (mode : Mode) (row : Row) → IsExpected (expected kind.Implied mode) row → mode ≡ Implied
implied-mode Implied row h = refl
implied-mode other row h = absurd h

push-mode : (mode : Mode) (row : Row) → IsExpected (expected kind.Push mode) row → mode ≡ Implied
push-mode Implied row h = refl
push-mode other row h = absurd h

pull-mode : (mode : Mode) (row : Row) → IsExpected (expected kind.Pull mode) row → mode ≡ Implied
pull-mode Implied row h = refl
pull-mode other row h = absurd h

rts-mode : (mode : Mode) (row : Row) → IsExpected (expected kind.Rts mode) row → mode ≡ Implied
rts-mode Implied row h = refl
rts-mode other row h = absurd h

rti-mode : (mode : Mode) (row : Row) → IsExpected (expected kind.Rti mode) row → mode ≡ Implied
rti-mode Implied row h = refl
rti-mode other row h = absurd h

brk-mode : (mode : Mode) (row : Row) → IsExpected (expected kind.Brk mode) row → mode ≡ Implied
brk-mode Implied row h = refl
brk-mode other row h = absurd h

branch-mode : (mode : Mode) (row : Row) → IsExpected (expected kind.Branch mode) row → mode ≡ Relative
branch-mode Relative row h = refl
branch-mode other row h = absurd h

jsr-mode : (mode : Mode) (row : Row) → IsExpected (expected kind.Jsr mode) row → mode ≡ Absolute
jsr-mode Absolute row h = refl
jsr-mode other row h = absurd h

-- ---- operations that are alone in their kind
pub rts-is : (o : Operation) → kind_of o ≡ kind.Rts → o ≡ Rts
rts-is Rts e = refl
rts-is other e = cc

pub rti-is : (o : Operation) → kind_of o ≡ kind.Rti → o ≡ Rti
rti-is Rti e = refl
rti-is other e = cc

pub jmp-is : (o : Operation) → kind_of o ≡ kind.Jmp → o ≡ Jmp
jmp-is Jmp e = refl
jmp-is other e = cc

pub jsr-is : (o : Operation) → kind_of o ≡ kind.Jsr → o ≡ Jsr
jsr-is Jsr e = refl
jsr-is other e = cc

pub brk-is : (o : Operation) → kind_of o ≡ kind.Brk → o ≡ Brk
brk-is Brk e = refl
brk-is other e = cc

-- ---- operations that use no memory
pub implied-used : (o : Operation) → kind_of o ≡ kind.Implied → use_of o ≡ Nothing
implied-used Clc e = refl
implied-used Cld e = refl
implied-used Cli e = refl
implied-used Clv e = refl
implied-used Dex e = refl
implied-used Dey e = refl
implied-used Inx e = refl
implied-used Iny e = refl
implied-used Nop e = refl
implied-used Sec e = refl
implied-used Sed e = refl
implied-used Sei e = refl
implied-used Tax e = refl
implied-used Tay e = refl
implied-used Tsx e = refl
implied-used Txa e = refl
implied-used Txs e = refl
implied-used Tya e = refl
implied-used other e = cc

pub implied-cycles : (o : Operation) (mode : Mode) → kind_of o ≡ kind.Implied → cycles_of o mode ≡ address_cycles Always mode
implied-cycles Clc mode e = refl
implied-cycles Cld mode e = refl
implied-cycles Cli mode e = refl
implied-cycles Clv mode e = refl
implied-cycles Dex mode e = refl
implied-cycles Dey mode e = refl
implied-cycles Inx mode e = refl
implied-cycles Iny mode e = refl
implied-cycles Nop mode e = refl
implied-cycles Sec mode e = refl
implied-cycles Sed mode e = refl
implied-cycles Sei mode e = refl
implied-cycles Tax mode e = refl
implied-cycles Tay mode e = refl
implied-cycles Tsx mode e = refl
implied-cycles Txa mode e = refl
implied-cycles Txs mode e = refl
implied-cycles Tya mode e = refl
implied-cycles other mode e = cc

pub branch-cycles : (o : Operation) (mode : Mode) → kind_of o ≡ kind.Branch
    → cycles_of o mode ≡ Fetch ∷ Discard Taken Program ∷ Discard TakenAcross Uncarried ∷ []
branch-cycles Bcc mode e = refl
branch-cycles Bcs mode e = refl
branch-cycles Beq mode e = refl
branch-cycles Bmi mode e = refl
branch-cycles Bne mode e = refl
branch-cycles Bpl mode e = refl
branch-cycles Bvc mode e = refl
branch-cycles Bvs mode e = refl
branch-cycles other mode e = cc

pub branch-quiet : (o : Operation) (operand : Operand) (r : Registers) (cycles : ℕ) → kind_of o ≡ kind.Branch
    → accesses_by (use_of o) operand r cycles ≡ []
branch-quiet Bcc operand r cycles e = refl
branch-quiet Bcs operand r cycles e = refl
branch-quiet Beq operand r cycles e = refl
branch-quiet Bmi operand r cycles e = refl
branch-quiet Bne operand r cycles e = refl
branch-quiet Bpl operand r cycles e = refl
branch-quiet Bvc operand r cycles e = refl
branch-quiet Bvs operand r cycles e = refl
branch-quiet other operand r cycles e = cc

branch-effect : (o : Operation) (operand : Operand) (r : Registers) → kind_of o ≡ kind.Branch
    → effect o operand r [] ≡ (if is_taken o r.p then with_pc r (target_of operand) else r)
branch-effect Bcc operand r e = refl
branch-effect Bcs operand r e = refl
branch-effect Beq operand r e = refl
branch-effect Bmi operand r e = refl
branch-effect Bne operand r e = refl
branch-effect Bpl operand r e = refl
branch-effect Bvc operand r e = refl
branch-effect Bvs operand r e = refl
branch-effect other operand r e = cc

-- What PHA and PHP push.
pub record IsPush (o : Operation) (what : StoredByte) : Type 0 where
  pub used : use_of o ≡ Pushes ((3, what) ∷ [])
  pub cycles : (mode : Mode) → cycles_of o mode ≡ Discard Always Program ∷ Write (Pushed 0) (Held what) ∷ []

pub push-is : (o : Operation) → kind_of o ≡ kind.Push → (what : StoredByte) × IsPush o what
push-is Pha e = (RegisterA, record { used = refl; cycles = λ mode. refl })
push-is Php e = (RegisterP, record { used = refl; cycles = λ mode. refl })
push-is other e = absurd (cc)

pub pull-used : (o : Operation) → kind_of o ≡ kind.Pull → use_of o ≡ Pulls (4 ∷ [])
pull-used Pla e = refl
pull-used Plp e = refl
pull-used other e = cc

pub pull-cycles : (o : Operation) (mode : Mode) → kind_of o ≡ kind.Pull
    → cycles_of o mode ≡ Discard Always Program ∷ Discard Always (Pulled 0) ∷ Read (Pulled 1) ∷ []
pull-cycles Pla mode e = refl
pull-cycles Plp mode e = refl
pull-cycles other mode e = cc

-- ---- the processor's step, if it makes no access
guide-quiet : (row : Row) (r : Registers) (bus : HeldBus) (operand : Operand) (n : ℕ)
    → ((cycles : ℕ) → accesses_of (record { row = row; operand = operand }) r cycles ≡ [])
    → instruction_cycles (record { row = row; operand = operand }) r.p ≡ n
    → execution_of held_meaning r bus (record { row = row; operand = operand })
    ≡ record { answer = Ok n; registers = registers_after (record { row = row; operand = operand }) r []; bus = bus }
guide-quiet row r bus operand n quiet timed =
    rw (quiet (instruction_cycles (record { row = row; operand = operand }) r.p), timed) refl

-- The bytes that are held of an instruction of one byte, and of two.
abbrev pub one_held : Registers → ℕ → HeldBytes
one_held r opcode = opcode_held r.pc opcode

abbrev pub two_held : Registers → ℕ → ℕ → HeldBytes
two_held r opcode low = record (opcode_held r.pc opcode) { low = low }

module _ {S : Type 0} (m : Meaning S) (row : Row) (r : Registers) (s : S) (opcode : ℕ)
    (known : ◌≡◌ {A = Option Row} (row_of opcode) (Some row)) where
  -- The step of an instruction without a place in memory.
  guide-one : (low first second third : ℕ) → (kind_of row.operation ≡ kind.Brk → ⊥)
      → ◌≡◌ {A = Result Operand CpuFault} (operand_by_mode held_meaning (held_bus (two_held r opcode low) first second third) r row.mode) (Ok Register)
      → step_of held_meaning r (held_bus (two_held r opcode low) first second third)
      ≡ execution_of held_meaning r (held_bus (two_held r opcode low) first second third) (record { row = row; operand = Register })
  guide-one low first second third h named =
      guide-known row r opcode (held_bus (two_held r opcode low) first second third) known refl refl (plain-kind row.operation h) Register named

  pub one-ok : (low first second third : ℕ) → (kind_of row.operation ≡ kind.Brk → ⊥)
      → ◌≡◌ {A = Result Operand CpuFault} (operand_by_mode held_meaning (held_bus (two_held r opcode low) first second third) r row.mode) (Ok Register)
      → IsOk (instruction_at held_meaning (held_bus (two_held r opcode low) first second third) r)
  one-ok low first second third h named =
      guide-ok row r opcode (held_bus (two_held r opcode low) first second third) known refl refl (plain-kind row.operation h) Register named

  -- ---- the byte after the opcode
  two-named : (low : ℕ) → row.mode ≡ Immediate
      → ◌≡◌ {A = Result Operand CpuFault} (operand_by_mode held_meaning (held_bus (two_held r opcode low) 0 0 0) r row.mode) (Ok (Value low))
  two-named low mode = rw (mode, low-at (two_held r opcode low) r refl) refl

  pub value-ok : kind_of row.operation ≡ kind.Read → row.mode ≡ Immediate → (low : ℕ)
      → IsOk (instruction_at held_meaning (held_bus (two_held r opcode low) 0 0 0) r)
  value-ok is mode low =
      guide-ok row r opcode (held_bus (two_held r opcode low) 0 0 0) known refl refl (plain-kind row.operation (λ e. cc)) (Value low)
      (two-named low mode)

  pub value-run : kind_of row.operation ≡ kind.Read → row.mode ≡ Immediate → (low : ℕ) (after : S)
      → IsFetched m s ((r.pc + 1) % 65536) low after → (cycles : ℕ) (registers : Registers) (left : HeldBus)
      → IsGuideStep r (held_bus (two_held r opcode low) 0 0 0) cycles registers left
      → IsRun m r s opcode row (Ok cycles) registers after
  value-run is mode low after f cycles registers left guide =
      let bus = held_bus (two_held r opcode low) 0 0 0 in
      let plain = plain-kind row.operation (λ e. cc) in
      let fact = rw (is, mode) at (row_of-expected opcode row known) in
      let step = guide-known row r opcode bus known refl refl plain (Value low) (two-named low mode) in
      let timed : instruction_cycles (record { row = row; operand = Value low }) r.p ≡ 2 =
      rw (reads-used row.operation is, fact.0, fact.1) refl in
      let guided = guide-quiet row r bus (Value low) 2 (λ cycles. rw (reads-used row.operation is) refl) timed in
      let run : step_after row r (run_of m r s opcode row)
      ≡ record { answer = Ok 2; registers = registers_after (record { row = row; operand = Value low }) r []; bus = after } =
      rw (read-cycles row.operation row.mode is, mode, f.holds, ← f.bus, ← f.byte_is, plain) refl in
      run ∙ ap (moved (λ (left : HeldBus). after)) (sym guided ∙ sym step ∙ guide)

  -- ---- A changed, and registers alone
  pub change_a-run : kind_of row.operation ≡ kind.Change → row.mode ≡ Accumulator → (low cycles : ℕ) (registers : Registers) (left : HeldBus)
      → IsGuideStep r (held_bus (two_held r opcode low) 0 0 0) cycles registers left
      → IsRun m r s opcode row (Ok cycles) registers (m.after_read s Discarded ((r.pc + 1) % 65536))
  change_a-run is mode low cycles registers left guide =
      let bus = held_bus (two_held r opcode low) 0 0 0 in
      let plain = plain-kind row.operation (λ e. cc) in
      let fact = rw (is, mode) at (row_of-expected opcode row known) in
      let step = guide-one low 0 0 0 (λ e. cc) (rw mode refl) in
      let timed : instruction_cycles (record { row = row; operand = Register }) r.p ≡ 2 =
      rw (changes-used row.operation is, fact.0, fact.1) refl in
      let guided = guide-quiet row r bus Register 2 (λ cycles. rw (changes-used row.operation is) refl) timed in
      let run : step_after row r (run_of m r s opcode row)
      ≡ record {
        answer = Ok 2;
        registers = registers_after (record { row = row; operand = Register }) r [];
        bus = m.after_read s Discarded ((r.pc + 1) % 65536);
      } = rw (change-cycles row.operation row.mode is, mode, plain) refl in
      run ∙ ap (moved (λ (left : HeldBus). m.after_read s Discarded ((r.pc + 1) % 65536))) (sym guided ∙ sym step ∙ guide)

  pub change_a-ok : kind_of row.operation ≡ kind.Change → row.mode ≡ Accumulator → (low : ℕ)
      → IsOk (instruction_at held_meaning (held_bus (two_held r opcode low) 0 0 0) r)
  change_a-ok is mode low = one-ok low 0 0 0 (λ e. cc) (rw mode refl)

  pub implied-here : kind_of row.operation ≡ kind.Implied → row.mode ≡ Implied
  implied-here is = implied-mode row.mode row (rw is at (row_of-expected opcode row known))

  pub implied-ok : kind_of row.operation ≡ kind.Implied → (low : ℕ)
      → IsOk (instruction_at held_meaning (held_bus (two_held r opcode low) 0 0 0) r)
  implied-ok is low = one-ok low 0 0 0 (λ e. cc) (rw (implied-here is) refl)

  pub implied-run : kind_of row.operation ≡ kind.Implied → (low cycles : ℕ) (registers : Registers) (left : HeldBus)
      → IsGuideStep r (held_bus (two_held r opcode low) 0 0 0) cycles registers left
      → IsRun m r s opcode row (Ok cycles) registers (m.after_read s Discarded ((r.pc + 1) % 65536))
  implied-run is low cycles registers left guide =
      let bus = held_bus (two_held r opcode low) 0 0 0 in
      let mode = implied-here is in
      let plain = plain-kind row.operation (λ e. cc) in
      let fact = rw (is, mode) at (row_of-expected opcode row known) in
      let step = guide-one low 0 0 0 (λ e. cc) (rw mode refl) in
      let timed : instruction_cycles (record { row = row; operand = Register }) r.p ≡ 2 =
      rw (implied-used row.operation is, fact.0, fact.1) refl in
      let guided = guide-quiet row r bus Register 2 (λ cycles. rw (implied-used row.operation is) refl) timed in
      let run : step_after row r (run_of m r s opcode row)
      ≡ record {
        answer = Ok 2;
        registers = registers_after (record { row = row; operand = Register }) r [];
        bus = m.after_read s Discarded ((r.pc + 1) % 65536);
      } = rw (implied-cycles row.operation row.mode is, mode, plain) refl in
      run ∙ ap (moved (λ (left : HeldBus). m.after_read s Discarded ((r.pc + 1) % 65536))) (sym guided ∙ sym step ∙ guide)

  -- ---- the stack
  pub push-here : kind_of row.operation ≡ kind.Push → row.mode ≡ Implied
  push-here is = push-mode row.mode row (rw is at (row_of-expected opcode row known))

  pub push-ok : kind_of row.operation ≡ kind.Push → IsOk (instruction_at held_meaning (held_bus (one_held r opcode) 0 0 0) r)
  push-ok is = one-ok 0 0 0 0 (λ e. cc) (rw (push-here is) refl)

  pub push-run : kind_of row.operation ≡ kind.Push → (cycles : ℕ) (registers : Registers) (left : HeldBus)
      → IsGuideStep r (held_bus (one_held r opcode) 0 0 0) cycles registers left
      → IsRun m r s opcode row (Ok cycles) registers
      (m.after_write (m.after_read s Discarded ((r.pc + 1) % 65536)) (256 + after_pushes r.s 0) left.last)
  push-run is cycles registers left guide =
      let bus = held_bus (one_held r opcode) 0 0 0 in
      let mode = push-here is in
      let plain = plain-kind row.operation (λ e. cc) in
      let fact = rw (is, mode) at (row_of-expected opcode row known) in
      let what = push-is row.operation is in
      let step = guide-one 0 0 0 0 (λ e. cc) (rw mode refl) in
      let guided : execution_of held_meaning r bus (record { row = row; operand = Register })
      ≡ record {
        answer = Ok 3;
        registers = registers_after (record { row = row; operand = Register }) r [];
        bus = record bus { last = stored_byte what.0 r };
      } = rw (what.1.used, fact.0, fact.1) refl in
      let run : step_after row r (run_of m r s opcode row)
      ≡ record {
        answer = Ok 3;
        registers = registers_after (record { row = row; operand = Register }) r [];
        bus = m.after_write (m.after_read s Discarded ((r.pc + 1) % 65536)) (256 + after_pushes r.s 0) (stored_byte what.0 r);
      } = rw (what.1.cycles row.mode, mode, plain) refl in
      run
      ∙ ap (moved (λ (left : HeldBus). m.after_write (m.after_read s Discarded ((r.pc + 1) % 65536)) (256 + after_pushes r.s 0) left.last))
      (sym guided ∙ sym step ∙ guide)

  pub pull-here : kind_of row.operation ≡ kind.Pull → row.mode ≡ Implied
  pull-here is = pull-mode row.mode row (rw is at (row_of-expected opcode row known))

  pub pull-ok : kind_of row.operation ≡ kind.Pull → (byte : ℕ) → IsOk (instruction_at held_meaning (held_bus (one_held r opcode) byte 0 0) r)
  pull-ok is byte = one-ok 0 byte 0 0 (λ e. cc) (rw (pull-here is) refl)

  -- The bus after the cycles that come before a pull.
  abbrev pub before_pull : S
  before_pull = m.after_read (m.after_read s Discarded ((r.pc + 1) % 65536)) Discarded (256 + after_pulls r.s 0)

  pub pull-run : kind_of row.operation ≡ kind.Pull → (cycles : ℕ) (registers : Registers) (left : HeldBus)
      → IsGuideStep r (held_bus (one_held r opcode) (m.read_value before_pull (256 + after_pulls r.s 1)) 0 0) cycles registers left
      → IsRun m r s opcode row (Ok cycles) registers (m.after_read before_pull Data (256 + after_pulls r.s 1))
  pull-run is cycles registers left guide =
      let byte = m.read_value before_pull (256 + after_pulls r.s 1) in
      let bus = held_bus (one_held r opcode) byte 0 0 in
      let mode = pull-here is in
      let plain = plain-kind row.operation (λ e. cc) in
      let fact = rw (is, mode) at (row_of-expected opcode row known) in
      let step = guide-one 0 byte 0 0 (λ e. cc) (rw mode refl) in
      let guided : execution_of held_meaning r bus (record { row = row; operand = Register })
      ≡ record {
        answer = Ok 4;
        registers = registers_after (record { row = row; operand = Register }) r (byte ∷ []);
        bus = record bus { first = 0 };
      } = rw (pull-used row.operation is, fact.0, fact.1) refl in
      let run : step_after row r (run_of m r s opcode row)
      ≡ record {
        answer = Ok 4;
        registers = registers_after (record { row = row; operand = Register }) r (byte ∷ []);
        bus = m.after_read before_pull Data (256 + after_pulls r.s 1);
      } = rw (pull-cycles row.operation row.mode is, mode, plain) refl in
      run ∙ ap (moved (λ (left : HeldBus). m.after_read before_pull Data (256 + after_pulls r.s 1))) (sym guided ∙ sym step ∙ guide)

  pub rts-here : kind_of row.operation ≡ kind.Rts → row.mode ≡ Implied
  rts-here is = rts-mode row.mode row (rw is at (row_of-expected opcode row known))

  pub rts-ok : kind_of row.operation ≡ kind.Rts → (low high : ℕ) → IsOk (instruction_at held_meaning (held_bus (one_held r opcode) low high 0) r)
  rts-ok is low high = one-ok 0 low high 0 (λ e. cc) (rw (rts-here is) refl)

  pub rts-run : kind_of row.operation ≡ kind.Rts → (cycles : ℕ) (registers : Registers) (left : HeldBus)
      → (let low = m.read_value before_pull (256 + after_pulls r.s 1) in
      let between = m.after_read before_pull Data (256 + after_pulls r.s 1) in
      let high = m.read_value between (256 + after_pulls r.s 2) in
      IsGuideStep r (held_bus (one_held r opcode) low high 0) cycles registers left
      → IsRun m r s opcode row (Ok cycles) registers
      (m.after_read (m.after_read between Data (256 + after_pulls r.s 2)) Discarded (low + 256 * high)))
  rts-run is cycles registers left guide =
      let low = m.read_value before_pull (256 + after_pulls r.s 1) in
      let between = m.after_read before_pull Data (256 + after_pulls r.s 1) in
      let high = m.read_value between (256 + after_pulls r.s 2) in
      let after = m.after_read (m.after_read between Data (256 + after_pulls r.s 2)) Discarded (low + 256 * high) in
      let bus = held_bus (one_held r opcode) low high 0 in
      let mode = rts-here is in
      let op = rts-is row.operation is in
      let fact = rw (is, mode) at (row_of-expected opcode row known) in
      let step = guide-one 0 low high 0 (λ e. cc) (rw mode refl) in
      let guided : execution_of held_meaning r bus (record { row = row; operand = Register })
      ≡ record {
        answer = Ok 6;
        registers = registers_after (record { row = row; operand = Register }) r (low ∷ high ∷ []);
        bus = record bus { first = 0; second = 0 };
      } = rw (op, fact.0, fact.1) refl in
      let run : step_after row r (run_of m r s opcode row)
      ≡ record {
        answer = Ok 6;
        registers = registers_after (record { row = row; operand = Register }) r (low ∷ high ∷ []);
        bus = after;
      } = rw op refl in
      run ∙ ap (moved (λ (left : HeldBus). after)) (sym guided ∙ sym step ∙ guide)

  pub rti-here : kind_of row.operation ≡ kind.Rti → row.mode ≡ Implied
  rti-here is = rti-mode row.mode row (rw is at (row_of-expected opcode row known))

  pub rti-ok : kind_of row.operation ≡ kind.Rti → (status low high : ℕ)
      → IsOk (instruction_at held_meaning (held_bus (one_held r opcode) status low high) r)
  rti-ok is status low high = one-ok 0 status low high (λ e. cc) (rw (rti-here is) refl)

  pub rti-run : kind_of row.operation ≡ kind.Rti → (cycles : ℕ) (registers : Registers) (left : HeldBus)
      → (let status = m.read_value before_pull (256 + after_pulls r.s 1) in
      let first = m.after_read before_pull Data (256 + after_pulls r.s 1) in
      let low = m.read_value first (256 + after_pulls r.s 2) in
      let second = m.after_read first Data (256 + after_pulls r.s 2) in
      let high = m.read_value second (256 + after_pulls r.s 3) in
      IsGuideStep r (held_bus (one_held r opcode) status low high) cycles registers left
      → IsRun m r s opcode row (Ok cycles) registers (m.after_read second Data (256 + after_pulls r.s 3)))
  rti-run is cycles registers left guide =
      let status = m.read_value before_pull (256 + after_pulls r.s 1) in
      let first = m.after_read before_pull Data (256 + after_pulls r.s 1) in
      let low = m.read_value first (256 + after_pulls r.s 2) in
      let second = m.after_read first Data (256 + after_pulls r.s 2) in
      let high = m.read_value second (256 + after_pulls r.s 3) in
      let after = m.after_read second Data (256 + after_pulls r.s 3) in
      let bus = held_bus (one_held r opcode) status low high in
      let mode = rti-here is in
      let op = rti-is row.operation is in
      let fact = rw (is, mode) at (row_of-expected opcode row known) in
      let step = guide-one 0 status low high (λ e. cc) (rw mode refl) in
      let guided : execution_of held_meaning r bus (record { row = row; operand = Register })
      ≡ record {
        answer = Ok 6;
        registers = registers_after (record { row = row; operand = Register }) r (status ∷ low ∷ high ∷ []);
        bus = record bus { first = high; second = high };
      } = rw (op, fact.0, fact.1) refl in
      let run : step_after row r (run_of m r s opcode row)
      ≡ record {
        answer = Ok 6;
        registers = registers_after (record { row = row; operand = Register }) r (status ∷ low ∷ high ∷ []);
        bus = after;
      } = rw op refl in
      run ∙ ap (moved (λ (left : HeldBus). after)) (sym guided ∙ sym step ∙ guide)

  -- ---- jumps
  pub jsr-here : kind_of row.operation ≡ kind.Jsr → row.mode ≡ Absolute
  jsr-here is = jsr-mode row.mode row (rw is at (row_of-expected opcode row known))

  -- The bus after the pushes of JSR.
  abbrev pub pushed_return : S → S
  pushed_return before =
      m.after_write (m.after_write (m.after_read before Discarded (256 + after_pushes r.s 0)) (256 + after_pushes r.s 0) ((r.pc + 2) % 65536 / 256))
      (256 + after_pushes r.s 1) ((r.pc + 2) % 256)

  pub jsr-run : kind_of row.operation ≡ kind.Jsr → (low : ℕ) (before : S) → IsFetched m s ((r.pc + 1) % 65536) low before
      → (high : ℕ) (after : S) → IsFetched m (pushed_return before) ((r.pc + 2) % 65536) high after
      → IsRun m r s opcode row (Ok 6) (record r { s = after_pushes r.s 2; pc = low + 256 * high }) after
  jsr-run is low before f high after h =
      rw (jsr-is row.operation is, jsr-here is, f.holds, ← f.bus, ← f.byte_is, h.holds, ← h.bus, ← h.byte_is) refl

  pub jmp-cycles : kind_of row.operation ≡ kind.Jmp → cycles_of row.operation row.mode ≡ address_cycles Always row.mode
  jmp-cycles is = rw (jmp-is row.operation is) refl

  jmp-timed : (mode : Mode) (row : Row) (operand : Operand) → IsExpected (expected kind.Jmp mode) row → time_of true mode operand ≡ row.cycles
  jmp-timed Absolute row operand e = sym e.0
  jmp-timed Indirect row operand e = sym e.0
  jmp-timed other row operand e = absurd e

  pub jmp-run : kind_of row.operation ≡ kind.Jmp → (found : Found) (after : S) → IsFound m row r s opcode true found after
      → IsRun m r s opcode row (Ok row.cycles) (record r { pc = found.address }) after
  jmp-run is found after f =
      let operand = operand_by row.mode r (seen_by row.mode found.held) in
      let timed = jmp-timed row.mode row operand (rw is at (row_of-expected opcode row known)) in
      ap (step_after row r)
      (ap (λ (cycles : List Cycle). fold (after_cycle m row r) (Under s 1 (opcode_seen opcode)) cycles) (jmp-cycles is) ∙ f.run)
      ∙ rw (jmp-is row.operation is, timed, ← f.address) refl

  pub brk-here : kind_of row.operation ≡ kind.Brk → row.mode ≡ Implied
  brk-here is = brk-mode row.mode row (rw is at (row_of-expected opcode row known))

  -- The bus after the pushes of BRK.
  abbrev pub interrupted : S
  interrupted =
      m.after_write (m.after_write (m.after_write (m.after_read s Discarded ((r.pc + 1) % 65536))
      (256 + after_pushes r.s 0) ((r.pc + 2) % 65536 / 256)) (256 + after_pushes r.s 1) ((r.pc + 2) % 256))
      (256 + after_pushes r.s 2) (pushed_of r.p)

  pub brk-run : kind_of row.operation ≡ kind.Brk
      → (let low = m.read_value interrupted 65534 in
      let between = m.after_read interrupted Pointer 65534 in
      let high = m.read_value between 65535 in
      IsRun m r s opcode row (Ok 7) (record r { s = after_pushes r.s 3; p = put_flag Interrupt true r.p; pc = low + 256 * high })
      (m.after_read between Pointer 65535))
  brk-run is = rw (brk-is row.operation is, brk-here is) refl

  -- ---- branches
  pub branch-here : kind_of row.operation ≡ kind.Branch → row.mode ≡ Relative
  branch-here is = branch-mode row.mode row (rw is at (row_of-expected opcode row known))

  branch-named : (low : ℕ) → row.mode ≡ Relative
      → ◌≡◌ {A = Result Operand CpuFault} (operand_by_mode held_meaning (held_bus (two_held r opcode low) 0 0 0) r row.mode)
      (Ok (branch_target ((r.pc + 2) % 65536) low))
  branch-named low mode = rw (mode, low-at (two_held r opcode low) r refl) refl

  pub branch-ok : kind_of row.operation ≡ kind.Branch → (low : ℕ)
      → IsOk (instruction_at held_meaning (held_bus (two_held r opcode low) 0 0 0) r)
  branch-ok is low =
      guide-ok row r opcode (held_bus (two_held r opcode low) 0 0 0) known refl refl (plain-kind row.operation (λ e. cc))
      (branch_target ((r.pc + 2) % 65536) low) (branch-named low (branch-here is))

  -- The bus after the cycles of a branch that takes so many.
  abbrev pub branched : S → Registers → ℕ → S
  branched before registers cycles =
      let next = (r.pc + 2) % 65536 in
      let near = m.after_read before Discarded next in
      if cycles == 2 then before else (if cycles == 3 then near else m.after_read near Discarded (in_page_of next registers.pc))

  -- The same by whether it is taken, and to another page.
  branch-by : kind_of row.operation ≡ kind.Branch → (low : ℕ) (before : S) → IsFetched m s ((r.pc + 1) % 65536) low before
      → (t x : Bool) → is_taken row.operation r.p ≡ t → has_crossed (branch_target ((r.pc + 2) % 65536) low) ≡ x
      → (let operand = branch_target ((r.pc + 2) % 65536) low in
      let cycles : ℕ = (if t then (if x then 4 else 3) else 2) in
      let registers = registers_after (record { row = row; operand = operand }) r [] in
      (instruction_cycles (record { row = row; operand = operand }) r.p ≡ cycles)
      × (step_after row r (run_of m r s opcode row) ≡ record { answer = Ok cycles; registers = registers; bus = branched before registers cycles }))
  branch-by is low before f false x taken crossed =
      let mode = branch-here is in
      let plain = plain-kind row.operation (λ e. cc) in
      let fact = rw (is, mode) at (row_of-expected opcode row known) in
      (rw (fact.0, fact.1, taken) refl, rw (branch-cycles row.operation row.mode is, mode, f.holds, ← f.bus, ← f.byte_is, taken, taken, plain) refl)
  branch-by is low before f true false taken crossed =
      let mode = branch-here is in
      let plain = plain-kind row.operation (λ e. cc) in
      let fact = rw (is, mode) at (row_of-expected opcode row known) in (
        rw (fact.0, fact.1, taken, crossed) refl,
        rw (branch-cycles row.operation row.mode is, mode, f.holds, ← f.bus, ← f.byte_is, taken, taken, plain, crossed, plain, crossed) refl,
      )
  branch-by is low before f true true taken crossed =
      let mode = branch-here is in
      let plain = plain-kind row.operation (λ e. cc) in
      let fact = rw (is, mode) at (row_of-expected opcode row known) in
      let target = target_of (branch_target ((r.pc + 2) % 65536) low) in
      let effected = branch-effect row.operation (Place target true) (with_pc r ((r.pc + 2) % 65536)) is in (
        rw (fact.0, fact.1, taken, crossed) refl,
        rw (branch-cycles row.operation row.mode is, mode, f.holds, ← f.bus, ← f.byte_is, taken, taken, plain, crossed, plain, crossed, effected, taken) refl,
      )

  pub branch-run : kind_of row.operation ≡ kind.Branch → (low : ℕ) (before : S) → IsFetched m s ((r.pc + 1) % 65536) low before
      → (cycles : ℕ) (registers : Registers) (left : HeldBus)
      → IsGuideStep r (held_bus (two_held r opcode low) 0 0 0) cycles registers left
      → IsRun m r s opcode row (Ok cycles) registers (branched before registers cycles)
  branch-run is low before f cycles registers left guide =
      let bus = held_bus (two_held r opcode low) 0 0 0 in
      let operand = branch_target ((r.pc + 2) % 65536) low in
      let both = branch-by is low before f (is_taken row.operation r.p) (has_crossed operand) refl refl in
      let guided = guide-quiet row r bus operand _ (λ k. branch-quiet row.operation operand r k is) both.0 in
      let step = guide-known row r opcode bus known refl refl (plain-kind row.operation (λ e. cc)) operand (branch-named low (branch-here is)) in
      let whole = sym guided ∙ sym step ∙ guide in
      let answers = ap (λ (step : Step HeldBus). step.answer) whole in
      let registered = ap (λ (step : Step HeldBus). step.registers) whole in
      let counted : (if is_taken row.operation r.p then (if has_crossed operand then 4 else 3) else 2) ≡ cycles = cc in
      rw (← counted, ← registered) both.1
