-- The run of an instruction, by the cycles of its kind.
use Rattle.std.proofs.Common.{◌≡◌, ℕ, ◌+◌, Bool, false, List, [], ◌∷◌, ◌++◌, Option, Some, Result, Ok, refl, arith}
use Rattle.std.specs.Prelude.{IsOk, if◌then◌else◌}
use Rattle.mos_cpu.specs.Accesses.{Reads, Stores, Modifies, StoredByte, use_of, stored_byte, has_crossed}
use Rattle.mos_cpu.specs.Effects.{changed_of, registers_after}
use Rattle.mos_cpu.specs.Execution.{Step, step_of, execution_of}
use Rattle.mos_cpu.specs.Opcodes.{row_of}
use Rattle.mos_cpu.specs.Operands.{Operand, Place, takes_vector, operand_by_mode, instruction_at}
use Rattle.mos_cpu.specs.Private.OpcodeRuns.{row_here}
use Rattle.mos_cpu.specs.Registers.{Registers}
use Rattle.mos_cpu.proofs.OpcodeRunLemmas.{step_of-known}
use Rattle.mos_cpu.specs.declared.fault.CpuFault.{CpuFault}
use Rattle.mos_cpu.specs.declared.opcode_row.Row.{Row}
use Rattle.mos_cpu.specs.declared.operation.Operation.{Operation}
use Rattle.mos_cpu.specs.declared.operation.Operation.TheVariants.{Adc, And, Asl}
use Rattle.mos_cpu.specs.declared.operation.Operation.TheVariants.{Bit}
use Rattle.mos_cpu.specs.declared.operation.Operation.TheVariants.{Cmp, Cpx, Cpy, Dec, Eor}
use Rattle.mos_cpu.specs.declared.operation.Operation.TheVariants.{Inc, Lda, Ldx, Ldy}
use Rattle.mos_cpu.specs.declared.operation.Operation.TheVariants.{Lsr, Ora}
use Rattle.mos_cpu.specs.declared.operation.Operation.TheVariants.{Rol, Ror, Sbc, Sta, Stx, Sty}
use Rattle.mos_cpu.specs.declared.mode.Mode.{Mode}
use Rattle.mos_cpu.specs.declared.mode.Mode.TheVariants.{Accumulator, Immediate}
use Rattle.bus_cycles.specs.Cycles.{Always, Across, Effective, Held, Loaded, Changed, Read, Write}
use Rattle.bus_cycles.specs.Cycles.{address_cycles, reading_cycles, changing_cycles, cycles_of}
use Rattle.bus_cycles.specs.Private.Found.{one_if}
use Rattle.bus_cycles.specs.Private.Held.{held_meaning}
use Rattle.bus_cycles.specs.Private.Kinds.{kind_of}
use Rattle.bus_cycles.proofs.ModeLemmas.{opcode-at}
use Rattle.bus_cycles.specs.declared.held.HeldBus.{HeldBus}
use Rattle.bus_cycles.specs.declared.kind.Kind.TheVariants as kind

-- ---- how operations of a kind use memory
pub reads-used : (o : Operation) → kind_of o ≡ kind.Read → use_of o ≡ Reads
reads-used Adc e = refl
reads-used And e = refl
reads-used Bit e = refl
reads-used Cmp e = refl
reads-used Cpx e = refl
reads-used Cpy e = refl
reads-used Eor e = refl
reads-used Lda e = refl
reads-used Ldx e = refl
reads-used Ldy e = refl
reads-used Ora e = refl
reads-used Sbc e = refl
reads-used other e = cc

pub stores-used : (o : Operation) → kind_of o ≡ kind.Store → (what : StoredByte) × (use_of o ≡ Stores what)
stores-used Sta e = (_, refl)
stores-used Stx e = (_, refl)
stores-used Sty e = (_, refl)
stores-used other e = absurd (cc)

pub changes-used : (o : Operation) → kind_of o ≡ kind.Change → use_of o ≡ Modifies (changed_of o)
changes-used Asl e = refl
changes-used Dec e = refl
changes-used Inc e = refl
changes-used Lsr e = refl
changes-used Rol e = refl
changes-used Ror e = refl
changes-used other e = cc

-- ---- their cycles
pub read-cycles : (o : Operation) (mode : Mode) → kind_of o ≡ kind.Read → cycles_of o mode ≡ reading_cycles mode
read-cycles Adc mode e = refl
read-cycles And mode e = refl
read-cycles Bit mode e = refl
read-cycles Cmp mode e = refl
read-cycles Cpx mode e = refl
read-cycles Cpy mode e = refl
read-cycles Eor mode e = refl
read-cycles Lda mode e = refl
read-cycles Ldx mode e = refl
read-cycles Ldy mode e = refl
read-cycles Ora mode e = refl
read-cycles Sbc mode e = refl
read-cycles other mode e = cc

pub reading-place : (mode : Mode) → (mode ≡ Immediate → ⊥) → reading_cycles mode ≡ address_cycles Across mode ++ Read Effective ∷ []
reading-place Immediate h = absurd (h refl)
reading-place other h = refl

pub store-cycles : (o : Operation) (mode : Mode) (what : StoredByte) → kind_of o ≡ kind.Store → use_of o ≡ Stores what
    → cycles_of o mode ≡ address_cycles Always mode ++ Write Effective (Held what) ∷ []
store-cycles Sta mode what e used = let same : use_of Sta ≡ Stores what = used in cc
store-cycles Stx mode what e used = let same : use_of Stx ≡ Stores what = used in cc
store-cycles Sty mode what e used = let same : use_of Sty ≡ Stores what = used in cc
store-cycles other mode what e used = cc

pub change-cycles : (o : Operation) (mode : Mode) → kind_of o ≡ kind.Change → cycles_of o mode ≡ changing_cycles mode
change-cycles Asl mode e = refl
change-cycles Dec mode e = refl
change-cycles Inc mode e = refl
change-cycles Lsr mode e = refl
change-cycles Rol mode e = refl
change-cycles Ror mode e = refl
change-cycles other mode e = cc

pub changing-place : (mode : Mode) → (mode ≡ Accumulator → ⊥)
    → changing_cycles mode ≡ address_cycles Always mode ++ Read Effective ∷ Write Effective Loaded ∷ Write Effective Changed ∷ []
changing-place Accumulator h = absurd (h refl)
changing-place other h = refl

-- ---- the processor's step on the bytes that are held
module _ (row : Row) (r : Registers) (opcode : ℕ) (bus : HeldBus) (known : ◌≡◌ {A = Option Row} (row_of opcode) (Some row))
    (here : bus.held.at ≡ r.pc) (same : bus.held.opcode ≡ opcode) (plain : takes_vector row.operation ≡ false) where
  here-held : ◌≡◌ {A = Result Row CpuFault} (row_here held_meaning bus r) (Ok row)
  here-held = rw (opcode-at bus.held r here, same, known) refl

  -- The step of an instruction whose operand is found on them.
  pub guide-known : (operand : Operand)
      → ◌≡◌ {A = Result Operand CpuFault} (operand_by_mode held_meaning bus r row.mode) (Ok operand)
      → step_of held_meaning r bus ≡ execution_of held_meaning r bus (record { row = row; operand = operand })
  guide-known operand named = step_of-known held_meaning r bus row operand here-held plain named

  -- There is such an instruction.
  pub guide-ok : (operand : Operand)
      → ◌≡◌ {A = Result Operand CpuFault} (operand_by_mode held_meaning bus r row.mode) (Ok operand)
      → IsOk (instruction_at held_meaning bus r)
  guide-ok operand named =
      let found : ◌≡◌ {A = Option Row} (row_of bus.held.opcode) (Some row) = rw same known in
      rw (opcode-at bus.held r here, found, plain, named) refl

-- What operations do with an operand in memory.
module _ (row : Row) (r : Registers) (bus : HeldBus) (operand : Operand) (address : ℕ) (crossed : Bool) (n : ℕ)
    (e : operand ≡ Place address crossed) where
  abbrev guided : List ℕ → HeldBus → ℕ → Step HeldBus
  guided bytes left k = record {
    answer = Ok k;
    registers = registers_after (record { row = row; operand = operand }) r bytes;
    bus = left;
  }

  pub guide-reads : use_of row.operation ≡ Reads → n ≡ row.cycles + (if row.crossing then one_if (has_crossed operand) else 0)
      → execution_of held_meaning r bus (record { row = row; operand = operand })
      ≡ guided (bus.first ∷ []) (record bus { first = bus.second; second = bus.third }) n
  guide-reads used timed =
      let apart = rw e at timed in
      let sum : row.cycles + (if row.crossing then one_if crossed else 0) + 0 ≡ n = omega arith in
      rw (used, e, sum) refl

  pub guide-stores : (what : StoredByte) → use_of row.operation ≡ Stores what → n ≡ row.cycles → row.crossing ≡ false
      → execution_of held_meaning r bus (record { row = row; operand = operand })
      ≡ guided [] (record bus { before = bus.last; last = stored_byte what r }) n
  guide-stores what used timed straight =
      let sum : row.cycles + 0 + 0 ≡ n = omega arith in
      rw (used, e, straight, sum) refl

  pub guide-changes : use_of row.operation ≡ Modifies (changed_of row.operation) → n ≡ row.cycles → row.crossing ≡ false
      → execution_of held_meaning r bus (record { row = row; operand = operand })
      ≡ guided (bus.first ∷ []) (record bus {
        first = bus.second;
        second = bus.third;
        before = bus.first;
        last = (changed_of row.operation bus.first r.p).value;
      }) n
  guide-changes used timed straight =
      let sum : row.cycles + 0 + 0 ≡ n = omega arith in
      rw (used, e, straight, sum) refl
