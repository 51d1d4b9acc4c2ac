-- One instruction on any bus, a cycle at a time, by the table of bus cycles. The faults are this project's
-- own: an opcode that isn't documented, and a byte of the program that can't be fetched.
use Rattle.std.specs.Prelude.{ℕ, ◌+◌, Bool, true, ◌&&◌, slice_index, [], ◌∷◌, ◌++◌, fold, Option, Some, None, Ok, Err, if◌then◌else◌}
use Rattle.mos_cpu.specs.Accesses.{has_crossed, is_taken, stored_byte}
use Rattle.mos_cpu.specs.Effects.{changed_of, registers_after}
use Rattle.mos_cpu.specs.Execution.{Step}
use Rattle.mos_cpu.specs.Opcodes.{row_of}
use Rattle.mos_cpu.specs.Registers.{Registers}
use Rattle.mos_cpu.specs.declared.fault.CpuFault.{CpuFault}
use Rattle.mos_cpu.specs.declared.fault.CpuFault.TheVariants.{BadOpcode, FetchOutside}
use Rattle.mos_cpu.specs.declared.opcode_row.Row.{Row}
use Rattle.bus_cycles.specs.Addresses.{Seen, opcode_seen, operand_seen, address_on}
use Rattle.bus_cycles.specs.Buses.{Meaning}
use Rattle.bus_cycles.specs.Cycles.{Program, When, Always, Across, Taken, TakenAcross, Source, Held, Loaded, Changed}
use Rattle.bus_cycles.specs.Cycles.{Cycle, Fetch, Discard, Point, Read, Write, cycles_of}
use Rattle.bus_cycles.specs.declared.bus.Purpose.{Purpose}
use Rattle.bus_cycles.specs.declared.bus.Purpose.TheVariants.{Code, Pointer, Data, Discarded}

-- An instruction on its way: the bus, how many cycles are over, and the bytes that were read; or the bus
-- where a byte of the program couldn't be fetched, and the fault.
pub data Run (S : Type 0) : Type 0 where
  Under : S → ℕ → Seen → Run S
  Ended : S → CpuFault → Run S

-- Whether a cycle is made.
abbrev pub is_made : When → Row → Registers → Seen → Bool
is_made Always row r seen = true
is_made Across row r seen = has_crossed (operand_seen row r seen)
is_made Taken row r seen = is_taken row.operation r.p
is_made TakenAcross row r seen = is_taken row.operation r.p && has_crossed (operand_seen row r seen)

-- The byte that a cycle writes. The registers are those of the instruction's start.
abbrev pub byte_from : Source → Row → Registers → Seen → ℕ
byte_from (Held what) row r seen = stored_byte what r
byte_from Loaded row r seen = slice_index seen.read 0
byte_from Changed row r seen = (changed_of row.operation (slice_index seen.read 0) r.p).value

-- The cycle that reads an address for a purpose, with the bytes that are seen then.
abbrev pub reading : {S : Type 0} → Meaning S → Purpose → ℕ → S → ℕ → Seen → Run S
reading m purpose at s n seen = Under (m.after_read s purpose at) (n + 1) seen

-- A cycle of an instruction whose row is known.
abbrev pub after_made : {S : Type 0} → Meaning S → Row → Registers → S → ℕ → Seen → Cycle → Run S
after_made m row r s n seen Fetch =
    let at = address_on Program row r seen in
    if m.holds_code s at
    then reading m Code at s n (record seen { fetched = seen.fetched ++ m.read_value s at ∷ [] })
    else Ended s (FetchOutside at)
after_made m row r s n seen (Discard when lines) =
    if is_made when row r seen then reading m Discarded (address_on lines row r seen) s n seen else Under s n seen
after_made m row r s n seen (Point lines) =
    let at = address_on lines row r seen in
    reading m Pointer at s n (record seen { pointer = seen.pointer ++ m.read_value s at ∷ [] })
after_made m row r s n seen (Read lines) =
    let at = address_on lines row r seen in
    reading m Data at s n (record seen { read = seen.read ++ m.read_value s at ∷ [] })
after_made m row r s n seen (Write lines source) =
    Under (m.after_write s (address_on lines row r seen) (byte_from source row r seen)) (n + 1) seen

-- The same, unless a fetch has failed.
abbrev pub after_cycle : {S : Type 0} → Meaning S → Row → Registers → Run S → Cycle → Run S
after_cycle m row r (Under s n seen) cycle = after_made m row r s n seen cycle
after_cycle m row r (Ended s fault) cycle = Ended s fault

-- What a step answers and leaves after its last cycle. Registers change in it alone, and not at a fault.
abbrev pub step_after : {S : Type 0} → Row → Registers → Run S → Step S
step_after row r (Under s n seen) = record {
  answer = Ok n;
  registers = registers_after (record { row = row; operand = operand_seen row r seen }) r seen.read;
  bus = s;
}
step_after row r (Ended s fault) = record { answer = Err fault; registers = r; bus = s }

-- The run of an instruction by its row, once its opcode was fetched.
abbrev pub run_of : {S : Type 0} → Meaning S → Registers → S → ℕ → Row → Run S
run_of m r s opcode row = fold (after_cycle m row r) (Under s 1 (opcode_seen opcode)) (cycles_of row.operation row.mode)

abbrev pub step_by_row : {S : Type 0} → Meaning S → Registers → S → ℕ → Option Row → Step S
step_by_row m r s opcode (Some row) = step_after row r (run_of m r s opcode row)
step_by_row m r s opcode None = record { answer = Err (BadOpcode opcode r.pc); registers = r; bus = s }

-- One instruction. The first cycle fetches its opcode.
abbrev pub step_of : {S : Type 0} → Meaning S → Registers → S → Step S
step_of m r s =
    if m.holds_code s r.pc
    then step_by_row m r (m.after_read s Code r.pc) (m.read_value s r.pc) (row_of (m.read_value s r.pc))
    else record { answer = Err (FetchOutside r.pc); registers = r; bus = s }
