-- The data accesses among the cycles of an instruction, in the form of mos_cpu's. The words are this project's
-- own; what they say follows from the table of bus cycles.
use Rattle.std.specs.Prelude.{ℕ, ◌+◌, ◌%◌, ◌==◌, List, [], ◌∷◌, ◌++◌, if◌then◌else◌}
use Rattle.mos_cpu.specs.Accesses.{ReturnHigh, ReturnLow, stored_byte, pushes}
use Rattle.mos_cpu.specs.Operands.{Instruction}
use Rattle.mos_cpu.specs.Registers.{Registers}
use Rattle.mos_cpu.specs.declared.access.Access.{Access}
use Rattle.mos_cpu.specs.declared.access.Source.{Source}
use Rattle.mos_cpu.specs.declared.access.Source.TheVariants as written
use Rattle.mos_cpu.specs.declared.access.Transfer.TheVariants as transfer
use Rattle.mos_cpu.specs.declared.fault.CpuFault.{CpuFault}
use Rattle.mos_cpu.specs.declared.fault.CpuFault.TheVariants.{FetchOutside}
use Rattle.mos_cpu.specs.declared.opcode_row.Row.{Row}
use Rattle.mos_cpu.specs.declared.operation.Operation.{Operation}
use Rattle.mos_cpu.specs.declared.operation.Operation.TheVariants.{Jsr}
use Rattle.bus_cycles.specs.Addresses.{Seen, opcode_seen, operand_seen, address_on}
use Rattle.bus_cycles.specs.Buses.{Meaning}
use Rattle.bus_cycles.specs.Cycles as table
use Rattle.bus_cycles.specs.Execution.{Run, Under, Ended, after_cycle}

-- The instruction that was read, with the operand that its bytes name.
abbrev pub instruction_seen : Row → Registers → Seen → Instruction
instruction_seen row r seen = record { row = row; operand = operand_seen row r seen }

-- What a cycle writes.
abbrev pub written_from : table.Source → Registers → Source
written_from (table.Held what) r = written.Byte (stored_byte what r)
written_from table.Loaded r = written.Loaded
written_from table.Changed r = written.Changed

-- The data access of a cycle that comes after n others: what the instruction reads or pulls, and what it
-- writes or pushes. A fetch, a byte that is thrown away, and one of a pointer or of the vector are none.
abbrev pub data_access : table.Cycle → Row → Registers → ℕ → Seen → List Access
data_access (table.Read lines) row r n seen =
    record { cycle = n + 1; address = address_on lines row r seen; transfer = transfer.Read } ∷ []
data_access (table.Write lines source) row r n seen =
    record { cycle = n + 1; address = address_on lines row r seen; transfer = transfer.Write (written_from source r) } ∷ []
data_access other row r n seen = []

abbrev pub data_access_in : {S : Type 0} → table.Cycle → Row → Registers → Run S → List Access
data_access_in cycle row r (Under s n seen) = data_access cycle row r n seen
data_access_in cycle row r (Ended s fault) = []

-- Those of cycles in turn.
abbrev pub data_accesses : {S : Type 0} → Meaning S → Row → Registers → Run S → List table.Cycle → List Access
data_accesses m row r run [] = []
data_accesses m row r run (cycle ∷ cycles) =
    data_access_in cycle row r run ++ data_accesses m row r (after_cycle m row r run cycle) cycles

-- Those of an instruction by its row, once its opcode was fetched.
abbrev pub data_accesses_of : {S : Type 0} → Meaning S → Registers → S → ℕ → Row → List Access
data_accesses_of m r s opcode row =
    data_accesses m row r (Under s 1 (opcode_seen opcode)) (table.cycles_of row.operation row.mode)

-- Those before a fault. JSR alone has any: its pushes, since its last byte is fetched after them.
abbrev pub accesses_before : Operation → Registers → CpuFault → List Access
accesses_before Jsr r (FetchOutside at) =
    if at == (r.pc + 2) % 65536 then pushes r 0 ((4, ReturnHigh) ∷ (5, ReturnLow) ∷ []) else []
accesses_before other r fault = []
