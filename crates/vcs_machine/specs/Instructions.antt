-- The instructions of a frame, one after another: each as it is before it begins, and its data
-- accesses. This project's own.
use Rattle.std.specs.Prelude.{ℕ, ◌+◌, ◌/◌, ◌%◌, List, [], ◌∷◌, unwrap_or, Result}
use Rattle.std.specs.Prelude.{Ok, Err, true, false}
use Rattle.mos_cpu.specs.Accesses.{accesses_of, instruction_cycles}
use Rattle.mos_cpu.specs.Buses.{Meaning}
use Rattle.mos_cpu.specs.Effects.{written_byte}
use Rattle.mos_cpu.specs.Execution.{Progress, after_access, at_start, bus_at}
use Rattle.mos_cpu.specs.Operands.{Instruction, instruction_at}
use Rattle.mos_cpu.specs.Registers.{Registers}
use Rattle.mos_cpu.specs.declared.access.Access.{Access}
use Rattle.mos_cpu.specs.declared.access.Transfer.{Transfer}
use Rattle.mos_cpu.specs.declared.access.Transfer.TheVariants.{Read, Write}
use Rattle.mos_cpu.specs.declared.fault.CpuFault.{CpuFault}
use Rattle.mos_cpu.specs.declared.operation.Operation.{Operation}
use Rattle.vcs_machine.specs.Consoles.{Console, frame_meaning_of, meaning_of}
use Rattle.vcs_machine.specs.Frame.{FrameMeaning, Machine, Reaches, Stop, StopsAs}
use Rattle.vcs_machine.specs.Frame.{machine_at}
use Rattle.vcs_machine.specs.Inputs.{InputData}
use Rattle.vcs_machine.specs.Outcomes.{machine_of}
use Rattle.vcs_machine.specs.declared.executed.DataAccess.{DataAccess}
use Rattle.vcs_machine.specs.declared.fields.StateFields.{StateFields}
use Rattle.vcs_machine.specs.declared.logged.NoPixels.{NoPixels}

module _ {S : Type 0} (m : Meaning S) where
  -- The access with its byte: the one that is read, or the one that the operation writes.
  abbrev pub with_byte : Operation → ℕ → Progress S → ℕ → ℕ → Transfer → DataAccess
  with_byte operation p progress cycle address Read =
      record { is_write = false; address = address; byte = m.read_value (bus_at m progress cycle) address }
  with_byte operation p progress cycle address (Write source) =
      record { is_write = true; address = address; byte = written_byte operation p progress.bytes source }

  -- Accesses in turn, each with its byte.
  abbrev pub with_bytes : Operation → ℕ → Progress S → List Access → List DataAccess
  with_bytes operation p progress [] = []
  with_bytes operation p progress (access ∷ more) =
      with_byte operation p progress access.cycle access.address access.transfer
      ∷ with_bytes operation p (after_access m operation p progress access) more

  abbrev pub accesses_by : Registers → S → Result Instruction CpuFault → List DataAccess
  accesses_by r s (Ok i) = with_bytes i.row.operation r.p (at_start s) (accesses_of i r (instruction_cycles i r.p))
  accesses_by r s (Err fault) = []

  -- The data accesses of the instruction at the program counter, in their order.
  unfoldable pub data_accesses : Registers → S → List DataAccess
  data_accesses r s = accesses_by r s (instruction_at m s r)

  -- The byte at an address as an instruction's byte is looked at; 0 where a register of a device
  -- would answer.
  abbrev pub byte_at : S → ℕ → ℕ
  byte_at s address = unwrap_or (m.peeked s address) 0

-- An instruction of a frame, as it is before it begins: the scanline, counted from 0, and the cycle
-- of it; the registers; the selected bank; its opcode and the two bytes after that, which may be no
-- part of it; and its data accesses.
pub record ExecutedData : Type 0 where
  pub line : ℕ
  pub cycle : ℕ
  pub registers : Registers
  pub bank : ℕ
  pub opcode : ℕ
  pub low : ℕ
  pub high : ℕ
  pub accesses : List DataAccess

abbrev pub executed_at : {S : Type 0} → (S → ℕ → ℕ → ℕ → S) → Machine (Console S) → ExecutedData
executed_at drawn m =
    let byte = byte_at (meaning_of drawn) m.bus in
    record {
      line = m.bus.tia.line;
      cycle = m.bus.tia.fields.clock / 3;
      registers = m.registers;
      bank = m.bus.bank;
      opcode = byte m.registers.pc;
      low = byte ((m.registers.pc + 1) % 65536);
      high = byte ((m.registers.pc + 2) % 65536);
      accesses = data_accesses (meaning_of drawn) m.registers m.bus;
    }

module _ {B : Type 0} (meaning : FrameMeaning B) where
  -- A frame stops so, after so many instructions.
  abbrev pub StopsAfter : Machine B → ℕ → Stop B → Type 0
  StopsAfter start count stop = Reaches meaning start count (machine_at stop) × StopsAs meaning start stop

-- ---- on a console that draws nothing
abbrev pub Undrawn : Type 0
Undrawn = Console NoPixels

abbrev pub with_pixel_lost : NoPixels → ℕ → ℕ → ℕ → NoPixels
with_pixel_lost sink line x colour = sink

abbrev pub undrawn_meaning : FrameMeaning Undrawn
undrawn_meaning = frame_meaning_of with_pixel_lost

-- The machine at a frame's start.
abbrev pub undrawn_of : List ℕ → StateFields → InputData → Machine Undrawn
undrawn_of cartridge s i = machine_of cartridge s i (record {})
