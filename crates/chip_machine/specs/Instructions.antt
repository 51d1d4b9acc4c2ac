-- The instructions of a frame, one after another: each as it is before it begins, and its accesses. This
-- project's own.
use Rattle.std.specs.Prelude.{ℕ, ◌/◌, List, [], ◌∷◌, ◌++◌, length, nat_lt, if◌then◌else◌, true, false}
use Rattle.bus_cycles.specs.Buses.{Meaning}
use Rattle.bus_cycles.specs.Execution.{step_of}
use Rattle.bus_cycles.specs.declared.bus.Purpose.{Purpose}
use Rattle.bus_cycles.specs.declared.bus.Purpose.TheVariants.{Code, Data}
use Rattle.mos_cpu.specs.Registers.{Registers}
use Rattle.vcs_machine.specs.declared.executed.DataAccess.{DataAccess}
use Rattle.chip_machine.specs.Consoles.{meaning_of}
use Rattle.chip_machine.specs.Frame.{Machine}

-- A bus, with the bytes of the program that were fetched, and with what was read and written, pulled and
-- pushed.
pub record Listed (B : Type 0) : Type 0 where
  pub bus : B
  pub code : List ℕ
  pub accesses : List DataAccess

-- There is room for eight of each. An instruction has three at most.
abbrev pub with_item : {A : Type 0} → List A → A → List A
with_item items item = if nat_lt (length items) 8 then items ++ item ∷ [] else items

module _ {B : Type 0} where
  -- A read is listed by what it is for: a byte of the program, or what the instruction reads. That of a
  -- pointer or of a byte that is thrown away isn't.
  abbrev pub with_read : Purpose → ℕ → ℕ → Listed B → Listed B
  with_read Code address byte l = record l { code = with_item l.code byte }
  with_read Data address byte l =
      record l { accesses = with_item l.accesses (record { is_write = false; address = address; byte = byte }) }
  with_read other address byte l = l

  abbrev pub with_write : ℕ → ℕ → Listed B → Listed B
  with_write address byte l =
      record l { accesses = with_item l.accesses (record { is_write = true; address = address; byte = byte }) }

  -- A bus that lists its accesses.
  unfoldable pub listing : Meaning B → Meaning (Listed B)
  listing m = record {
    holds_code = λ l address. m.holds_code l.bus address;
    read_value = λ l address. m.read_value l.bus address;
    after_read = λ l purpose address.
        with_read purpose address (m.read_value l.bus address) (record l { bus = m.after_read l.bus purpose address });
    after_write = λ l address byte. with_write address byte (record l { bus = m.after_write l.bus address byte });
  }

  abbrev pub unlisted : B → Listed B
  unlisted bus = record { bus = bus; code = []; accesses = [] }

-- An instruction of a frame: the scanline, counted from 0, and the cycle of it; the registers; the bank
-- bytes; the bytes that were fetched, its opcode first; and what it read and wrote, in that order.
pub record ExecutedData : Type 0 where
  pub line : ℕ
  pub cycle : ℕ
  pub registers : Registers
  pub banks : List ℕ
  pub code : List ℕ
  pub accesses : List DataAccess

abbrev pub executed_at : {S : Type 0} → (S → ℕ → ℕ → ℕ → S) → Machine S → ExecutedData
executed_at drawn m =
    let after = (step_of (listing (meaning_of drawn)) m.registers (unlisted m.console)).bus in
    record {
      line = m.console.tia.line;
      cycle = m.console.tia.clock / 3;
      registers = m.registers;
      banks = m.console.cart.banks;
      code = after.code;
      accesses = after.accesses;
    }
