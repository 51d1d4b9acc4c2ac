-- What the cycles of an instruction do whose bytes are at hand, by its class. For proofs alone: no public
-- contract names it.
use Rattle.std.specs.Prelude.{ℕ, ◌≡◌, ◌+◌, ◌%◌, ◌==◌, Option, Some, if◌then◌else◌}
use Rattle.mos_cpu.specs.Opcodes.{row_of}
use Rattle.mos_cpu.specs.declared.opcode_row.Row.{Row}
use Rattle.bus_cycles.specs.Addresses.{in_page_of}
use Rattle.bus_cycles.specs.Buses.{AtHand, Meaning}
use Rattle.bus_cycles.specs.Private.Classes.{class_of}
use Rattle.bus_cycles.specs.declared.at_hand.ShortInstruction.{ShortInstruction}
use Rattle.bus_cycles.specs.declared.bus.Purpose.TheVariants.{Code, Data, Discarded}
use Rattle.bus_cycles.specs.declared.class.Class.{Class}
use Rattle.bus_cycles.specs.declared.class.Class.TheVariants as class

-- An instruction of a class that is at hand at an address.
pub record IsShort {S : Type 0} (m : Meaning S) (s : S) (at : ℕ) (short : ShortInstruction) : Type 0 where
  pub known : ◌≡◌ {A = Option Row} (row_of short.opcode) (Some short.row)
  pub class_is : class_of short.row ≡ short.class
  pub named : short.class ≡ class.Other → ⊥
  pub bytes : AtHand m s at short.opcode short.low

-- The bus after the cycles that fetch its bytes, or throw the second away.
abbrev pub both_fetched : {S : Type 0} → Meaning S → S → ℕ → S
both_fetched m s at = m.after_read (m.after_read s Code at) Code ((at + 1) % 65536)

abbrev pub one_fetched : {S : Type 0} → Meaning S → S → ℕ → S
one_fetched m s at = m.after_read (m.after_read s Code at) Discarded ((at + 1) % 65536)

-- The bus after its last cycle that reads, and the byte of page zero that it reads then.
abbrev pub begun : {S : Type 0} → Meaning S → S → ℕ → ℕ → Class → S
begun m s at low class.Implied = one_fetched m s at
begun m s at low class.Accumulator = one_fetched m s at
begun m s at low class.ZeroPageRead = m.after_read (both_fetched m s at) Data low
begun m s at low _ = both_fetched m s at

abbrev pub byte_read : {S : Type 0} → Meaning S → S → ℕ → ℕ → Class → ℕ
byte_read m s at low class.ZeroPageRead = m.read_value (both_fetched m s at) low
byte_read m s at low _ = 0

-- The bus after the cycles that come after those.
abbrev pub ended : {S : Type 0} → Meaning S → S → ℕ → ℕ → ℕ → ℕ → ℕ → Class → S
ended m s at low target cycles written class.Branch =
    let next = (at + 2) % 65536 in
    let near = m.after_read s Discarded next in
    if cycles == 2 then s else (if cycles == 3 then near else m.after_read near Discarded (in_page_of next target))
ended m s at low target cycles written class.ZeroPageStore = m.after_write s low written
ended m s at low target cycles written _ = s
