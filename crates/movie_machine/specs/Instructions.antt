-- A frame instruction by instruction, by the rules of its cartridge and its state. This project's own.
use Rattle.std.specs.Prelude.{◌≡◌, ℕ, zero, suc, ◌<◌, ◌||◌, nat_le, List, [], ◌∷◌, ◌++◌, length, take, Bool, true, false, if◌then◌else◌}
use Rattle.std.specs.Prelude.{Option, Some, None, Result, Ok, Err}
use Rattle.cart_board.specs.CartState.{Cartridge}
use Rattle.chip_machine.specs.Frame.{Machine as MachineOfChip, Turn as TurnOfChip, Faulty as FaultyByChip, Went as WentByChip}
use Rattle.chip_machine.specs.Frame.{overlong_cycles as overlong_by_chip, turn as turn_by_chip}
use Rattle.chip_machine.specs.Instructions.{ExecutedData as ExecutedByChip, executed_at as executed_by_chip}
use Rattle.chip_machine.specs.Outcomes.{machine_of as machine_by_chip}
use Rattle.chip_machine.specs.Pictures.{rows_of as rows_by_chip}
use Rattle.mos_cpu.specs.Opcodes.{row_of as row_of_opcode}
use Rattle.mos_cpu.specs.Operands.{length_of}
use Rattle.mos_cpu.specs.Registers.{Registers}
use Rattle.mos_cpu.specs.declared.fault.CpuFault.{CpuFault}
use Rattle.mos_cpu.specs.declared.opcode_row.Row.{Row}
use Rattle.riot_map.specs.Cart.{has_banks}
use Rattle.tia_core.specs.declared.paint.NoPaint.{NoPaint}
use Rattle.vcs_machine.specs.Frame.{Machine, Turn, Faulty, Went, is_over as is_over_by_guide, turn as turn_by_guide}
use Rattle.vcs_machine.specs.Inputs.{InputData}
use Rattle.vcs_machine.specs.Instructions.{ExecutedData as ExecutedByGuide, Undrawn, executed_at as executed_by_guide, undrawn_meaning, undrawn_of, with_pixel_lost}
use Rattle.vcs_machine.specs.Pictures.{rows_of as rows_by_guide}
use Rattle.vcs_machine.specs.States.{line_cycle_of as line_cycle_by_guide}
use Rattle.vcs_machine.specs.declared.executed.DataAccess.{DataAccess}
use Rattle.movie_machine.specs.declared.cart.Cart.{Cart}
use Rattle.movie_machine.specs.declared.cart.Cart.TheVariants.{Guide as GuideCart, Chip as ChipCart}
use Rattle.movie_machine.specs.declared.state.State.{State}
use Rattle.movie_machine.specs.declared.state.State.TheVariants.{Guide as GuideState, Chip as ChipState}

-- An instruction of a frame, as it is before it begins: the scanline, counted from 0, and the cycle of
-- it; the registers; the selected banks, of a cartridge that has some; the bytes of the instruction, its
-- opcode first; and its data accesses.
pub record ExecutedData : Type 0 where
  pub line : ℕ
  pub cycle : ℕ
  pub registers : Registers
  pub banks : List ℕ
  pub code : List ℕ
  pub accesses : List DataAccess

-- A frame that has come to an instruction. By the guide's rules it is counted from the cycle of its
-- scanline in which it began.
pub data Underway : Type 0 where
  Guide : List ℕ → ℕ → Machine Undrawn → Underway
  Chip : Cartridge → MachineOfChip NoPaint → Underway

-- One that begins in this state with this input, if the rules of the cartridge and the state are the same.
abbrev pub begun : Cart → State → InputData → Option Underway
begun (GuideCart bytes) (GuideState s) i = Some (Guide bytes (line_cycle_by_guide s) (undrawn_of bytes s i))
begun (ChipCart cartridge) (ChipState s) i = Some (Chip cartridge (machine_by_chip cartridge s i (record {})))
begun (GuideCart bytes) (ChipState s) i = None
begun (ChipCart cartridge) (GuideState s) i = None

-- Its cycles so far.
abbrev pub cycles_of : Underway → ℕ
cycles_of (Guide bytes cycle m) = m.cycles
cycles_of (Chip cartridge m) = m.console.cycles

-- The rows of its picture, if it ends here.
abbrev pub rows_of : Underway → ℕ
rows_of (Guide bytes cycle m) = rows_by_guide cycle m.cycles
rows_of (Chip cartridge m) = rows_by_chip m.console.tia

-- Its end has come.
abbrev pub has_ended : Underway → Bool
has_ended (Guide bytes cycle m) = m.bus.ended
has_ended (Chip cartridge m) = m.console.has_ended

-- It stops here: it has ended, or it is too long.
abbrev pub is_over : Underway → Bool
is_over (Guide bytes cycle m) = is_over_by_guide undrawn_meaning m
is_over (Chip cartridge m) = m.console.has_ended || nat_le overlong_by_chip m.console.cycles

-- The bytes of an instruction, of which these are the first and the two after it.
abbrev pub code_by : Option Row → List ℕ → List ℕ
code_by None bytes = []
code_by (Some row) bytes = take (length_of row.mode) bytes

-- An instruction by the guide's rules, on a cartridge of these bytes,
abbrev pub guide_executed : List ℕ → ExecutedByGuide → ExecutedData
guide_executed bytes e = record {
  line = e.line;
  cycle = e.cycle;
  registers = e.registers;
  banks = if has_banks (length bytes) then e.bank ∷ [] else [];
  code = code_by (row_of_opcode e.opcode) (e.opcode ∷ e.low ∷ e.high ∷ []);
  accesses = e.accesses;
}

-- and by the chip's.
abbrev pub chip_executed : Cartridge → ExecutedByChip → ExecutedData
chip_executed cartridge e = record {
  line = e.line;
  cycle = e.cycle;
  registers = e.registers;
  banks = take (length cartridge.row.banks) e.banks;
  code = e.code;
  accesses = e.accesses;
}

-- The instruction to which a frame has come.
abbrev pub executed_at : Underway → ExecutedData
executed_at (Guide bytes cycle m) = guide_executed bytes (executed_by_guide with_pixel_lost m)
executed_at (Chip cartridge m) = chip_executed cartridge (executed_by_chip (λ s _ _ _. s) m)

-- What that comes to: the frame after it, or its fault.
abbrev pub after_turn : List ℕ → ℕ → Turn Undrawn → Result Underway CpuFault
after_turn bytes cycle (Went m) = Ok (Guide bytes cycle m)
after_turn bytes cycle (Faulty fault) = Err fault

abbrev pub after_turn_by_chip : Cartridge → TurnOfChip NoPaint → Result Underway CpuFault
after_turn_by_chip cartridge (WentByChip m) = Ok (Chip cartridge m)
after_turn_by_chip cartridge (FaultyByChip fault) = Err fault

abbrev pub next_of : Underway → Result Underway CpuFault
next_of (Guide bytes cycle m) = after_turn bytes cycle (turn_by_guide undrawn_meaning m)
next_of (Chip cartridge m) = after_turn_by_chip cartridge (turn_by_chip (λ s _ _ _. s) m)

-- ---- one after another

abbrev pub and_then : (Underway → Result Underway CpuFault) → Result Underway CpuFault → Result Underway CpuFault
and_then next (Ok here) = next here
and_then next (Err fault) = Err fault

-- After so many instructions.
abbrev pub after : Underway → ℕ → Result Underway CpuFault
after start zero = Ok start
after start (suc n) = and_then next_of (after start n)

abbrev pub executed_in : Result Underway CpuFault → List ExecutedData
executed_in (Ok here) = executed_at here ∷ []
executed_in (Err fault) = []

-- The first so many instructions.
abbrev pub executed : Underway → ℕ → List ExecutedData
executed start zero = []
executed start (suc n) = executed start n ++ executed_in (after start n)

-- After so many it is here, and after none of fewer, but for none, was it over.
pub record Reaches (start : Underway) (count : ℕ) (here : Underway) : Type 0 where
  pub reached : after start count ≡ Ok here
  pub least : (k : ℕ) → k < count → 0 < k → (there : Underway) → after start k ≡ Ok there → is_over there ≡ false

-- How it stops: it ends here, it is too long, or the instruction to which it has come faults.
pub data Stop : Type 0 where
  Ended : Underway → Stop
  Overlong : Stop
  Faulted : CpuFault → Stop

-- It stops so, after so many instructions.
abbrev pub StopsAfter : Underway → ℕ → Stop → Type 0
StopsAfter start count (Ended here) = Reaches start count here × (0 < count) × (has_ended here ≡ true)
StopsAfter start count Overlong = (here : Underway) × Reaches start count here × (0 < count) × (has_ended here ≡ false) × (is_over here ≡ true)
StopsAfter start count (Faulted fault) = (here : Underway) × Reaches start count here × (0 < count → is_over here ≡ false) × (next_of here ≡ Err fault)
