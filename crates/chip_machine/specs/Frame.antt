-- A frame: instructions, each with the stop that it leaves, until the first at which the frame stops.
-- When a frame ends is this project's own.
use Rattle.std.specs.Prelude.{ℕ, zero, suc, nat_le, if◌then◌else◌, Result, Ok, Err}
use Rattle.mos_cpu.specs.Registers.{Registers}
use Rattle.mos_cpu.specs.declared.fault.CpuFault.{CpuFault}
use Rattle.bus_cycles.specs.Execution.{step_of}
use Rattle.chip_machine.specs.Consoles.{Console, meaning_of, after_stop}

-- The processor and the console of a frame.
pub record Machine (S : Type 0) : Type 0 where
  pub registers : Registers
  pub console : Console S

-- What an instruction with its stop comes to.
pub data Turn (S : Type 0) : Type 0 where
  Faulty : CpuFault → Turn S
  Went : Machine S → Turn S

-- How a frame stops. After a fault nothing is asked of the console.
pub data Stop (S : Type 0) : Type 0 where
  Ended : Machine S → Stop S
  Overlong : Stop S
  Faulted : CpuFault → Stop S

-- Cycles after which a frame that has not ended is too long: 1,024 scanlines.
abbrev pub overlong_cycles : ℕ
overlong_cycles = 77824

module _ {S : Type 0} (drawn : S → ℕ → ℕ → ℕ → S) where
  abbrev pub turn_by : Registers → Console S → Result ℕ CpuFault → Turn S
  turn_by r console (Err fault) = Faulty fault
  turn_by r console (Ok n) = Went (record { registers = r; console = after_stop drawn console })

  -- One instruction with its stop. The next cycle would be a read, so it is the same to wait at once.
  unfoldable pub turn : Machine S → Turn S
  turn m =
      let step = step_of (meaning_of drawn) m.registers m.console in
      turn_by step.registers step.bus step.answer

  abbrev pub stop_after : (Machine S → Stop S) → Turn S → Stop S
  stop_after later (Faulty fault) = Faulted fault
  stop_after later (Went next) = if next.console.has_ended then Ended next else later next

  -- The stop within so many instructions.
  unfoldable pub stop_within : ℕ → Machine S → Stop S
  stop_within zero m = Overlong
  stop_within (suc n) m =
      if nat_le overlong_cycles m.console.cycles then Overlong else stop_after (stop_within n) (turn m)

  -- The stop of a frame. An instruction takes a cycle at least, so that as many of them are enough.
  unfoldable pub stop_of : Machine S → Stop S
  stop_of m = stop_within overlong_cycles m
