-- A frame over any bus: instructions, each with its wait, until the least number of them at which
-- the frame stops. All of this is this project's own: when a frame stops, and that nothing is done
-- between its instructions but to wait.
use Rattle.std.specs.Prelude.{◌≡◌, ℕ, zero, suc, ◌+◌, ◌<◌, ◌≤◌, ◌||◌, nat_le, Bool, true, false}
use Rattle.std.specs.Prelude.{if◌then◌else◌, Result, Ok, Err}
use Rattle.mos_cpu.specs.Buses.{Meaning}
use Rattle.mos_cpu.specs.Registers.{Registers}
use Rattle.mos_cpu.specs.Execution.{step_of}
use Rattle.mos_cpu.specs.declared.fault.CpuFault.{CpuFault}

-- What a frame asks of a bus: what its calls mean, the bus after the wait that an instruction left
-- to it and the cycles of that wait, and whether the frame's end has come.
pub record FrameMeaning (B : Type 0) : Type 0 where
  pub calls : Meaning B
  pub after_wait : B → B
  pub wait : B → ℕ
  pub ended : B → Bool

-- The processor and its bus in a frame, and the cycles of the frame so far.
pub record Machine (B : Type 0) : Type 0 where
  pub registers : Registers
  pub bus : B
  pub cycles : ℕ

-- What an instruction with its wait comes to.
pub data Turn (B : Type 0) : Type 0 where
  Faulty : CpuFault → Turn B
  Went : Machine B → Turn B

-- Cycles after which a frame that has not ended is too long, this project's own: 320 scanlines.
abbrev pub overlong_cycles : ℕ
overlong_cycles = 24320

-- The most cycles that a frame takes: its last instruction begins before it is too long, at 24,319
-- at the latest, and takes at most 7 cycles and a wait of 75.
abbrev pub most_frame_cycles : ℕ
most_frame_cycles = 24401

module _ {B : Type 0} (meaning : FrameMeaning B) where
  abbrev pub turn_by : ℕ → Registers → B → Result ℕ CpuFault → Turn B
  turn_by cycles r bus (Err fault) = Faulty fault
  turn_by cycles r bus (Ok n) = Went (record { registers = r; bus = meaning.after_wait bus; cycles = cycles + n + meaning.wait bus })

  -- One instruction with its wait.
  unfoldable pub turn : Machine B → Turn B
  turn m =
      let step = step_of meaning.calls m.registers m.bus in
      turn_by m.cycles step.registers step.bus step.answer

  abbrev pub turn_after : Turn B → Turn B
  turn_after (Faulty fault) = Faulty fault
  turn_after (Went m) = turn m

  -- So many of them, one after another.
  abbrev pub turns : ℕ → Machine B → Turn B
  turns zero m = Went m
  turns (suc n) m = turn_after (turns n m)

  -- Whether a frame stops here.
  abbrev pub is_over : Machine B → Bool
  is_over m = meaning.ended m.bus || nat_le overlong_cycles m.cycles

-- After so many instructions from the start the machine is here, and it was not over after fewer.
pub record Reaches {B : Type 0} (meaning : FrameMeaning B) (start : Machine B) (count : ℕ) (here : Machine B) : Type 0 where
  pub reached : turns meaning count start ≡ Went here
  pub least : (k : ℕ) → k < count → 0 < k → (m : Machine B) → turns meaning k start ≡ Went m → is_over meaning m ≡ false

-- A frame ends here: its end has come at the least number of instructions at which it is over,
pub record Ends {B : Type 0} (meaning : FrameMeaning B) (start here : Machine B) : Type 0 where
  pub count : ℕ
  pub some : 0 < count
  pub reaches : Reaches meaning start count here
  pub ended : meaning.ended here.bus ≡ true

-- or it is too long without that,
pub record IsOverlong {B : Type 0} (meaning : FrameMeaning B) (start here : Machine B) : Type 0 where
  pub count : ℕ
  pub some : 0 < count
  pub reaches : Reaches meaning start count here
  pub unended : meaning.ended here.bus ≡ false
  pub long : overlong_cycles ≤ here.cycles

-- or the next instruction faults, before it is over.
pub record Faults {B : Type 0} (meaning : FrameMeaning B) (start here : Machine B) (fault : CpuFault) : Type 0 where
  pub count : ℕ
  pub reaches : Reaches meaning start count here
  pub going : 0 < count → is_over meaning here ≡ false
  pub fails : turn meaning here ≡ Faulty fault

-- How a frame stops, and where.
pub data Stop (B : Type 0) : Type 0 where
  Ended : Machine B → Stop B
  Overlong : Machine B → Stop B
  Faulted : CpuFault → Machine B → Stop B

-- Where a frame stops.
abbrev pub machine_at : {B : Type 0} → Stop B → Machine B
machine_at (Ended m) = m
machine_at (Overlong m) = m
machine_at (Faulted fault m) = m

-- A frame from this start stops so.
abbrev pub StopsAs : {B : Type 0} → FrameMeaning B → Machine B → Stop B → Type 0
StopsAs meaning start (Ended here) = Ends meaning start here
StopsAs meaning start (Overlong here) = IsOverlong meaning start here
StopsAs meaning start (Faulted fault here) = Faults meaning start here fault

-- The one way in which a frame stops, found by trying one instruction after another. Each takes at
-- least two cycles, so that this many are enough: a law says that a frame stops so, and in no other
-- way.
abbrev pub most_turns : ℕ
most_turns = 12160

module _ {B : Type 0} (meaning : FrameMeaning B) where
  abbrev pub stop_after : (Machine B → Stop B) → Machine B → Turn B → Stop B
  stop_after later m (Faulty fault) = Faulted fault m
  stop_after later m (Went next) = if meaning.ended next.bus then Ended next else later next

  unfoldable pub stop_within : ℕ → Machine B → Stop B
  stop_within zero m = Overlong m
  stop_within (suc n) m =
      if nat_le overlong_cycles m.cycles then Overlong m else stop_after (stop_within n) m (turn meaning m)

  unfoldable pub stop_of : Machine B → Stop B
  stop_of m = stop_within most_turns m
