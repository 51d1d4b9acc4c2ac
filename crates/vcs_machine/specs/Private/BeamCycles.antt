-- The cycles of a frame so far, told by its beam. This project's own, for proofs alone.
use Rattle.std.specs.Prelude.{ℕ, ◌≤◌, ◌<◌, ◌+◌, ◌-◌, ◌*◌, ◌/◌}
use Rattle.mos_cpu.specs.Registers.{Registers}
use Rattle.vcs_machine.specs.Consoles.{Console}
use Rattle.vcs_machine.specs.Frame.{Machine}

-- The cycles from the begin of line 0 to the beam.
abbrev pub beam_cycles : {S : Type 0} → Console S → ℕ
beam_cycles c = 76 * c.tia.line + c.tia.fields.clock / 3

-- The beam is inside of a line, and of those that are counted.
pub record IsInside {S : Type 0} (c : Console S) : Type 0 where
  pub clock : c.tia.fields.clock < 228
  pub line : c.tia.line < 65536

-- A frame on its way, that began at this cycle of line 0.
pub record IsBegun {S : Type 0} (start : ℕ) (c : Console S) : Type 0 where
  pub inside : IsInside c
  pub first : start < 76
  pub begun : start ≤ beam_cycles c

-- The machine of such a frame.
abbrev pub machine_since : {S : Type 0} → ℕ → Registers → Console S → Machine (Console S)
machine_since start r c = record { registers = r; bus = c; cycles = beam_cycles c - start }
