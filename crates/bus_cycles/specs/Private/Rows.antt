-- What the rows of the table of instructions have, by how their operations are alike. For proofs alone: no
-- public contract names it.
use Rattle.std.specs.Prelude.{ℕ, ◌≡◌, ◌+◌, Bool, true, false, not, ◌&&◌, ◌==◌, Option, Some, None, if◌then◌else◌}
use Rattle.mos_cpu.specs.declared.opcode_row.Row.{Row}
use Rattle.mos_cpu.specs.declared.mode.Mode.{Mode}
use Rattle.mos_cpu.specs.declared.mode.Mode.TheVariants.{Implied, Accumulator, Immediate, Absolute, Relative, Indirect}
use Rattle.bus_cycles.specs.Private.Found.{is_place, is_indexed, time_before, one_if}
use Rattle.bus_cycles.specs.declared.kind.Kind.{Kind}
use Rattle.bus_cycles.specs.declared.kind.Kind.TheVariants as kind

-- The cycles of a row, and whether it takes one more if indexing crosses a page.
abbrev pub expected : Kind → Mode → Option (ℕ × Bool)
expected kind.Read Immediate = Some (2, false)
expected kind.Read mode = if is_place mode then Some (time_before mode + 1, is_indexed mode) else None
expected kind.Store mode = if is_place mode then Some (time_before mode + one_if (is_indexed mode) + 1, false) else None
expected kind.Change Accumulator = Some (2, false)
expected kind.Change mode = if is_place mode then Some (time_before mode + one_if (is_indexed mode) + 3, false) else None
expected kind.Branch Relative = Some (2, false)
expected kind.Implied Implied = Some (2, false)
expected kind.Push Implied = Some (3, false)
expected kind.Pull Implied = Some (4, false)
expected kind.Rts Implied = Some (6, false)
expected kind.Rti Implied = Some (6, false)
expected kind.Brk Implied = Some (7, false)
expected kind.Jmp Absolute = Some (3, false)
expected kind.Jmp Indirect = Some (5, false)
expected kind.Jsr Absolute = Some (6, false)
expected other mode = None

abbrev pub IsExpected : Option (ℕ × Bool) → Row → Type 0
IsExpected (Some e) row = (row.cycles ≡ e.0) × (row.crossing ≡ e.1)
IsExpected None row = ⊥

-- The same as a test.
abbrev pub is_same : Bool → Bool → Bool
is_same true b = b
is_same false b = not b

abbrev pub is_expected : Option (ℕ × Bool) → Row → Bool
is_expected (Some e) row = (row.cycles == e.0) && is_same row.crossing e.1
is_expected None row = false
