-- What a step does. For proofs alone: no public contract names it.
use Rattle.std.specs.Prelude.{ℕ, ◌≡◌, Ok}
use Rattle.mos_cpu.specs.Registers.{Registers}
use Rattle.bus_cycles.specs.Buses.{Meaning}
use Rattle.bus_cycles.specs.Execution.{step_of}

-- A step answers these cycles, and leaves these registers and this bus.
abbrev pub IsStepOf : {S : Type 0} → Meaning S → Registers → S → ℕ → Registers → S → Type 0
IsStepOf m r s cycles registers after =
    step_of m r s ≡ record { answer = Ok cycles; registers = registers; bus = after }
