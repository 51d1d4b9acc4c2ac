-- The step of the processor on the bytes that are held.
use Rattle.std.proofs.Common.{◌≡◌, ℕ, Bool, true, false, Result, Ok, Err, refl}
use Rattle.std.specs.Prelude.{IsOk, if◌then◌else◌}
use Rattle.mos_cpu.specs.Buses.{Meaning}
use Rattle.mos_cpu.specs.Execution.{step_by}
use Rattle.mos_cpu.specs.Operands.{Instruction}
use Rattle.mos_cpu.specs.Registers.{Registers}
use Rattle.mos_cpu.specs.declared.fault.CpuFault.{CpuFault}

-- An instruction that is there is no fault.
pub step_by-ok : {S : Type 0} (m : Meaning S) (r : Registers) (s : S) (fault : CpuFault) (d : Result Instruction CpuFault)
    → IsOk d → ◌≡◌ {A = Result ℕ CpuFault} (Err fault) (step_by m r s d).answer → ⊥
step_by-ok m r s fault (Ok i) ok e = cc
step_by-ok m r s fault (Err other) ok e = cc

-- A pointer of two bytes that are 0.
pub same-either : (is_low : Bool) → ◌≡◌ {A = ℕ} 0 (if is_low then 0 else 0)
same-either true = refl
same-either false = refl
