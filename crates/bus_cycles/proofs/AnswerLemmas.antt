-- What holds of one value holds of another that equals it: answers say so of the values of a body.
use Rattle.std.proofs.Common.{◌≡◌, ◌∙◌, ℕ, true, false, Result, sym, refl, subst}
use Rattle.std.specs.Prelude.{IsOk}
use Rattle.mos_cpu.specs.Operands.{takes_vector, instruction_at}
use Rattle.mos_cpu.specs.Registers.{Registers}
use Rattle.mos_cpu.specs.declared.fault.CpuFault.{CpuFault}
use Rattle.mos_cpu.specs.declared.opcode_row.Row.{Row}
use Rattle.mos_cpu.specs.declared.operation.Operation.{Operation}
use Rattle.mos_cpu.specs.declared.mode.Mode.{Mode}
use Rattle.mos_cpu.specs.declared.mode.Mode.TheVariants.{Absolute, Indirect}
use Rattle.bus_cycles.specs.Buses.{Meaning}
use Rattle.bus_cycles.specs.Private.Found.{is_place, is_found, IsRun}
use Rattle.bus_cycles.specs.Private.Held.{held_meaning, IsGuideStep}
use Rattle.bus_cycles.specs.Private.Kinds.{kind_of}
use Rattle.bus_cycles.specs.Private.Rows.{expected, IsExpected}
use Rattle.bus_cycles.proofs.QuietLemmas.{plain-kind}
use Rattle.bus_cycles.specs.declared.held.HeldBus.{HeldBus}
use Rattle.bus_cycles.specs.declared.kind.Kind.{Kind}
use Rattle.bus_cycles.specs.declared.kind.Kind.TheVariants as kind

pub ok-tied : (bus other : HeldBus) (r : Registers) → bus ≡ other → IsOk (instruction_at held_meaning other r)
    → IsOk (instruction_at held_meaning bus r)
ok-tied bus other r e ok = subst (λ (bus : HeldBus). IsOk (instruction_at held_meaning bus r)) (sym e) ok

pub guide-tied : (r : Registers) (bus other : HeldBus) (cycles : ℕ) (registers : Registers) (left : HeldBus) → bus ≡ other
    → IsGuideStep r bus cycles registers left → IsGuideStep r other cycles registers left
guide-tied r bus other cycles registers left e guide = subst (λ (bus : HeldBus). IsGuideStep r bus cycles registers left) e guide

pub run-tied : {S : Type 0} (m : Meaning S) (row : Row) (r : Registers) (s : S) (opcode : ℕ) (answer : Result ℕ CpuFault)
    (registers : Registers) (after other : S) → after ≡ other → IsRun m r s opcode row answer registers other
    → IsRun m r s opcode row answer registers after
run-tied m row r s opcode answer registers after other e run =
    subst (λ after. IsRun m r s opcode row answer registers after) (sym e) run

pub plain-of : (o : Operation) (k : Kind) → kind_of o ≡ k → (k ≡ kind.Brk → ⊥) → takes_vector o ≡ false
plain-of o k is other = plain-kind o (λ e. other (sym is ∙ e))

-- The operand of a place in memory has to be found, and that of JMP.
pub place-found : (mode : Mode) → is_place mode ≡ true → is_found mode ≡ true
place-found Indirect e = refl
place-found other e = e

pub jmp-found : (mode : Mode) (row : Row) → IsExpected (expected kind.Jmp mode) row → is_found mode ≡ true
jmp-found Absolute row e = refl
jmp-found Indirect row e = refl
jmp-found other row e = absurd e
