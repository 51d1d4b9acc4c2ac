-- What is said of inputs that were read in one way is said of them where that is a case of another.
use Rattle.std.proofs.Common.{Option, List, ℕ, Ok, Err, Result, inl, inr, arith}
use Rattle.command_line.specs.declared.command.CommandLine.{CommandLine}
use Rattle.commands.specs.declared.status.Status.{Status}
use Rattle.named_files.specs.declared.file_error.FileError.{FileError}
use Rattle.vcs_check.specs.declared.answered.Answered.{Answered}
use Rattle.vcs_check.specs.Commands.{Inputs, KeepsQuiet, LeavesPart, Says, Writes}
use Rattle.vcs_check.specs.Failures.{IsNoMemory, IsWriteFault}
use Rattle.vcs_check.specs.Private.FileErrors.{by_input, by_output}
use Rattle.vcs_check.specs.declared.failure.Failure.{Failure}

pub Says-weaker : (line : CommandLine) (R S : Inputs) → ((bytes : List ℕ) (old new : Option (List ℕ)) → R bytes old new → S bytes old new)
    → (status : Status) (written : List ℕ) → Says line R status written → Says line S status written
Says-weaker line R S f status written says = (says.0, says.1, says.2, f says.0 says.1 says.2 says.3, says.4, says.5)

pub Writes-weaker : (line : CommandLine) (R S : Inputs) → ((bytes : List ℕ) (old new : Option (List ℕ)) → R bytes old new → S bytes old new)
    → (old new : Option (List ℕ)) (result : Result Answered Failure) → Writes line R old new result → Writes line S old new result
Writes-weaker line R S f old new (Ok end) w = (w.0, Says-weaker line R S f end.status w.0 w.1, w.2)
Writes-weaker line R S f old new (Err failure) w = tt

pub LeavesPart-weaker : (line : CommandLine) (R S : Inputs) → ((bytes : List ℕ) (old new : Option (List ℕ)) → R bytes old new → S bytes old new)
    → (old new : Option (List ℕ)) (result : Result Answered Failure) → LeavesPart line R old new result → LeavesPart line S old new result
LeavesPart-weaker line R S f old new (Ok end) p = tt
LeavesPart-weaker line R S f old new (Err failure) p = (
  λ is. let h = p.0 is in (h.0, h.1, Says-weaker line R S f h.0 h.1 h.2, h.3),
  λ is. elim (p.1 is) [ inl kept ↦ inl kept | inr b ↦ inr (b.0, b.1, b.2, b.3, f b.0 b.1 b.2 b.4, b.5, b.6, b.7) ],
)

pub write_fault_was : (failure : Failure) (one : Option FileError) → IsWriteFault (by_input failure one) → IsWriteFault failure
write_fault_was failure one is = grind arith

pub no_memory_was : (failure : Failure) (one : Option FileError) → IsNoMemory (by_input failure one) → IsNoMemory failure
no_memory_was failure one is = grind arith

pub write_fault_was_too : (failure : Failure) (one : Option FileError) → IsWriteFault (by_output failure one) → IsWriteFault failure
write_fault_was_too failure one is = grind arith

pub no_memory_was_too : (failure : Failure) (one : Option FileError) → IsNoMemory (by_output failure one) → IsNoMemory failure
no_memory_was_too failure one is = grind arith

write_fault_is : (failure : Failure) (one : Option FileError) → IsWriteFault failure → IsWriteFault (by_output failure one)
write_fault_is failure one is = grind arith

no_memory_is : (failure : Failure) (one : Option FileError) → IsNoMemory failure → IsNoMemory (by_output failure one)
no_memory_is failure one is = grind arith

-- The same of a failure to which the file was added.
pub part_by_input : (line : CommandLine) (R : Inputs) (old new : Option (List ℕ)) (failure : Failure) (one : Option FileError)
    → LeavesPart line R old new (Err failure) → LeavesPart line R old new (Err (by_input failure one))
part_by_input line R old new failure one p = ((λ is. p.0 (write_fault_was failure one is)), λ is. p.1 (no_memory_was failure one is))

pub part_by_output : (line : CommandLine) (R : Inputs) (old new : Option (List ℕ)) (failure : Failure) (one : Option FileError)
    → LeavesPart line R old new (Err failure) → LeavesPart line R old new (Err (by_output failure one))
part_by_output line R old new failure one p = ((λ is. p.0 (write_fault_was_too failure one is)), λ is. p.1 (no_memory_was_too failure one is))

pub quiet_by_output : (line : CommandLine) (old new : Option (List ℕ)) (failure : Failure) (one : Option FileError)
    → KeepsQuiet line old new (Err failure) → KeepsQuiet line old new (Err (by_output failure one))
quiet_by_output line old new failure one quiet = λ write none. quiet (λ is. write (write_fault_is failure one is)) (λ is. none (no_memory_is failure one is))
