use Rattle.std.proofs.Common.{◌≡◌, refl}
use Rattle.commands.specs.declared.run_error.RunError.TheVariants.{NoMemory, WriteFault}
use Rattle.vcs_check.proofs.command_files.run.Goals as goal

pub returns-in-Ok-clause-ok : goal.returns-in-Ok-clause-ok
returns-in-Ok-clause-ok g c = let h = c.in-Ok.ensures.ok in (c.in-Ok.end, c.of.ensures, h.0, h.1, h.2, h.3, h.4, h.5, h.6)

pub returns-in-Err-clause-write_fault : goal.returns-in-Err-clause-write_fault
returns-in-Err-clause-write_fault g c = λ is. let error : c.in-Err.error ≡ WriteFault = cc in c.in-Err.ensures.write_fault (rw error refl)

pub returns-in-Err-clause-memory : goal.returns-in-Err-clause-memory
returns-in-Err-clause-memory g c = λ is. let error : c.in-Err.error ≡ NoMemory = cc in c.in-Err.ensures.memory (rw error refl)
