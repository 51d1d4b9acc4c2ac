use Rattle.std.proofs.Common.{◌-◌}
use Rattle.movie_machine.specs.Instructions.{cycles_of}
use Rattle.commands.specs.Private.Tracing.{HasWritten}
use Rattle.commands.proofs.trace.write_instructions.Given as goal

abbrev pub invariant-loop-alloc : goal.invariant-loop-alloc
invariant-loop-alloc g l = HasWritten l.fn.stepping (g.L.Write.contents l.fn.lines) (g.L.Write.contents l.lines) l.stepping

abbrev pub decreases-loop-alloc : goal.decreases-loop-alloc
decreases-loop-alloc g l = 77824 - cycles_of l.stepping
