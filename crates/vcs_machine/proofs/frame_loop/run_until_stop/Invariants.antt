use Rattle.std.proofs.Common.{◌-◌}
use Rattle.vcs_machine.specs.Private.BeamCycles.{beam_cycles}
use Rattle.vcs_machine.proofs.BeamCycleLemmas.{IsUnderway}
use Rattle.vcs_machine.proofs.frame_loop.run_until_stop.Given as goal

abbrev pub invariant-loop-fault : goal.invariant-loop-fault
invariant-loop-fault g l = IsUnderway g.S.Paint.drawn (record { registers = l.fn.cpu; bus = l.fn.console; cycles = 0 }) l.start l.cpu l.console

abbrev pub decreases-loop-fault : goal.decreases-loop-fault
decreases-loop-fault g l = 24320 - (beam_cycles l.console - l.start)
