use Rattle.std.proofs.Common.{◌-◌, ◌≡◌}
use Rattle.vcs_machine.specs.Consoles.{passed}
use Rattle.vcs_machine.proofs.console.Console.pass_all.Given as goal

abbrev pub invariant-loop-left : goal.invariant-loop-left
invariant-loop-left g l = passed g.S.Paint.drawn l.self l.left ≡ passed g.S.Paint.drawn l.fn.self l.fn.cycles

abbrev pub decreases-loop-left : goal.decreases-loop-left
decreases-loop-left g l = l.left - 76
