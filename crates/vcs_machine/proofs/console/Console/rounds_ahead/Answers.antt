use Rattle.std.proofs.Common.{rules}
use Rattle.vcs_machine.proofs.PollLemmas.{going}
use Rattle.vcs_machine.proofs.console.Console.rounds_ahead.Goals as goal

pub returns-clause-going : goal.returns-clause-going
returns-clause-going g c = search (rules, going)
