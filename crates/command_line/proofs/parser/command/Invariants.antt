use Rattle.std.proofs.Common.{take}
use Rattle.clap.specs.Words.{new_app}
use Rattle.command_line.specs.Table.{IsApp}
use Rattle.command_line.proofs.Added.{rules_of, with_rules}
use Rattle.command_line.proofs.parser.command.Given as goal

abbrev pub invariant-loop-row : goal.invariant-loop-row
invariant-loop-row l = IsApp (with_rules (new_app l.fn.listed.name.now) (rules_of (take l.row-index l.rows))) l.command
