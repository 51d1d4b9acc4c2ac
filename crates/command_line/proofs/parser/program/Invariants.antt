use Rattle.std.proofs.Common.{codes, take, true}
use Rattle.clap.specs.Words.{App, new_app, with_rule}
use Rattle.command_line.specs.Table.{IsApp, explain_row, rule_for, with_listed}
use Rattle.command_line.proofs.Added.{commands_of}
use Rattle.command_line.proofs.parser.program.Given as goal

-- The program before its commands.
abbrev pub bare : App
bare = with_rule (record (new_app (codes "vcs_check")) { top = record (new_app (codes "vcs_check")).top { has_version = true; has_long_version = true } }) (rule_for explain_row)

abbrev pub invariant-loop-listed : goal.invariant-loop-listed
invariant-loop-listed l = IsApp (with_listed bare (commands_of (take l.listed-index l.table))) l.program
