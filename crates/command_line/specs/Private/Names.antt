-- Names that the table of commands hasn't. This project's own.
use Rattle.std.specs.Prelude.{◌≢◌, List, [], ◌∷◌}
use Rattle.clap.specs.Words.{Text}
use Rattle.command_line.specs.Table.{Listed}

-- The table has no command of this name.
abbrev pub IsUnlisted : Text → List Listed → Type 0
IsUnlisted name [] = Unit {0}
IsUnlisted name (listed ∷ more) = (name ≢ listed.name) × IsUnlisted name more
