-- The exit statuses. This project's own.
use Rattle.std.specs.Prelude.{ℕ}
use Rattle.commands.specs.declared.status.Status.{Status}
use Rattle.commands.specs.declared.status.Status.TheVariants.{Done, False, Fault, Refused, Unexpected}

abbrev pub status_code : Status → ℕ
status_code Done = 0
status_code False = 1
status_code Fault = 2
status_code Refused = 3
status_code Unexpected = 6
