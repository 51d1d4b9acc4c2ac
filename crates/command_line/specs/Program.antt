-- How a report names the program. This project's own.
use Rattle.std.specs.Prelude.{ℕ, List, codes}

abbrev pub program_name : List ℕ
program_name = codes "vcs_check 2.0.0, revision 1 of the machine's rules"
