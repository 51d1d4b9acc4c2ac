-- How the inputs of a command line were read that are open already. This project's own.
use Rattle.std.specs.Prelude.{◌≡◌, ℕ, List, Option}
use Rattle.std.specs.Io.KnownBytes.{Keeps}
use Rattle.command_line.specs.declared.command.CommandLine.{CommandLine}
use Rattle.commands.specs.Streams.{ReadsAll}
use Rattle.vcs_check.specs.Commands.{Inputs, ReadsSecond}

-- The first one, which had these bytes before and after.
abbrev pub ReadsFirstly : (old new : Option (List ℕ)) → Inputs
ReadsFirstly old new bytes second_old second_new = ReadsAll old new bytes

-- The same, and a second one, which had these.
abbrev pub ReadsBoth : (old new other_old other_new : Option (List ℕ)) → Inputs
ReadsBoth old new other_old other_new bytes second_old second_new =
    ReadsAll old new bytes × (second_old ≡ other_old) × (second_new ≡ other_new)

-- The same, where a second one that isn't standard input is another.
abbrev pub ReadsWith : CommandLine → (old new other_old other_new : Option (List ℕ)) → Inputs
ReadsWith line old new other_old other_new bytes second_old second_new =
    ReadsAll old new bytes × (ReadsSecond line → (second_old ≡ other_old) × (second_new ≡ other_new))
    × ((ReadsSecond line → ⊥) → Keeps other_old other_new)
