-- Commands that are carried out in the same way. This project's own.
use Rattle.command_line.specs.declared.command.Writing.{Writing}
use Rattle.command_line.specs.declared.command.Writing.TheVariants.{GradualPictures, GradualText}

-- Nothing is written before the answer is whole.
abbrev pub IsAtOnce : Writing → Type 0
IsAtOnce GradualText = ⊥
IsAtOnce GradualPictures = ⊥
IsAtOnce other = Unit {0}
