-- Numbers in their ranges, as `clap` has tried them. This project's own.
use Rattle.std.specs.Prelude.{◌≤◌, ℕ, List, [], ◌∷◌, Option, Some, None, IfSome, find}
use Rattle.std.specs.Str.{bytes_eq}
use Rattle.std.specs.Str.Parse.{IsNumeral, without_leading_plus}
use Rattle.clap.specs.Words.{Row, Text, one_of}
use Rattle.command_line.specs.Meanings.{number_in}
use Rattle.command_line.specs.Table.{Argument, Kind, Listed, commands, needed_number, number}

-- A text is there, and writes a number from `least` to `most`.
abbrev pub IsNumberIn : ℕ → ℕ → Option Text → Type 0
IsNumberIn least most None = ⊥
IsNumberIn least most (Some text) =
    IsNumeral 10 (without_leading_plus text) × (least ≤ number_in text) × (number_in text ≤ most)

-- The text suits the kind of argument: a number is in its range.
abbrev pub Suits : Kind → Option Text → Type 0
Suits (number least most default) text = IsNumberIn least most text
Suits (needed_number least most) text = IsNumberIn least most text
Suits other text = Unit {0}

-- The same of each argument of a list.
abbrev pub SuitsEach : List Argument → List Row → Type 0
SuitsEach [] rows = Unit {0}
SuitsEach (argument ∷ more) rows =
    Suits argument.kind (one_of argument.name rows) × SuitsEach more rows

-- Each number of a command is in its range.
abbrev pub HasNumbers : Listed → List Row → Type 0
HasNumbers listed rows = SuitsEach listed.arguments rows

-- The same of the command of this name, if the table has one.
abbrev pub HasNumbersOf : Text → List Row → Type 0
HasNumbersOf name rows =
    IfSome (find (λ (listed : Listed). bytes_eq listed.name name) commands)
    (λ listed. HasNumbers listed rows)

-- The numbers that an argument takes begin with the least of them.
abbrev pub IsOrdered : Kind → Type 0
IsOrdered (number least most default) = least ≤ most
IsOrdered (needed_number least most) = least ≤ most
IsOrdered other = Unit {0}

abbrev pub AreOrdered : List Argument → Type 0
AreOrdered [] = Unit {0}
AreOrdered (argument ∷ more) = IsOrdered argument.kind × AreOrdered more
