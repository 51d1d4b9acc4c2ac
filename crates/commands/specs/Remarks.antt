-- What is said of a command's inputs beside its answer. This project's own.
use Rattle.std.specs.Prelude.{◌≡◌, ℕ, nat_lt, if◌then◌else◌, List, Option, Some, None, IfSome, length, option_map}
use Rattle.movie_file.specs.Movie.{MovieData}
use Rattle.movie_hints.specs.Hints.{IsTrueOfText, TellsInputs}
use Rattle.movie_hints.specs.declared.hint.Hint.{Hint}
use Rattle.movie_hints.specs.declared.hint.Hint.TheVariants as hints
use Rattle.movie_hints.specs.declared.text_hint.TextHint.{TextHint}
use Rattle.movie_hints.specs.declared.text_hint.TextHint.TheVariants.{Whole}
use Rattle.commands.specs.declared.line.Line.{Line}
use Rattle.commands.specs.declared.line.Line.TheVariants as lines
use Rattle.commands.specs.declared.remark.Cause.{Cause}
use Rattle.commands.specs.declared.remark.Cause.TheVariants.{Known, NoCartridge, NoInputs, BadLine}
use Rattle.commands.specs.declared.remark.Remark.{Remark}
use Rattle.commands.specs.declared.remark.WhichInput.{WhichInput}
use Rattle.commands.specs.declared.remark.WhichInput.TheVariants.{First, Second}

-- This is known of an input,
abbrev pub known_of : WhichInput → Hint → Remark
known_of input hint = record { input = input; cause = Known hint }

-- or nothing is,
abbrev pub known_if : WhichInput → Option Hint → Option Remark
known_if input hint = option_map (known_of input) hint

-- and of one that is no cartridge this.
abbrev pub no_cartridge : WhichInput → Hint → Remark
no_cartridge input hint = record { input = input; cause = NoCartridge hint }

-- A movie has fewer frames than the first one that is asked for: how many it has.
abbrev pub no_frame : MovieData → ℕ → Option Remark
no_frame m first = if nat_lt (length m.inputs) first then Some (known_of First (hints.HasFrames (length m.inputs))) else None

-- Inputs are these bytes, which are refused by this line.
abbrev pub IsRefusedBy : List ℕ → Line → Cause → Type 0
IsRefusedBy input (lines.Refused error) (NoInputs bytes found) = (bytes.items ≡ input) × (found ≡ error)
IsRefusedBy input (lines.BadLine number) (BadLine bad) = (bad.text.items ≡ input) × (bad.number ≡ number)
IsRefusedBy input line cause = ⊥

-- It is said of the second input.
abbrev pub BlamesInputs : List ℕ → Line → Option Remark → Type 0
BlamesInputs input line None = ⊥
BlamesInputs input line (Some remark) = (remark.input ≡ Second) × IsRefusedBy input line remark.cause

-- What is said: a hint that is true of the bytes.
abbrev pub Tells : Cause → Option TextHint → Type 0
Tells (Known hint) said = said ≡ Some (Whole hint)
Tells (NoCartridge hint) said = said ≡ Some (Whole hint)
Tells (NoInputs bytes error) said = IfSome said (λ text. (hint : Hint) × TellsInputs bytes.items error hint × (text ≡ Whole hint))
Tells (BadLine bad) said = IfSome said (IsTrueOfText bad.text.items)
