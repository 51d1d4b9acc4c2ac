-- The lines of a text of inputs, and the words of a line. This project's own.
use Rattle.std.specs.Prelude.{ℕ, Bool, ◌==◌, ◌||◌, not, List, length, filter}
use Rattle.std.specs.List.{slice_split, before_first}

-- The parts between line feeds. If a line feed ends the text, the part after it is empty, and an
-- empty line says nothing.
abbrev pub lines_of : List ℕ → List (List ℕ)
lines_of text = slice_split (λ byte. byte == 10) text

-- the line without its comment, which begins at `#`
abbrev pub without_comment : List ℕ → List ℕ
without_comment line = before_first (λ byte. byte == 35) line

-- space, tab and carriage return
abbrev pub is_blank : ℕ → Bool
is_blank byte = (byte == 32) || (byte == 9) || (byte == 13)

-- the parts between blanks that aren't empty
abbrev pub words_in : List ℕ → List (List ℕ)
words_in bytes = filter (λ part. not (length part == 0)) (slice_split is_blank bytes)

abbrev pub words_of : List ℕ → List (List ℕ)
words_of line = words_in (without_comment line)
