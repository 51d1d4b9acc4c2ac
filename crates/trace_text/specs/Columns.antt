-- Columns of a line. This project's own.
use Rattle.std.specs.Prelude.{ℕ, ◌-◌, List, [], ◌∷◌, ◌++◌, length}
use Rattle.std.specs.List.{repeat}

abbrev pub blanks : ℕ → List ℕ
blanks n = repeat n (32 ∷ [])

-- A text with blanks after it, and one with blanks before it, up to a width.
abbrev pub left : ℕ → List ℕ → List ℕ
left width text = text ++ blanks (width - length text)

abbrev pub right : ℕ → List ℕ → List ℕ
right width text = blanks (width - length text) ++ text
