-- Elements of an array, as a text. This project's own.
use Rattle.std.specs.Prelude.{◌≡◌, ℕ, ◌⊎◌, List, [], ◌∷◌}

-- There is none, or a comma stands before the first.
abbrev pub AreElements : List ℕ → Type 0
AreElements text = (text ≡ []) ⊎ ((rest : List ℕ) × (text ≡ 44 ∷ rest))
