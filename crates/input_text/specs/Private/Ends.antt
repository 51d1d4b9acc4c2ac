-- Words that are one edit apart at their first letters. This project's own.
use Rattle.std.specs.Prelude.{◌≡◌, ◌⊎◌, ℕ, List, [], ◌∷◌}

abbrev pub BeginAlike : List ℕ → List ℕ → Type 0
BeginAlike a b = (x : ℕ) × (c d : List ℕ) × (a ≡ x ∷ c) × (b ≡ x ∷ d)

abbrev pub HasOneMoreFirst : List ℕ → List ℕ → Type 0
HasOneMoreFirst a b = (x : ℕ) × (b ≡ x ∷ a)

abbrev pub IsChangedFirst : List ℕ → List ℕ → Type 0
IsChangedFirst a b = (last : List ℕ) × (x y : ℕ) × (a ≡ x ∷ last) × (b ≡ y ∷ last)

abbrev pub IsExchangedFirst : List ℕ → List ℕ → Type 0
IsExchangedFirst a b = (last : List ℕ) × (x y : ℕ) × (a ≡ x ∷ y ∷ last) × (b ≡ y ∷ x ∷ last)

-- One of these holds.
abbrev pub IsNearFirst : List ℕ → List ℕ → Type 0
IsNearFirst a b =
    ((a ≡ []) × (b ≡ [])) ⊎ HasOneMoreFirst a b ⊎ HasOneMoreFirst b a ⊎ IsChangedFirst a b ⊎ IsExchangedFirst a b
