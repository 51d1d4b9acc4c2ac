-- The colours of a picture. The palette is this project's own.
use Rattle.std.specs.Prelude.{ℕ, slice_index_or, ◌+◌, ◌*◌, ◌/◌, ◌%◌, List, [], ◌∷◌}

-- The red, green and blue of each hue, 0 to 15, at luminance 0.
abbrev pub hues : List (List ℕ)
hues =
    (0 ∷ 0 ∷ 0 ∷ []) ∷ (64 ∷ 64 ∷ 0 ∷ []) ∷ (87 ∷ 48 ∷ 0 ∷ []) ∷ (87 ∷ 32 ∷ 8 ∷ [])
    ∷ (87 ∷ 0 ∷ 0 ∷ []) ∷ (80 ∷ 0 ∷ 56 ∷ []) ∷ (64 ∷ 0 ∷ 87 ∷ []) ∷ (40 ∷ 0 ∷ 87 ∷ [])
    ∷ (0 ∷ 0 ∷ 87 ∷ []) ∷ (0 ∷ 24 ∷ 87 ∷ []) ∷ (0 ∷ 48 ∷ 80 ∷ []) ∷ (0 ∷ 64 ∷ 56 ∷ [])
    ∷ (0 ∷ 72 ∷ 0 ∷ []) ∷ (24 ∷ 64 ∷ 0 ∷ []) ∷ (48 ∷ 56 ∷ 0 ∷ []) ∷ (72 ∷ 40 ∷ 0 ∷ []) ∷ []

abbrev pub lighter : ℕ → List ℕ → List ℕ
lighter by [] = []
lighter by (x ∷ xs) = (x + by) ∷ lighter by xs

-- The red, green and blue of a colour byte: its hue is in bits 7 to 4, its luminance in bits 3 to
-- 1, and each step of that adds 24.
abbrev pub rgb_of : ℕ → List ℕ
rgb_of colour = lighter (24 * (colour / 2 % 8)) (slice_index_or hues (colour / 16) [])
