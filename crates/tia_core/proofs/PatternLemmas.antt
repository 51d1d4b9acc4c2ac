-- Patterns: words of 64 bits, twice round the line.
use Rattle.std.proofs.Common.{◌≡◌, ℕ, zero, suc, ◌+◌, ◌-◌, ◌*◌, ◌/◌, ◌%◌, ◌^◌, ◌<◌, Bool, List, [], ◌∷◌}
use Rattle.std.proofs.Common.{slice_index_or, inl, inr, sym, ap, ◌∙◌, arith}
use Rattle.std.proofs.lemmas.Bool.{cases_lt}
use Rattle.tia_core.specs.Bits.{has_bit}
use Rattle.tia_core.specs.Coverage.{distance_of}
use Rattle.tia_core.specs.Mask.{covers}
use Rattle.tia_core.specs.Private.MaskWords.{word_bit, pixels_in, IsRound}
use Rattle.tia_core.proofs.RoundTheLine.{distance_of-natural}
use Rattle.tia_core.proofs.MaskWordLemmas.{bit-above, bit-high, bit-low, bit-shifted, bit-shifted_low, covers-is}

-- ---- a row in words
pub word-of-row : (row n j : ℕ) → j < 64 → has_bit (row / 2 ^ n % 2 ^ 64) j ≡ has_bit row (n + j)
word-of-row row n j h = bit-low (row / 2 ^ n) 64 j h ∙ bit-high row n j

pub last-word-of-row : (row j : ℕ) → row < 2 ^ 128 → j < 64 → has_bit (row % 2 ^ 64 % 2 ^ 32 * 2 ^ 32 % 2 ^ 64) j ≡ has_bit row ((128 + j) % 160)
last-word-of-row row j fits h =
    let low : ℕ = row % 2 ^ 64 % 2 ^ 32 in
    bit-low (low * 2 ^ 32) 64 j h ∙ elim (cases_lt j 32) [
      | inl lt ↦ (let at : 128 + j ≡ (128 + j) % 160 = omega arith in
          bit-shifted_low low 32 j lt ∙ sym (bit-above row 128 (128 + j) fits (omega arith)) ∙ ap (has_bit row) at)
      | inr le ↦ (let at : j - 32 ≡ (128 + j) % 160 = omega arith in
          bit-shifted low 32 j le ∙ bit-low (row % 2 ^ 64) 32 (j - 32) (omega arith)
          ∙ bit-low row 64 (j - 32) (omega arith) ∙ ap (has_bit row) at)
    ]

-- five words that are each right, twice
module _ (a b c d e : ℕ) (f : ℕ → Bool) (p : (j : ℕ) → j < 64 → has_bit a j ≡ f j) (q : (j : ℕ) → j < 64 → has_bit b j ≡ f (32 + j))
    (r : (j : ℕ) → j < 64 → has_bit c j ≡ f (64 + j)) (s : (j : ℕ) → j < 64 → has_bit d j ≡ f (96 + j))
    (t : (j : ℕ) → j < 64 → has_bit e j ≡ f ((128 + j) % 160)) where
  abbrev ten : List ℕ
  ten = a ∷ b ∷ c ∷ d ∷ e ∷ a ∷ b ∷ c ∷ d ∷ e ∷ []

  at-word : (i j : ℕ) → i < 10 → j < 64 → has_bit (slice_index_or ten i 0) j ≡ f ((32 * i + j) % 160)
  at-word zero j lt h = p j h ∙ ap f (omega arith)
  at-word (suc zero) j lt h = q j h ∙ ap f (omega arith)
  at-word (suc (suc zero)) j lt h = r j h ∙ ap f (omega arith)
  at-word (suc (suc (suc zero))) j lt h = s j h ∙ ap f (omega arith)
  at-word (suc (suc (suc (suc zero)))) j lt h = t j h ∙ ap f (omega arith)
  at-word (suc (suc (suc (suc (suc zero))))) j lt h = p j h ∙ ap f (omega arith)
  at-word (suc (suc (suc (suc (suc (suc zero)))))) j lt h = q j h ∙ ap f (omega arith)
  at-word (suc (suc (suc (suc (suc (suc (suc zero))))))) j lt h = r j h ∙ ap f (omega arith)
  at-word (suc (suc (suc (suc (suc (suc (suc (suc zero)))))))) j lt h = s j h ∙ ap f (omega arith)
  at-word (suc (suc (suc (suc (suc (suc (suc (suc (suc zero))))))))) j lt h = t j h ∙ ap f (omega arith)
  at-word (suc (suc (suc (suc (suc (suc (suc (suc (suc (suc n)))))))))) j lt h = absurd (omega arith)

  at-pixel : (x : ℕ) → x < 160 → word_bit ten x ≡ f x
  at-pixel x h = at-word (x / 32) (x % 32) (omega arith) (omega arith) ∙ ap f (omega arith)

  pub ten-round : IsRound ten
  ten-round i j lt h = at-word i j lt h ∙ sym (at-pixel ((32 * i + j) % 160) (omega arith))

  pub ten-words : (x : ℕ) → x < 160 → covers (pixels_in ten) x ≡ f x
  ten-words x h = covers-is ten x h ∙ at-pixel x h

-- ---- 32 pixels of a line, where an object at this position has the pattern
pub pattern-window : (words : List ℕ) (first position k : ℕ) → IsRound words → first < 160 → position < 160 → k < 32
    → has_bit (slice_index_or words ((first + 160 - position) / 32) 0 / 2 ^ ((first + 160 - position) % 32) % 2 ^ 32) k
    ≡ covers (pixels_in words) (distance_of (first + k) position 0)
pattern-window words first position k round f p lt =
    let d : ℕ = first + 160 - position in
    let word : ℕ = slice_index_or words (d / 32) 0 in
    let n = distance_of-natural (first + k) position 0 p in
    let at : (32 * (d / 32) + (d % 32 + k)) % 160 ≡ distance_of (first + k) position 0 = omega arith in
    bit-low (word / 2 ^ (d % 32)) 32 k lt ∙ bit-high word (d % 32) k ∙ round (d / 32) (d % 32 + k) (omega arith) (omega arith)
    ∙ ap (word_bit words) at ∙ sym (covers-is words (distance_of (first + k) position 0) (omega arith))
