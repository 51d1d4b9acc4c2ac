-- A row at each copy of an object.
use Rattle.std.proofs.Common.{◌≡◌, ℕ, zero, suc, ◌-◌, ◌*◌, ◌^◌, ◌<◌, ◌≤◌, ◌==◌, Bool, true, [], ◌∷◌, bit_or}
use Rattle.std.proofs.Common.{inl, inr, refl, sym, ap, ◌∙◌, arith, slice_index_or}
use Rattle.std.specs.List.{list_any}
use Rattle.std.proofs.Math.Bool.{or-false}
use Rattle.std.proofs.lemmas.Bool.{agree_below, agree_below_at, cases_lt, eqb-true}
use Rattle.tia_core.specs.Bits.{has_bit}
use Rattle.tia_core.specs.Coverage.{copies_of, distance_of}
use Rattle.tia_core.specs.declared.object_masks.TheConstants.{COPIES}
use Rattle.tia_core.proofs.RoundTheLine.{distance_of-natural}
use Rattle.tia_core.proofs.MaskWordLemmas.{bit-above, bit-shifted, bit-shifted_low, bit_or-is}

-- how far a pixel lies from a copy, by how far it lies from the object
before-copy : (x position copy : ℕ) → position < 160 → copy ≤ 64 → distance_of x position 0 < copy → 32 ≤ distance_of x position copy
before-copy x position copy p le lt =
    let d = distance_of-natural x position 0 p in
    let e = distance_of-natural x position copy p in
    omega arith

from-copy : (x position copy : ℕ) → position < 160 → copy ≤ 64 → copy ≤ distance_of x position 0
    → distance_of x position 0 - copy ≡ distance_of x position copy
from-copy x position copy p le far =
    let d = distance_of-natural x position 0 p in
    let e = distance_of-natural x position copy p in
    omega arith

copy-bit : (row x position copy moved : ℕ) → row < 2 ^ 32 → position < 160 → copy ≤ 64 → moved ≡ row * 2 ^ copy
    → has_bit moved (distance_of x position 0) ≡ has_bit row (distance_of x position copy)
copy-bit row x position copy moved h p le e = rw e (elim (cases_lt (distance_of x position 0) copy) [
  | inl lt ↦ bit-shifted_low row copy (distance_of x position 0) lt
      ∙ sym (bit-above row 32 (distance_of x position copy) h (before-copy x position copy p le lt))
  | inr far ↦ bit-shifted row copy (distance_of x position 0) far ∙ ap (has_bit row) (from-copy x position copy p le far)
])

two-copies : (row x position copy moved : ℕ) → row < 2 ^ 32 → position < 160 → copy ≤ 64 → moved ≡ row * 2 ^ copy
    → has_bit (bit_or row moved) (distance_of x position 0)
    ≡ list_any (λ c. has_bit row (distance_of x position c)) (0 ∷ copy ∷ [])
two-copies row x position copy moved h p le e =
    rw (bit_or-is row moved (distance_of x position 0), copy-bit row x position copy moved h p le e) (grind arith)

three-copies : (row x position copy third moved after : ℕ) → row < 2 ^ 32 → position < 160 → copy ≤ 64 → third ≤ 64
    → moved ≡ row * 2 ^ copy → after ≡ row * 2 ^ third
    → has_bit (bit_or (bit_or row moved) after) (distance_of x position 0)
    ≡ list_any (λ c. has_bit row (distance_of x position c)) (0 ∷ copy ∷ third ∷ [])
three-copies row x position copy third moved after h p le le3 e f =
    rw (
      bit_or-is (bit_or row moved) after (distance_of x position 0),
      bit_or-is row moved (distance_of x position 0),
      copy-bit row x position copy moved h p le e,
      copy-bit row x position third after h p le3 f,
    ) (grind arith)

-- ---- the table
abbrev copies : ℕ → ℕ
copies mode = slice_index_or COPIES.now mode 0

-- what a factor gives for each row of at most eight pixels is tried at each
product : (factor : ℕ) (joined : ℕ → ℕ) → agree_below (λ n. n * factor == joined n) (λ n. true) 256 ≡ true
    → (row : ℕ) → row < 256 → row * factor ≡ joined row
product factor joined h row lt = eqb-true _ _ (agree_below_at (λ n. n * factor == joined n) (λ n. true) 256 row h lt)

-- what is true of each mode
at-each : (P : ℕ → Type 0) → P 0 → P 1 → P 2 → P 3 → P 4 → P 5 → P 6 → P 7 → (mode : ℕ) → mode < 8 → P mode
at-each P a b c d e f g h zero lt = a
at-each P a b c d e f g h (suc zero) lt = b
at-each P a b c d e f g h (suc (suc zero)) lt = c
at-each P a b c d e f g h (suc (suc (suc zero))) lt = d
at-each P a b c d e f g h (suc (suc (suc (suc zero)))) lt = e
at-each P a b c d e f g h (suc (suc (suc (suc (suc zero))))) lt = f
at-each P a b c d e f g h (suc (suc (suc (suc (suc (suc zero)))))) lt = g
at-each P a b c d e f g h (suc (suc (suc (suc (suc (suc (suc zero))))))) lt = h
at-each P a b c d e f g h (suc (suc (suc (suc (suc (suc (suc (suc n)))))))) lt = absurd (omega arith)

module _ (row x position : ℕ) (p : position < 160) where
  abbrev shows : ℕ → Bool
  shows copy = has_bit row (distance_of x position copy)

  abbrev AtCopies : ℕ → Type 0
  AtCopies mode = has_bit (row * copies mode) (distance_of x position 0) ≡ list_any shows (copies_of mode)

  once : has_bit (row * 1) (distance_of x position 0) ≡ list_any shows (0 ∷ [])
  once = let e : row * 1 ≡ row = omega arith in rw e (sym (or-false (shows 0)))

  pub wide-copies : (mode : ℕ) → mode < 8 → copies_of mode ≡ 0 ∷ [] → AtCopies mode
  wide-copies = at-each (λ mode. copies_of mode ≡ 0 ∷ [] → AtCopies mode) (λ h. once) (λ h. cc) (λ h. cc) (λ h. cc) (λ h. cc) (λ h. once) (λ h. cc) (λ h. once)

  module _ (narrow : row < 256) where
    twice : (copy factor : ℕ) → copy ≤ 64 → agree_below (λ n. n * factor == bit_or n (n * 2 ^ copy)) (λ n. true) 256 ≡ true
        → has_bit (row * factor) (distance_of x position 0) ≡ list_any shows (0 ∷ copy ∷ [])
    twice copy factor most tried =
        rw (product factor (λ n. bit_or n (n * 2 ^ copy)) tried row narrow) (two-copies row x position copy _ (omega arith) p most refl)

    thrice : (copy third factor : ℕ) → copy ≤ 64 → third ≤ 64
        → agree_below (λ n. n * factor == bit_or (bit_or n (n * 2 ^ copy)) (n * 2 ^ third)) (λ n. true) 256 ≡ true
        → has_bit (row * factor) (distance_of x position 0) ≡ list_any shows (0 ∷ copy ∷ third ∷ [])
    thrice copy third factor most most_third tried =
        rw (product factor (λ n. bit_or (bit_or n (n * 2 ^ copy)) (n * 2 ^ third)) tried row narrow)
        (three-copies row x position copy third _ _ (omega arith) p most most_third refl refl)

    pub narrow-copies : (mode : ℕ) → mode < 8 → AtCopies mode
    narrow-copies = at-each AtCopies once
        (twice 16 65537 (omega arith) refl)
        (twice 32 4294967297 (omega arith) refl)
        (thrice 16 32 4295032833 (omega arith) (omega arith) refl)
        (twice 64 18446744073709551617 (omega arith) refl)
        once
        (thrice 32 64 18446744078004518913 (omega arith) (omega arith) refl)
        once
