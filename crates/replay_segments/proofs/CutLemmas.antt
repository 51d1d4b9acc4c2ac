-- Cuts as lists of numbers.
use Rattle.std.proofs.Common.{◌≡◌, ℕ, zero, suc, ◌+◌, ◌-◌, ◌*◌, ◌/◌, ◌%◌, ◌<◌, ◌≤◌, List, length}
use Rattle.std.proofs.Common.{Some, slice_get, refl, sym, ◌∙◌, arith, ◌⊎◌, inl, inr}
use Rattle.std.proofs.Math.Nat.{le-div_iff_mul-le, mul-le-mul_right, mul-mod_left, zero-mul}
use Rattle.std.proofs.lemmas.Bool.{cases_lt}
use Rattle.std.proofs.lemmas.Option.{slice_get_within, slice_get_read, get_or_from_slice_get}
use Rattle.std.proofs.lemmas.Nat.{div-add-mod'}
use Rattle.std.specs.List.{Contains}
use Rattle.replay_segments.specs.Cuts.{AreCuts, IsEvery}
use Rattle.replay_segments.proofs.ListLemmas.{slice_get-below}

pub AreCuts-more : (most more : ℕ) (cuts : List ℕ) → most ≤ more → AreCuts most cuts → AreCuts more cuts
AreCuts-more most more cuts le are = grind arith

-- Rising numbers from 1 on are above their indices.
index-below : (most : ℕ) (cuts : List ℕ) → AreCuts most cuts → (i n : ℕ) → slice_get cuts i ≡ Some n → i < n
index-below most cuts are zero n at = (are.range 0 n at).0
index-below most cuts are (suc i) n at =
    let within = slice_get_within cuts (suc i) n at in
    let (p, before) = slice_get-below cuts i (omega arith) in
    let low = index-below most cuts are i p before in
    let rises = are.rising i (suc i) p n (omega arith) before at in omega (arith, low, rises)

pub few : (most : ℕ) (cuts : List ℕ) → AreCuts most cuts → length cuts ≤ most
few most cuts are =
    elim (cases_lt 0 (length cuts)) [
      | inl some ↦
          (let (n, at) = slice_get-below cuts (length cuts - 1) (omega arith) in
          let low = index-below most cuts are (length cuts - 1) n at in
          let high = (are.range (length cuts - 1) n at).1 in omega (arith, low, high))
      | inr none ↦ omega arith
    ]

-- The first i numbers are cuts, and `last` is the last of them, or 0 where there is none.
pub record AreCutsBelow (most : ℕ) (numbers : List ℕ) (i last : ℕ) : Type 0 where
  pub within : last ≤ most
  pub last_is : (last ≡ 0) ⊎ ((0 < i) × (slice_get numbers (i - 1) ≡ Some last))
  pub range : (j n : ℕ) → j < i → slice_get numbers j ≡ Some n → (0 < n) × (n ≤ last)
  pub rising : (j k n p : ℕ) → j < k → k < i → slice_get numbers j ≡ Some n → slice_get numbers k ≡ Some p → n < p

pub AreCutsBelow-whole : (most : ℕ) (numbers : List ℕ) (i last : ℕ) → length numbers ≤ i → AreCutsBelow most numbers i last → AreCuts most numbers
AreCutsBelow-whole most numbers i last past below = record {
  range = λ j n at.
      let within = slice_get_within numbers j n at in
      let h = below.range j n (omega arith) at in
      let top = below.within in (h.0, omega (arith, h.1, top));
  rising = λ j k n p less at there. below.rising j k n p less (let within = slice_get_within numbers k p there in omega arith) at there;
}

-- The multiples of k, one after another, up to a number.
module _ (k most found : ℕ) (numbers : List ℕ) (positive : 0 < k) (all : found ≡ most) (count : length numbers ≡ found / k)
    (each : (j n : ℕ) → slice_get numbers j ≡ Some n → n ≡ (j + 1) * k) where
  above : (j : ℕ) → 0 < (j + 1) * k
  above j = let h = mul-le-mul_right {m = 1} {n = j + 1} k (omega arith) in omega (arith, h)

  within : (j : ℕ) → j < length numbers → (j + 1) * k ≤ most
  within j less = let h = (le-div_iff_mul-le {k = k} {x = j + 1} {y = found} positive).0 (omega (arith, count)) in omega (arith, all, h)

  rises : (i j : ℕ) → i < j → (i + 1) * k < (j + 1) * k
  rises i j less = let h = mul-le-mul_right {m = i + 1 + 1} {n = j + 1} k (omega arith) in omega (arith, h)

  pub AreCuts-every : AreCuts most numbers
  AreCuts-every = grind (arith, above, within, slice_get_within, rises)

  pub IsEvery-each : IsEvery k most numbers
  IsEvery-each n = (is_multiple, place)
    where
      is_multiple : Contains numbers n → (0 < n) × (n ≤ most) × (n % k ≡ 0)
      is_multiple (j, less, is) =
          let at : slice_get numbers j ≡ Some n = slice_get_read numbers (length numbers) j n refl less (sym is) in
          let e = each j n at in
          let low = above j in
          let high = within j less in (omega (arith, e, low), omega (arith, e, high), rw e (mul-mod_left (j + 1) k))

      place : (0 < n) × (n ≤ most) × (n % k ≡ 0) → Contains numbers n
      place (some, le, whole) =
          let division = div-add-mod' n k in
          let q : 0 < n / k = grind (arith, zero-mul k) in
          let j : n / k - 1 + 1 ≡ n / k = omega (arith, q) in
          let less : n / k ≤ found / k = (le-div_iff_mul-le {k = k} {x = n / k} {y = found} positive).1 (omega (arith, division, whole, all)) in
          let low : n / k - 1 < length numbers = omega (arith, q, less, count) in
          let (p, at) = slice_get-below numbers (n / k - 1) low in
          let e : p ≡ n = rw (each (n / k - 1) p at, j) (omega (arith, division, whole)) in
          (n / k - 1, low, get_or_from_slice_get numbers (n / k - 1) p n at ∙ e)
