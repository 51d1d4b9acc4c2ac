-- The places at which a ROM and a cartridge differ, place by place.
use Rattle.std.proofs.Common.{◌≡◌, ◌≢◌, ℕ, ◌+◌, List, [], ◌∷◌, ◌++◌, append-nil, get_or, length, min, take, refl, arith, zero-add, inl, inr}
use Rattle.std.specs.Prelude.{cond}
use Rattle.std.specs.List.{filter, range_with_len}
use Rattle.std.proofs.lemmas.Bool.{eq-eqb, ne_eqb}
use Rattle.std.proofs.lemmas.List.{map-id, take_min}
use Rattle.std.proofs.lemmas.List.FromFn.{filter_of_map_range_with_len_more}
use Rattle.movie_report.specs.CartridgeDifferences.{bytes_text, is_different_at}
use Rattle.movie_report.specs.Private.Elements.{AreElements}
use Rattle.replay_plan.specs.declared.notation.Notation.TheVariants.{Json}

-- One place more.
pub one_place_more : (rom cartridge : List ℕ) (offset : ℕ) → filter (is_different_at rom cartridge) (range_with_len 0 (offset + 1))
    ≡ filter (is_different_at rom cartridge) (range_with_len 0 offset) ++ cond (is_different_at rom cartridge offset) (offset ∷ []) []
one_place_more rom cartridge offset =
    let more = filter_of_map_range_with_len_more (is_different_at rom cartridge) (λ (n : ℕ). n) 0 offset offset (zero-add offset) in
    rw (map-id (range_with_len 0 (offset + 1)), map-id (range_with_len 0 offset)) at more

-- The list of those before it with this one, if the bytes differ here, and else alone.
module _ (rom cartridge items : List ℕ) (offset : ℕ) (before : items ≡ filter (is_different_at rom cartridge) (range_with_len 0 offset)) where
  pub with_place : get_or rom offset 0 ≢ get_or cartridge offset 0 → items ++ offset ∷ [] ≡ filter (is_different_at rom cartridge) (range_with_len 0 (offset + 1))
  with_place differ = rw (one_place_more rom cartridge offset, ne_eqb (get_or rom offset 0) (get_or cartridge offset 0) differ, before) refl

  pub without_place : get_or rom offset 0 ≡ get_or cartridge offset 0 → items ≡ filter (is_different_at rom cartridge) (range_with_len 0 (offset + 1))
  without_place same = rw (one_place_more rom cartridge offset, eq-eqb (get_or rom offset 0) (get_or cartridge offset 0) same, append-nil, before) refl

-- The first four places, or as many as there are.
pub first_four : (offsets : List ℕ) (shown : ℕ) → shown ≡ min (length offsets) 4 → take shown offsets ≡ take 4 offsets
first_four offsets shown is = let same : shown ≡ min 4 (length offsets) = omega (arith, is) in rw same (take_min 4 offsets)

pub ruleset places_shown = (first_four)

-- What is said of places are elements of an array.
pub AreElements-bytes_text : (rom cartridge offsets : List ℕ) → AreElements (bytes_text Json rom cartridge offsets)
AreElements-bytes_text rom cartridge [] = inl refl
AreElements-bytes_text rom cartridge (offset ∷ offsets) = inr (_, refl)
