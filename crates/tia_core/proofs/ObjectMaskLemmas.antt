-- Rows at each copy of an object.
use Rattle.std.proofs.Common.{◌≡◌, ℕ, ◌&&◌, ◌||◌, not, false, bit_or, ◌+◌, ◌-◌, ◌*◌, ◌/◌, ◌%◌, ◌^◌}
use Rattle.std.proofs.Common.{◌<◌, ◌≤◌, inl, inr, ◌==◌, nat_lt, if◌then◌else◌, Bool, true}
use Rattle.std.proofs.Common.{List, [], ◌∷◌, refl, sym, ap, ◌∙◌, arith}
use Rattle.std.specs.List.{list_any}
use Rattle.std.proofs.lemmas.Bool.{cases_eq, cases_lt}
use Rattle.std.proofs.lemmas.Bool.Decides.{nat_tests}
use Rattle.std.proofs.lemmas.Nat.{le_or_l, le_or_r}
use Rattle.tia_core.specs.Bits.{has_bit}
use Rattle.tia_core.specs.Coverage.{ball_covers, copies_of, distance_of, is_shown_at, missile_covers}
use Rattle.tia_core.specs.Coverage.{player_covers, width_of}
use Rattle.tia_core.specs.Objects.{objects_at, size_of, value_by_delay}
use Rattle.tia_core.specs.Playfield.{playfield_bit, playfield_index}
use Rattle.tia_core.specs.Private.ObjectSets.{union_of, visible_objects}
use Rattle.tia_core.specs.declared.fields.TiaFields.{TiaFields}
use Rattle.tia_core.proofs.RoundTheLine.{distance_of-natural}
use Rattle.tia_core.proofs.MaskWordLemmas.{bit-low, bit-high, bit-zero, cat-low, cat-high}

-- the distance from a copy is that from its first pixel
pub distance_of-moved : (x position copy : ℕ) → x < 160 → position < 160 → distance_of x ((position + copy) % 160) 0 ≡ distance_of x position copy
distance_of-moved x position copy h p =
    distance_of-natural x ((position + copy) % 160) 0 (omega arith) ∙ omega arith ∙ sym (distance_of-natural x position copy p)

-- ---- the playfield
at_0 : (pf0 pf1 pf2 i : ℕ) → i < 4 → playfield_bit pf0 pf1 pf2 i ≡ has_bit pf0 (4 + i)
at_0 pf0 pf1 pf2 i h = grind (arith, nat_tests)

at_1 : (pf0 pf1 pf2 i : ℕ) → 4 ≤ i → i < 12 → playfield_bit pf0 pf1 pf2 i ≡ has_bit pf1 (11 - i)
at_1 pf0 pf1 pf2 i h l = grind (arith, nat_tests)

at_2 : (pf0 pf1 pf2 i : ℕ) → 12 ≤ i → playfield_bit pf0 pf1 pf2 i ≡ has_bit pf2 (i - 12)
at_2 pf0 pf1 pf2 i h = grind (arith, nat_tests)

pub left-bit : (pf0 pf1 pf2 back i : ℕ) → pf0 < 256 → back < 256 → ((k : ℕ) → k < 8 → has_bit back k ≡ has_bit pf1 (7 - k)) → i < 20
    → has_bit ((pf2 * 2 ^ 8 + back) * 2 ^ 4 + pf0 / 2 ^ 4) i ≡ playfield_bit pf0 pf1 pf2 i
left-bit pf0 pf1 pf2 back i h b r l = elim (cases_lt i 4) [
  | inl lt ↦ cat-low (pf2 * 2 ^ 8 + back) 4 (pf0 / 2 ^ 4) i lt ∙ bit-high pf0 4 i ∙ sym (at_0 pf0 pf1 pf2 i lt)
  | inr le ↦ cat-high (pf2 * 2 ^ 8 + back) 4 (pf0 / 2 ^ 4) i (omega arith) le ∙ elim (cases_lt i 12) [
    | inl lt ↦ cat-low pf2 8 back (i - 4) (omega arith) ∙ r (i - 4) (omega arith) ∙ ap (has_bit pf1) (omega arith) ∙ sym (at_1 pf0 pf1 pf2 i le lt)
    | inr le2 ↦ cat-high pf2 8 back (i - 4) b (omega arith) ∙ ap (has_bit pf2) (omega arith) ∙ sym (at_2 pf0 pf1 pf2 i le2)
  ]
]

pub mirrored-bit : (pf0 pf1 pf2 back half i : ℕ) → pf1 < 256 → back < 256
    → ((k : ℕ) → k < 8 → has_bit back k ≡ has_bit pf2 (7 - k))
    → ((k : ℕ) → k < 4 → has_bit half k ≡ has_bit (pf0 / 2 ^ 4) (3 - k)) → i < 20
    → has_bit ((half * 2 ^ 8 + pf1) * 2 ^ 8 + back) i ≡ playfield_bit pf0 pf1 pf2 (19 - i)
mirrored-bit pf0 pf1 pf2 back half i h b r q l = elim (cases_lt i 8) [
  | inl lt ↦ cat-low (half * 2 ^ 8 + pf1) 8 back i lt ∙ r i lt ∙ ap (has_bit pf2) (omega arith) ∙ sym (at_2 pf0 pf1 pf2 (19 - i) (omega arith))
  | inr le ↦ cat-high (half * 2 ^ 8 + pf1) 8 back i b le ∙ elim (cases_lt i 16) [
    | inl lt ↦ cat-low half 8 pf1 (i - 8) (omega arith) ∙ ap (has_bit pf1) (omega arith) ∙ sym (at_1 pf0 pf1 pf2 (19 - i) (omega arith) (omega arith))
    | inr le2 ↦ cat-high half 8 pf1 (i - 8) h (omega arith) ∙ q (i - 8 - 8) (omega arith)
        ∙ bit-high pf0 4 (3 - (i - 8 - 8)) ∙ ap (has_bit pf0) (omega arith)
        ∙ sym (at_0 pf0 pf1 pf2 (19 - i) (omega arith))
  ]
]

-- the pixels of five words of quadruples, which are the bytes of the row of forty bits
module _ (pf0 pf1 pf2 : ℕ) (mirrored : Bool) (left right : ℕ)
    (is_left : (i : ℕ) → i < 20 → has_bit left i ≡ playfield_bit pf0 pf1 pf2 i)
    (is_right : (i : ℕ) → i < 20 → has_bit right i ≡ playfield_bit pf0 pf1 pf2 (if mirrored then 19 - i else i)) where
  abbrev row : ℕ
  row = right * 2 ^ 20 + left % 2 ^ 20

  abbrev shows : ℕ → Bool
  shows x = playfield_bit pf0 pf1 pf2 (playfield_index mirrored x)

  row-bit : (i x : ℕ) → x < 160 → x / 4 ≡ i → has_bit row i ≡ shows x
  row-bit i x h e = elim (cases_lt x 80) [
    | inl lt ↦ (let yes : nat_lt x 80 ≡ true = grind (arith, nat_tests) in
        rw (yes, e) (cat-low right 20 (left % 2 ^ 20) i (omega arith) ∙ bit-low left 20 i (omega arith) ∙ is_left i (omega arith)))
    | inr le ↦ (let no : nat_lt x 80 ≡ false = grind (arith, nat_tests) in
        let f : (x - 80) / 4 ≡ i - 20 = omega arith in
        rw (no, f) (cat-high right 20 (left % 2 ^ 20) i (omega arith) (omega arith) ∙ is_right (i - 20) (omega arith)))
  ]

  pub byte-shows : (byte w k : ℕ) → byte ≡ row / 2 ^ (8 * w) % 2 ^ 8 → w < 5 → k < 32 → has_bit byte (k / 4) ≡ shows (32 * w + k)
  byte-shows byte w k e v h =
      ap (λ (n : ℕ). has_bit n (k / 4)) e
      ∙ bit-low (row / 2 ^ (8 * w)) 8 (k / 4) (omega arith)
      ∙ bit-high row (8 * w) (k / 4)
      ∙ row-bit (8 * w + k / 4) (32 * w + k) (omega arith) (omega arith)

-- ---- objects that can't be seen
list_any-none : (p : ℕ → Bool) (xs : List ℕ) → ((x : ℕ) → p x ≡ false) → list_any p xs ≡ false
list_any-none p [] h = refl
list_any-none p (x ∷ xs) h = rw (h x) (list_any-none p xs h)

is_shown_at-empty : (width : ℕ) (reflected : Bool) (d : ℕ) → is_shown_at width reflected 0 d ≡ false
is_shown_at-empty width reflected d = grind (arith, bit-zero)

player-unseen : (mode : ℕ) (reflected : Bool) (graphic position x : ℕ)
    → (not (graphic == 0) || player_covers mode reflected graphic position x) ≡ not (graphic == 0)
player-unseen mode reflected graphic position x = elim (cases_eq graphic 0) [
  | inl e ↦ rw e (list_any-none _ (copies_of mode) (λ copy. is_shown_at-empty (width_of mode) reflected (distance_of x position copy)))
  | inr ne ↦ (let f : (graphic == 0) ≡ false = grind (arith, nat_tests) in rw f refl)
]

shown-or : (a b : Bool) → (a || (a && b)) ≡ a
shown-or a b = grind arith

missile-unseen : (a b c : Bool) → (a || (a && b && c)) ≡ a
missile-unseen a b c = grind arith

playfield-unseen : (pf0 pf1 pf2 i : ℕ) → (not (bit_or (bit_or pf0 pf1) pf2 == 0) || playfield_bit pf0 pf1 pf2 i) ≡ not (bit_or (bit_or pf0 pf1) pf2 == 0)
playfield-unseen pf0 pf1 pf2 i =
    grind (arith, nat_tests, bit-zero, le_or_l pf0 pf1, le_or_r pf0 pf1, le_or_l (bit_or pf0 pf1) pf2, le_or_r (bit_or pf0 pf1) pf2)

-- the objects that may be visible are all that cover a pixel, and others
pub visible-joined : (t : TiaFields) (x : ℕ) → union_of (visible_objects t) (objects_at t x) ≡ visible_objects t
unfolding objects_at
visible-joined t x = rw (
  player-unseen (t.nusiz0 % 8) (has_bit t.refp0 3) (value_by_delay t.vdelp0 t.grp0_old t.grp0_new) t.position_p0 x,
  player-unseen (t.nusiz1 % 8) (has_bit t.refp1 3) (value_by_delay t.vdelp1 t.grp1_old t.grp1_new) t.position_p1 x,
  missile-unseen (has_bit t.enam0 1) (not (has_bit t.resmp0 1)) (missile_covers (t.nusiz0 % 8) (size_of t.nusiz0) t.position_m0 x),
  missile-unseen (has_bit t.enam1 1) (not (has_bit t.resmp1 1)) (missile_covers (t.nusiz1 % 8) (size_of t.nusiz1) t.position_m1 x),
  shown-or (has_bit (value_by_delay t.vdelbl t.enabl_old t.enabl_new) 1) (ball_covers (size_of t.ctrlpf) t.position_bl x),
  playfield-unseen t.pf0 t.pf1 t.pf2 (playfield_index (has_bit t.ctrlpf 0) x),
) refl
