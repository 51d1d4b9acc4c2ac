-- The pairs that meet in some pixel of a stretch are among those of its words.
use Rattle.std.proofs.Common.{◌≡◌, ◌∙◌, ℕ, ◌+◌, ◌*◌, ◌==◌, ◌&&◌, ◌||◌, not, Bool, true, false, arith, refl, ap, sym, if◌then◌else◌, bit_and, bit_or, List, [], ◌∷◌, map}
use Rattle.std.proofs.lemmas.Bool.{and_left, and_right, cond_both, eqb-true}
use Rattle.std.proofs.lemmas.Nat.{or_block}
use Rattle.std.proofs.lemmas.Nat.Bits.{bit_at_or, same_from_bits}
use Rattle.std.specs.Int.{bit_at}
use Rattle.std.specs.Int.Bits.{or_zero_r}
use Rattle.tia_core.proofs.MaskWordLemmas.{bit-zero, bit_and-is, bit_or-is}
use Rattle.tia_chip.specs.Bits.{has_bit}
use Rattle.tia_chip.specs.Collision.{meets, number_from, pair_table, pairs_of}
use Rattle.tia_chip.specs.Private.Lines.{lit_at, meets_in, pairs_in, union_of}
use Rattle.tia_chip.specs.declared.lit_pixels.LitPixels.{LitPixels}
use Rattle.tia_chip.specs.declared.objects.Objects.{Objects}

-- ---- numbers by their bits
-- each bit of the one is a bit of the other
AreWithin : List Bool → List Bool → Type 0
AreWithin [] [] = Unit {0}
AreWithin (b ∷ bs) (c ∷ cs) = ((b || c) ≡ b) × AreWithin bs cs
AreWithin [] (c ∷ cs) = ⊥
AreWithin (b ∷ bs) [] = ⊥

or_digit : (m n : ℕ) (a b : Bool) → bit_or (2 * m + (if a then 1 else 0)) (2 * n + (if b then 1 else 0)) ≡ 2 * bit_or m n + (if a || b then 1 else 0)
or_digit m n a b = grind (arith, or_block 1 m n (if a then 1 else 0) (if b then 1 else 0))

number-within : (m n : ℕ) (bs cs : List Bool) → bit_or m n ≡ m → AreWithin bs cs → bit_or (number_from m bs) (number_from n cs) ≡ number_from m bs
unfolding AreWithin
number-within m n [] [] e h = e
number-within m n (b ∷ bs) (c ∷ cs) e h =
    number-within (2 * m + (if b then 1 else 0)) (2 * n + (if c then 1 else 0)) bs cs
    (or_digit m n b c ∙ (ap (λ (k : ℕ). 2 * k + (if b || c then 1 else 0)) e ∙ ap (λ (d : Bool). 2 * m + (if d then 1 else 0)) h.0)) h.1
number-within m n [] (c ∷ cs) e h = absurd h
number-within m n (b ∷ bs) [] e h = absurd h

or-within : (c all n : ℕ) → bit_or all n ≡ all → bit_or c all ≡ c → bit_or c n ≡ c
or-within c all n h e = same_from_bits _ _ (λ i.
    let f : bit_at (bit_or all n) i ≡ bit_at all i = ap (λ (m : ℕ). bit_at m i) h in
    let g : bit_at (bit_or c all) i ≡ bit_at c i = ap (λ (m : ℕ). bit_at m i) e in
    omega (arith, bit_at_or all n i, bit_at_or c all i, bit_at_or c n i))

-- ---- two objects
none-met : (a b k : ℕ) → (bit_and a b == 0) ≡ true → (has_bit a k && has_bit b k) ≡ false
none-met a b k e = sym (bit_and-is a b k) ∙ (ap (λ (n : ℕ). has_bit n k) (eqb-true (bit_and a b) 0 e) ∙ bit-zero k)

met-or : (t both : Bool) → (t ≡ true → both ≡ false) → (not t || both) ≡ not t
met-or true both h = h refl
met-or false both h = refl

pub meet-two : (a b k : ℕ) → (not (bit_and a b == 0) || (has_bit a k && has_bit b k)) ≡ not (bit_and a b == 0)
meet-two a b k = met-or (bit_and a b == 0) (has_bit a k && has_bit b k) (none-met a b k)

-- one of them the playfield
lit-or-not : (a u p f : Bool) → (a ≡ true → u ≡ true) → f ≡ (u && p) → (a && p) ≡ (a && f)
lit-or-not true u p f h e = sym (e ∙ ap (λ (b : Bool). b && p) (h refl))
lit-or-not false u p f h e = refl

meet-field : (a field k : ℕ) (u p : Bool) → (has_bit a k ≡ true → u ≡ true) → has_bit field k ≡ (u && p)
    → (not (bit_and a field == 0) || (has_bit a k && p)) ≡ not (bit_and a field == 0)
meet-field a field k u p h e =
    ap (λ (b : Bool). not (bit_and a field == 0) || b) (lit-or-not (has_bit a k) u p (has_bit field k) h e) ∙ meet-two a field k

union-is : (l : LitPixels) (k : ℕ)
    → has_bit (union_of l) k ≡ ((((has_bit l.player0 k || has_bit l.player1 k) || has_bit l.missile0 k) || has_bit l.missile1 k) || has_bit l.ball k)
union-is l k =
    let a = bit_or l.player0 l.player1 in
    let b = bit_or a l.missile0 in
    let c = bit_or b l.missile1 in
    bit_or-is c l.ball k
    ∙ ap (λ (x : Bool). x || has_bit l.ball k) (bit_or-is b l.missile1 k
    ∙ ap (λ (x : Bool). x || has_bit l.missile1 k) (bit_or-is a l.missile0 k
    ∙ ap (λ (x : Bool). x || has_bit l.missile0 k) (bit_or-is l.player0 l.player1 k)))

record InUnion (a b c d e u : Bool) : Type 0 where
  pub first : a ≡ true → u ≡ true
  pub second : b ≡ true → u ≡ true
  pub third : c ≡ true → u ≡ true
  pub fourth : d ≡ true → u ≡ true
  pub fifth : e ≡ true → u ≡ true

in-union : (a b c d e u : Bool) → u ≡ ((((a || b) || c) || d) || e) → InUnion a b c d e u
in-union a b c d e u h = record {
  first = λ i. grind arith;
  second = λ i. grind arith;
  third = λ i. grind arith;
  fourth = λ i. grind arith;
  fifth = λ i. grind arith;
}

pub pairs-within : (l : LitPixels) (field k : ℕ) (playfield : Bool) → has_bit field k ≡ (has_bit (union_of l) k && playfield)
    → bit_or (pairs_in l field) (pairs_of (lit_at l k playfield)) ≡ pairs_in l field
unfolding pairs_of AreWithin
pairs-within l field k playfield e =
    let u = has_bit (union_of l) k in
    let i = in-union (has_bit l.player0 k) (has_bit l.player1 k) (has_bit l.missile0 k) (has_bit l.missile1 k) (has_bit l.ball k) u (union-is l k) in
    let two = λ (a b : ℕ). meet-two a b k in
    let with_field = λ (a : ℕ) (h : has_bit a k ≡ true → u ≡ true). meet-field a field k u playfield h e in
    let bits : AreWithin (map (meets_in l field) pair_table) (map (meets (lit_at l k playfield)) pair_table) = (
      two l.missile0 l.player1,
      (
        two l.missile0 l.player0,
        (
          two l.missile1 l.player0,
          (
            two l.missile1 l.player1,
            (
              with_field l.player0 i.first,
              (
                two l.player0 l.ball,
                (
                  with_field l.player1 i.second,
                  (
                    two l.player1 l.ball,
                    (
                      with_field l.missile0 i.third,
                      (
                        two l.missile0 l.ball,
                        (
                          with_field l.missile1 i.fourth,
                          (
                            two l.missile1 l.ball,
                            (with_field l.ball i.fifth, (two l.player0 l.player1, (two l.missile0 l.missile1, tt))),
                          ),
                        ),
                      ),
                    ),
                  ),
                ),
              ),
            ),
          ),
        ),
      ),
    ) in
    number-within 0 0 (map (meets_in l field) pair_table) (map (meets (lit_at l k playfield)) pair_table) refl bits

pub within-latched : (c : ℕ) (l : LitPixels) (field k : ℕ) (playfield : Bool) → has_bit field k ≡ (has_bit (union_of l) k && playfield)
    → bit_or c (pairs_in l field) ≡ c → bit_or c (pairs_of (lit_at l k playfield)) ≡ c
within-latched c l field k playfield e h = or-within c (pairs_in l field) (pairs_of (lit_at l k playfield)) (pairs-within l field k playfield e) h

-- ---- where none of the five lights a pixel
off : (b u : Bool) → (b ≡ true → u ≡ true) → u ≡ false → b ≡ false
off true u h e = sym (h refl) ∙ e
off false u h e = refl

abbrev six : Bool → Bool → Bool → Bool → Bool → Bool → Objects
six a b c d e f = record { player0 = a; player1 = b; missile0 = c; missile1 = d; ball = e; playfield = f }

six-off : (a b c d e f : Bool) → a ≡ false → b ≡ false → c ≡ false → d ≡ false → e ≡ false → pairs_of (six a b c d e f) ≡ 0
unfolding pairs_of
six-off a b c d e f h i j k l = rw (h, i, j, k, l) refl

pub dark-latched : (c : ℕ) (vblank : Bool) (l : LitPixels) (k : ℕ) (playfield : Bool) → union_of l ≡ 0
    → (if vblank then c else bit_or c (pairs_of (lit_at l k playfield))) ≡ c
dark-latched c vblank l k playfield e =
    let u = has_bit (union_of l) k in
    let none : u ≡ false = ap (λ (n : ℕ). has_bit n k) e ∙ bit-zero k in
    let i = in-union (has_bit l.player0 k) (has_bit l.player1 k) (has_bit l.missile0 k) (has_bit l.missile1 k) (has_bit l.ball k) u (union-is l k) in
    let dark : pairs_of (lit_at l k playfield) ≡ 0 =
    six-off (has_bit l.player0 k) (has_bit l.player1 k) (has_bit l.missile0 k) (has_bit l.missile1 k) (has_bit l.ball k) playfield
    (off (has_bit l.player0 k) u i.first none) (off (has_bit l.player1 k) u i.second none) (off (has_bit l.missile0 k) u i.third none)
    (off (has_bit l.missile1 k) u i.fourth none) (off (has_bit l.ball k) u i.fifth none)
    in
    cond_both vblank _ _ (λ (n : ℕ). n ≡ c) (λ f. refl) (λ f. ap (bit_or c) dark ∙ or_zero_r c)

-- ---- the objects of one set among those of another
pub record IsAmong (o all : Objects) : Type 0 where
  pub player0 : o.player0 ≡ true → all.player0 ≡ true
  pub player1 : o.player1 ≡ true → all.player1 ≡ true
  pub missile0 : o.missile0 ≡ true → all.missile0 ≡ true
  pub missile1 : o.missile1 ≡ true → all.missile1 ≡ true
  pub ball : o.ball ≡ true → all.ball ≡ true
  pub playfield : o.playfield ≡ true → all.playfield ≡ true

two-among : (a b c d : Bool) → (c ≡ true → a ≡ true) → (d ≡ true → b ≡ true) → ((a && b) || (c && d)) ≡ (a && b)
two-among true true c d h i = refl
two-among true false c d h i = and_right c d (off d false i refl)
two-among false b c d h i = and_left c d (off c false h refl)

pairs-among : (o all : Objects) → IsAmong o all → bit_or (pairs_of all) (pairs_of o) ≡ pairs_of all
unfolding pairs_of AreWithin
pairs-among o all i =
    let bits : AreWithin (map (meets all) pair_table) (map (meets o) pair_table) = (
      two-among all.missile0 all.player1 o.missile0 o.player1 i.missile0 i.player1,
      (
        two-among all.missile0 all.player0 o.missile0 o.player0 i.missile0 i.player0,
        (
          two-among all.missile1 all.player0 o.missile1 o.player0 i.missile1 i.player0,
          (
            two-among all.missile1 all.player1 o.missile1 o.player1 i.missile1 i.player1,
            (
              two-among all.player0 all.playfield o.player0 o.playfield i.player0 i.playfield,
              (
                two-among all.player0 all.ball o.player0 o.ball i.player0 i.ball,
                (
                  two-among all.player1 all.playfield o.player1 o.playfield i.player1 i.playfield,
                  (
                    two-among all.player1 all.ball o.player1 o.ball i.player1 i.ball,
                    (
                      two-among all.missile0 all.playfield o.missile0 o.playfield i.missile0 i.playfield,
                      (
                        two-among all.missile0 all.ball o.missile0 o.ball i.missile0 i.ball,
                        (
                          two-among all.missile1 all.playfield o.missile1 o.playfield i.missile1 i.playfield,
                          (
                            two-among all.missile1 all.ball o.missile1 o.ball i.missile1 i.ball,
                            (
                              two-among all.ball all.playfield o.ball o.playfield i.ball i.playfield,
                              (
                                two-among all.player0 all.player1 o.player0 o.player1 i.player0 i.player1,
                                (two-among all.missile0 all.missile1 o.missile0 o.missile1 i.missile0 i.missile1, tt),
                              ),
                            ),
                          ),
                        ),
                      ),
                    ),
                  ),
                ),
              ),
            ),
          ),
        ),
      ),
    ) in
    number-within 0 0 (map (meets all) pair_table) (map (meets o) pair_table) refl bits

pub among-latched : (c : ℕ) (vblank : Bool) (o all : Objects) → IsAmong o all → (if vblank then c else bit_or c (pairs_of all)) ≡ c
    → (if vblank then c else bit_or c (pairs_of o)) ≡ c
among-latched c true o all i h = refl
among-latched c false o all i h = or-within c (pairs_of all) (pairs_of o) (pairs-among o all i) h
