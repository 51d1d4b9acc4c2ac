-- Pairs of objects over a stretch of a line, and what bounds them.
use Rattle.std.proofs.Common.{◌≡◌, ℕ, zero, suc, ◌+◌, ◌*◌, ◌^◌, ◌==◌, ◌<◌, ◌≤◌, ◌&&◌, ◌||◌, not}
use Rattle.std.proofs.Common.{Bool, true, false, if◌then◌else◌, List, [], ◌∷◌, length, bit_or}
use Rattle.std.proofs.Common.{slice_index_or, nat_lt, refl, sym, ap, ◌∙◌, arith}
use Rattle.std.specs.Int.Bits.{or_zero_r}
use Rattle.std.specs.Simd.Lanes.{zip2}
use Rattle.std.proofs.lemmas.Bool.{agree_below, agree_below_at, and_parts, eqb-true, ltb-true}
use Rattle.std.proofs.lemmas.Bool.Decides.{nat_tests}
use Rattle.std.proofs.lemmas.Nat.{or_block}
use Rattle.std.proofs.lemmas.Nat.Bits.{bit_at_or, same_from_bits}
use Rattle.tia_core.specs.Collision.{collision_byte, met_byte, number_from, pairs_list, pairs_of}
use Rattle.tia_core.specs.Objects.{objects_at}
use Rattle.tia_core.specs.Private.ObjectSets.{has_two, set_number, union_of, visible_objects}
use Rattle.tia_core.specs.Private.StretchPairs.{stretch_pairs}
use Rattle.tia_core.specs.declared.fields.TiaFields.{TiaFields}
use Rattle.tia_core.specs.declared.objects.Objects.{Objects}
use Rattle.tia_core.specs.declared.objects.TheConstants.{PAIRS}
use Rattle.tia_core.proofs.ObjectMaskLemmas.{visible-joined}

-- ---- what a test says of each set of objects is tried at each of the 64
both : (Bool → Bool) → Bool
both test = test false && test true

both-at : (test : Bool → Bool) → both test ≡ true → (b : Bool) → test b ≡ true
unfolding both
both-at test h true = (and_parts _ _ h).1
both-at test h false = (and_parts _ _ h).0

abbrev six : Bool → Bool → Bool → Bool → Bool → Bool → Objects
six a b c d e f = record { player0 = a; player1 = b; missile0 = c; missile1 = d; ball = e; playfield = f }

abbrev of_all_sets : (Objects → Bool) → Bool
of_all_sets test = both (λ a. both (λ b. both (λ c. both (λ d. both (λ e. both (λ f. test (six a b c d e f)))))))

at_set : (test : Objects → Bool) → of_all_sets test ≡ true → (o : Objects) → test o ≡ true
at_set test h o = both-at _ (both-at _ (both-at _ (both-at _ (both-at _ (both-at _ h o.player0) o.player1) o.missile0) o.missile1) o.ball) o.playfield

-- the table has the pairs of each set
pub table-pairs : (o : Objects) → slice_index_or PAIRS.now (set_number o) 0 ≡ pairs_of o
unfolding both pairs_of
table-pairs o = eqb-true _ _ (at_set (λ s. slice_index_or PAIRS.now (set_number s) 0 == pairs_of s) refl o)

-- fifteen bits, of which each is a pair's
pub pairs_of-lt : (o : Objects) → pairs_of o < 2 ^ 15
unfolding both pairs_of
pairs_of-lt o = ltb-true _ _ (at_set (λ s. nat_lt (pairs_of s) 32768) refl o)

-- a collision register gives those of its pairs that meet
pub collision_byte-met : (o : Objects) (register : ℕ) → register < 8 → collision_byte (pairs_of o) register ≡ met_byte o register
unfolding both pairs_of
collision_byte-met o register h =
    let same : Objects → ℕ → Bool = λ s i. collision_byte (pairs_of s) i == met_byte s i in
    let agree : Objects → Bool = λ s. agree_below (same s) (λ i. true) 8 in
    eqb-true _ _ (agree_below_at (same o) (λ i. true) 8 register (at_set agree refl o) h)

-- where no two objects are there, no pair is
pub no-two : (o : Objects) → has_two o.player0 o.player1 o.missile0 o.missile1 o.ball o.playfield ≡ false → pairs_of o ≡ 0
unfolding both pairs_of
no-two o h =
    let t = at_set (λ s. has_two s.player0 s.player1 s.missile0 s.missile1 s.ball s.playfield || (pairs_of s == 0)) refl o in
    eqb-true (pairs_of o) 0 (rw h at t)

-- pairs of a set are among those of a greater set
pub pairs-within : (l o : Objects) → union_of l o ≡ l → bit_or (pairs_of l) (pairs_of o) ≡ pairs_of l
unfolding both pairs_of
pairs-within l o h =
    let are_within : Objects → Objects → Bool = λ s p. not (set_number (union_of s p) == set_number s) || (bit_or (pairs_of s) (pairs_of p) == pairs_of s) in
    let t = at_set (are_within l) (at_set (λ s. of_all_sets (are_within s)) refl l) o in
    let same : set_number (union_of l o) ≡ set_number l = ap set_number h in
    grind (arith, nat_tests)

-- ---- collisions
pub or_assoc : (a b c : ℕ) → bit_or (bit_or a b) c ≡ bit_or a (bit_or b c)
or_assoc a b c = same_from_bits _ _ (λ i. rw (bit_at_or (bit_or a b) c i, bit_at_or a b i, bit_at_or a (bit_or b c) i, bit_at_or b c i) (omega arith))

or_digit : (m n : ℕ) (a b : Bool) → bit_or (2 * m + (if a then 1 else 0)) (2 * n + (if b then 1 else 0)) ≡ 2 * bit_or m n + (if a || b then 1 else 0)
or_digit m n a b = grind (arith, or_block 1 m n (if a then 1 else 0) (if b then 1 else 0))

number_or : (m n : ℕ) (ps qs : List Bool) → length ps ≡ length qs → bit_or (number_from m ps) (number_from n qs) ≡ number_from (bit_or m n) (zip2 ◌||◌ ps qs)
number_or m n [] [] h = refl
number_or m n [] (b ∷ qs) h = absurd (omega arith)
number_or m n (a ∷ ps) [] h = absurd (omega arith)
number_or m n (a ∷ ps) (b ∷ qs) h =
    number_or (2 * m + (if a then 1 else 0)) (2 * n + (if b then 1 else 0)) ps qs (omega arith)
    ∙ ap (λ (z : ℕ). number_from z (zip2 ◌||◌ ps qs)) (or_digit m n a b)

-- the collision bits c with those of the pairs of a stretch
abbrev pub latched : TiaFields → ℕ → ℕ → ℕ → ℕ
latched t c x k = bit_or c (number_from 0 (stretch_pairs t x k))

-- they are those of its first pixel, and then of the rest
pub latched-first : (t : TiaFields) (c x k : ℕ) → latched t c x (suc k) ≡ latched t (bit_or c (pairs_of (objects_at t x))) (x + 1) k
unfolding pairs_of
latched-first t c x k =
    ap (bit_or c) (sym (number_or 0 0 (pairs_list (objects_at t x)) (stretch_pairs t (x + 1) k) refl))
    ∙ sym (or_assoc c (pairs_of (objects_at t x)) (number_from 0 (stretch_pairs t (x + 1) k)))

-- ---- what latches nothing
or-within : (c all n : ℕ) → bit_or all n ≡ all → bit_or c all ≡ c → bit_or c n ≡ c
or-within c all n h e = ap (λ (a : ℕ). bit_or a n) (sym e) ∙ or_assoc c all n ∙ ap (bit_or c) h ∙ e

-- a stretch of whose pixels each latches nothing latches nothing
pub stretch-idle : (t : TiaFields) (c x k : ℕ) → ((y : ℕ) → x ≤ y → y < x + k → bit_or c (pairs_of (objects_at t y)) ≡ c) → c ≡ latched t c x k
stretch-idle t c x zero h = sym (or_zero_r c)
stretch-idle t c x (suc k) h =
    stretch-idle t c (x + 1) k (λ y le lt. h y (omega arith) (omega arith))
    ∙ ap (λ (n : ℕ). latched t n (x + 1) k) (sym (h x (omega arith) (omega arith)))
    ∙ sym (latched-first t c x k)

-- where all pairs of the objects that may be visible are latched, a pixel latches nothing
pub visible-latched : (t : TiaFields) (c x : ℕ) → bit_or c (pairs_of (visible_objects t)) ≡ c → bit_or c (pairs_of (objects_at t x)) ≡ c
visible-latched t c x e =
    or-within c (pairs_of (visible_objects t)) _ (pairs-within (visible_objects t) (objects_at t x) (visible-joined t x)) e

-- a stretch without pairs latches nothing
pub stretch-none : (t : TiaFields) (c x k : ℕ) → ((y : ℕ) → x ≤ y → y < x + k → pairs_of (objects_at t y) ≡ 0) → c ≡ latched t c x k
stretch-none t c x k h = stretch-idle t c x k (λ y le lt. ap (bit_or c) (h y le lt) ∙ or_zero_r c)
