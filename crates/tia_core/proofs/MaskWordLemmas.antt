-- Rows of bits in the words of a mask.
use Rattle.std.proofs.Common.{◌≡◌, ◌≢◌, ℕ, zero, suc, [], ◌∷◌, ◌+◌, ◌-◌, ◌*◌, ◌/◌, ◌%◌, ◌^◌, ◌==◌}
use Rattle.std.proofs.Common.{◌<◌, ◌≤◌, ◌||◌, ◌&&◌, nat_le, nat_lt, Bool, true, min, if◌then◌else◌}
use Rattle.std.proofs.Common.{false, List, length, length-set, slice_index_or, slice_set, bit_or}
use Rattle.std.proofs.Common.{bit_and, refl, sym, ap, ◌∙◌, arith, get_or-set_same}
use Rattle.std.proofs.Common.{get_or-set_other}
use Rattle.std.specs.Int.{trailing_zeros, w32}
use Rattle.std.proofs.lemmas.Bool.Decides.{nat_tests}
use Rattle.std.proofs.lemmas.List.FromFn.{get_or-map-range_with_len}
use Rattle.std.proofs.Math.Nat.{pow-le-pow_right}
use Rattle.std.proofs.lemmas.Nat.{shr_split, shr-shr, mul-le, pow_pos, and_le_l, one_shl}
use Rattle.std.proofs.lemmas.Nat.Bits.{bit_at_or, bit_at_and, bit_at-lt, bit_at_above}
use Rattle.std.proofs.lemmas.Nat.Bits.{bit_at_cat_low, bit_at_cat_high, bit_at-zero}
use Rattle.std.proofs.lemmas.Nat.Bits.{bit_at-trailing_zeros, bit_at_mask_inside, bit_at_mask_below}
use Rattle.std.proofs.lemmas.Nat.Bits.{bit_at_mask_above}
use Rattle.tia_core.specs.Bits.{has_bit}
use Rattle.tia_core.specs.Coverage.{distance_of}
use Rattle.tia_core.specs.Private.ObjectSets.{has_two}
use Rattle.tia_core.specs.Mask.{any_from, covers}
use Rattle.tia_core.specs.Private.MaskWords.{word_bit, pixels_in}
use Rattle.tia_core.proofs.RoundTheLine.{distance_of-natural}

-- ---- bits as truth values
pub bit_or-is : (a b k : ℕ) → has_bit (bit_or a b) k ≡ (has_bit a k || has_bit b k)
bit_or-is a b k = grind (arith, nat_tests, bit_at_or a b k, bit_at-lt a k, bit_at-lt b k)

pub bit_and-is : (a b k : ℕ) → has_bit (bit_and a b) k ≡ (has_bit a k && has_bit b k)
bit_and-is a b k = grind (arith, nat_tests, bit_at_and a b k, bit_at-lt a k, bit_at-lt b k)

pub bit-zero : (k : ℕ) → has_bit 0 k ≡ false
bit-zero k = ap (λ (n : ℕ). n == 1) (bit_at-zero k)

pub bit-above : (n k i : ℕ) → n < 2 ^ k → k ≤ i → has_bit n i ≡ false
bit-above n k i h le = ap (λ (b : ℕ). b == 1) (bit_at_above n k i h le)

-- two numbers side by side
pub cat-low : (a k b i : ℕ) → i < k → has_bit (a * 2 ^ k + b) i ≡ has_bit b i
cat-low a k b i h = ap (λ (n : ℕ). n == 1) (bit_at_cat_low a k b i h)

pub cat-high : (a k b i : ℕ) → b < 2 ^ k → k ≤ i → has_bit (a * 2 ^ k + b) i ≡ has_bit a (i - k)
cat-high a k b i h le = ap (λ (n : ℕ). n == 1) (bit_at_cat_high a k b i h le)

-- the low k bits are those of the remainder
pub bit-low : (n k i : ℕ) → i < k → has_bit (n % 2 ^ k) i ≡ has_bit n i
bit-low n k i h = sym (cat-low (n / 2 ^ k) k (n % 2 ^ k) i h) ∙ ap (λ (m : ℕ). has_bit m i) (shr_split n k)

-- the others are those of the quotient
pub bit-high : (n k i : ℕ) → has_bit (n / 2 ^ k) i ≡ has_bit n (k + i)
bit-high n k i = ap (λ (m : ℕ). m % 2 == 1) (shr-shr n k i)

-- a row that is shifted up
pub bit-shifted_low : (n k i : ℕ) → i < k → has_bit (n * 2 ^ k) i ≡ false
bit-shifted_low n k i h = let e : n * 2 ^ k + 0 ≡ n * 2 ^ k = omega arith in rw e at (cat-low n k 0 i h ∙ bit-zero i)

pub bit-shifted : (n k i : ℕ) → k ≤ i → has_bit (n * 2 ^ k) i ≡ has_bit n (i - k)
bit-shifted n k i h = let e : n * 2 ^ k + 0 ≡ n * 2 ^ k = omega arith in rw e at (cat-high n k 0 i (pow_pos k) h)

-- ---- masks by their words
pub covers-is : (words : List ℕ) (x : ℕ) → x < 160 → covers (pixels_in words) x ≡ word_bit words x
unfolding pixels_in
covers-is words x h = get_or-map-range_with_len (word_bit words) 0 160 x x false h (omega arith)

-- five words that are each right
module _ (a b c d e : ℕ) (f : ℕ → Bool) (p : (k : ℕ) → k < 32 → has_bit a k ≡ f (0 + k)) (q : (k : ℕ) → k < 32 → has_bit b k ≡ f (32 + k))
    (r : (k : ℕ) → k < 32 → has_bit c k ≡ f (64 + k)) (s : (k : ℕ) → k < 32 → has_bit d k ≡ f (96 + k)) (t : (k : ℕ) → k < 32 → has_bit e k ≡ f (128 + k)) where
  at_word : (x i : ℕ) → x < 160 → x / 32 ≡ i → has_bit (slice_index_or (a ∷ b ∷ c ∷ d ∷ e ∷ []) i 0) (x % 32) ≡ f x
  at_word x i h w = grind (arith, p (x % 32), q (x % 32), r (x % 32), s (x % 32), t (x % 32))

  pub five-words : (x : ℕ) → x < 160 → covers (pixels_in (a ∷ b ∷ c ∷ d ∷ e ∷ [])) x ≡ f x
  five-words x h = covers-is (a ∷ b ∷ c ∷ d ∷ e ∷ []) x h ∙ at_word x (x / 32) h refl

-- ---- a row in two words
-- the words in which a row begins and ends, and those that it leaves alone
low_word : (row j x at : ℕ) → row < 2 ^ 32 → at < 160 → x < 160 → j ≡ x % 32 → x / 32 ≡ at / 32
    → has_bit (row * 2 ^ (at % 32) % 2 ^ 32) j ≡ has_bit row (distance_of x at 0)
low_word row j x at h p q ej same =
    let d = distance_of-natural x at 0 p in
    let s : ℕ = at % 32 in
    grind (arith, bit-low (row * 2 ^ s) 32 j, bit-shifted_low row s j, bit-shifted row s j, bit-above row 32)

high_word : (row j x at : ℕ) → row < 2 ^ 32 → at < 160 → x < 160 → j ≡ x % 32 → x / 32 ≡ (at / 32 + 1) % 5
    → has_bit (row * 2 ^ (at % 32) / 2 ^ 32) j ≡ has_bit row (distance_of x at 0)
high_word row j x at h p q ej next =
    let d = distance_of-natural x at 0 p in
    grind (arith, bit-high (row * 2 ^ (at % 32)) 32 j, bit-shifted row (at % 32))

other_word : (row x at : ℕ) → row < 2 ^ 32 → at < 160 → x < 160 → x / 32 ≢ at / 32 → x / 32 ≢ (at / 32 + 1) % 5
    → has_bit row (distance_of x at 0) ≡ false
other_word row x at h p q ne ne2 = bit-above row 32 _ h (omega (arith, distance_of-natural x at 0 p))

shifted-fits : (row s : ℕ) → row < 2 ^ 32 → s < 32 → row * 2 ^ s % 18446744073709551616 ≡ row * 2 ^ s
shifted-fits row s h k =
    let p : 2 ^ s ≤ 2 ^ 31 = pow-le-pow_right (omega arith) {i = s} {j = 31} (omega arith) in
    let q : row * 2 ^ s ≤ 4294967295 * 2 ^ 31 = mul-le row (2 ^ s) 4294967295 (2 ^ 31) (omega arith) p in
    omega arith

-- the words with a row in two of them
abbrev placed : List ℕ → ℕ → ℕ → ℕ → ℕ → List ℕ
placed words i low j high = slice_set (slice_set words i (bit_or (slice_index_or words i 0) low)) j
    (bit_or (slice_index_or (slice_set words i (bit_or (slice_index_or words i 0) low)) j 0) high)

placed-at : (words : List ℕ) (i low j high k : ℕ) → i ≢ j → i < length words → j < length words
    → slice_index_or (placed words i low j high) k 0
    ≡ (if k == i then bit_or (slice_index_or words k 0) low else if k == j then bit_or (slice_index_or words k 0) high else slice_index_or words k 0)
placed-at words i low j high k ne p q = grind (arith, nat_tests, get_or-set_same, get_or-set_other, length-set {A = ℕ})

-- the words of a mask in which a row was placed
pub word_bit-placed : (words : List ℕ) (row at x : ℕ) → length words ≡ 5 → row < 2 ^ 32 → at < 160 → x < 160
    → word_bit (placed words (at / 32) (row * 2 ^ (at % 32) % 18446744073709551616 % 4294967296)
    ((at / 32 + 1) % 5) (row * 2 ^ (at % 32) % 18446744073709551616 / 4294967296)) x
    ≡ (word_bit words x || has_bit row (distance_of x at 0))
word_bit-placed words row at x len h p q =
    let k : ℕ = x % 32 in
    let low : ℕ = row * 2 ^ (at % 32) % 2 ^ 32 in
    let high : ℕ = row * 2 ^ (at % 32) / 2 ^ 32 in
    let w : ℕ = slice_index_or words (x / 32) 0 in
    rw (
      shifted-fits row (at % 32) h (omega arith),
      placed-at words (at / 32) low ((at / 32 + 1) % 5) high (x / 32) (omega arith) (omega arith) (omega arith),
    )
    (grind (
      arith,
      nat_tests,
      bit_or-is w low k,
      bit_or-is w high k,
      low_word row k x at h p q refl,
      high_word row k x at h p q refl,
      other_word row x at h p q,
    ))

-- ---- words that meet
-- whether three words have a bit in common
abbrev common : List ℕ → List ℕ → List ℕ → ℕ → ℕ
common ws vs us i = bit_and (bit_and (slice_index_or ws i 0) (slice_index_or vs i 0)) (slice_index_or us i 0)

abbrev all_cover : List ℕ → List ℕ → List ℕ → ℕ → Bool
all_cover ws vs us x = covers (pixels_in ws) x && covers (pixels_in vs) x && covers (pixels_in us) x

common-at : (ws vs us : List ℕ) (x : ℕ) → x < 160 → has_bit (common ws vs us (x / 32)) (x % 32) ≡ all_cover ws vs us x
common-at ws vs us x h =
    let ands = bit_and-is (bit_and (slice_index_or ws (x / 32) 0) (slice_index_or vs (x / 32) 0)) (slice_index_or us (x / 32) 0) (x % 32) in
    let and = bit_and-is (slice_index_or ws (x / 32) 0) (slice_index_or vs (x / 32) 0) (x % 32) in
    rw (covers-is ws x h, covers-is vs x h, covers-is us x h) (grind arith)

pub common-some : (ws vs us : List ℕ) (i : ℕ) → i < 5 → slice_index_or ws i 0 < 2 ^ 32 → 0 < common ws vs us i
    → (x : ℕ) × (x < 160) × (all_cover ws vs us x ≡ true)
common-some ws vs us i h small some =
    let n : ℕ = common ws vs us i in
    let first = and_le_l (slice_index_or ws i 0) (slice_index_or vs i 0) in
    let fits : n < 2 ^ 32 = omega (arith, and_le_l (bit_and (slice_index_or ws i 0) (slice_index_or vs i 0)) (slice_index_or us i 0)) in
    let t = bit_at-trailing_zeros w32 n some fits in
    let k : ℕ = trailing_zeros w32 n in
    let lt : k < 32 = t.0 in
    let e : (32 * i + k) / 32 ≡ i = omega arith in
    let f : (32 * i + k) % 32 ≡ k = omega arith in
    (32 * i + k, omega arith, sym (rw (e, f) at (common-at ws vs us (32 * i + k) (omega arith))) ∙ ap (λ (b : ℕ). b == 1) t.1)

pub common-none : (ws vs us : List ℕ) (i x : ℕ) → common ws vs us i ≡ 0 → x / 32 ≡ i → x < 160 → all_cover ws vs us x ≡ false
common-none ws vs us i x e at h = sym (common-at ws vs us x h) ∙ rw (at, e) (bit-zero (x % 32))

-- ---- the bits of a stretch
pub powers-order : (m n : ℕ) → m ≤ n → 2 ^ m ≤ 2 ^ n
powers-order m n h = pow-le-pow_right (omega arith) {i = m} {j = n} h

pub stretch-bit : (low high k : ℕ) → low ≤ high → has_bit (2 ^ high - 2 ^ low) k ≡ (nat_le low k && nat_lt k high)
stretch-bit low high k h = grind (arith, nat_tests, bit_at_mask_below low high k, bit_at_mask_inside low high k, bit_at_mask_above low high k)

-- the word that covers a stretch of a line: m and n of its pixels, from `first` on, lie left of x and of y
pub stretch-word : (x y first m n k : ℕ) → m ≡ min (x - first) 32 → n ≡ min (y - first) 32 → x ≤ y → k < 32
    → has_bit (1 * 2 ^ n % 18446744073709551616 - 1 * 2 ^ m % 18446744073709551616) k ≡ (nat_le x (first + k) && nat_lt (first + k) y)
stretch-word x y first m n k l r h lt =
    rw (one_shl n 64 (omega arith), one_shl m 64 (omega arith)) (stretch-bit m n k (omega arith) ∙ grind (arith, nat_tests))

-- ---- some pixel of a stretch
pub any_from-none : (test : ℕ → Bool) (x k : ℕ) → ((y : ℕ) → x ≤ y → y < x + k → test y ≡ false) → any_from test x k ≡ false
any_from-none test x zero h = refl
any_from-none test x (suc k) h = rw (h x (omega arith) (omega arith)) (any_from-none test (x + 1) k (λ y le lt. h y (omega arith) (omega arith)))

first_or_later : (test : ℕ → Bool) (x k y : ℕ) → (x + 1 ≤ y → any_from test (x + 1) k ≡ true) → x ≤ y → test y ≡ true → any_from test x (suc k) ≡ true
first_or_later test x k y later le e = grind arith

pub any_from-some : (test : ℕ → Bool) (x k y : ℕ) → x ≤ y → y < x + k → test y ≡ true → any_from test x k ≡ true
any_from-some test x zero y le lt e = absurd (omega arith)
any_from-some test x (suc k) y le lt e = first_or_later test x k y (λ le2. any_from-some test (x + 1) k y le2 (omega arith) e) le e

-- a test that is tried within a stretch alone
within-true : (from to x : ℕ) (p w : Bool) → w ≡ (nat_le from x && nat_lt x to) → (p && w) ≡ true → (from ≤ x) × (x < to) × (p ≡ true)
within-true from to x p w e h = grind (arith, nat_tests)

within-false : (from to x : ℕ) (p w : Bool) → w ≡ (nat_le from x && nat_lt x to) → from ≤ x → x < to → (p && w) ≡ false → p ≡ false
within-false from to x p w e le lt h = grind (arith, nat_tests)

-- whether a pixel of a stretch passes is decided by these two
pub meets-is : (result : Bool) (test : ℕ → Bool) (w : List Bool) (from to : ℕ) → to ≤ 160
    → ((x : ℕ) → x < 160 → covers w x ≡ (nat_le from x && nat_lt x to))
    → (result ≡ true → (x : ℕ) × (x < 160) × ((test x && covers w x) ≡ true))
    → (result ≡ false → (x : ℕ) → x < 160 → (test x && covers w x) ≡ false)
    → result ≡ any_from test from (to - from)
meets-is true test w from to most within some none =
    let (x, h, e) = some refl in
    let there : (from ≤ x) × (x < to) × (test x ≡ true) = within-true from to x (test x) (covers w x) (within x h) e in
    sym (any_from-some test from (to - from) x there.0 (omega arith) there.2)
meets-is false test w from to most within some none = sym
    (any_from-none test from (to - from)
    (λ x le lt. within-false from to x (test x) (covers w x) (within x (omega arith)) le (omega arith) (none refl x (omega arith))))

-- ---- two of six
-- where a word has no bit that is set in two of six words, none of its pixels is covered by two
-- masks
pub none-twice : (a b c d e f : List ℕ) (w twice i x : ℕ)
    → ((k : ℕ) → has_bit twice k
    ≡ has_two (has_bit (slice_index_or a i 0) k) (has_bit (slice_index_or b i 0) k)
    (has_bit (slice_index_or c i 0) k) (has_bit (slice_index_or d i 0) k)
    (has_bit (slice_index_or e i 0) k) (has_bit (slice_index_or f i 0) k))
    → bit_and twice w ≡ 0 → x / 32 ≡ i → x < 160 → has_bit w (x % 32) ≡ true
    → has_two (covers (pixels_in a) x) (covers (pixels_in b) x) (covers (pixels_in c) x)
    (covers (pixels_in d) x) (covers (pixels_in e) x) (covers (pixels_in f) x) ≡ false
none-twice a b c d e f w twice i x two none at h there =
    rw (covers-is a x h, covers-is b x h, covers-is c x h, covers-is d x h, covers-is e x h, covers-is f x h, at)
    (sym (two (x % 32)) ∙ clear (has_bit twice (x % 32)) (has_bit w (x % 32)) miss there)
  where
    miss : (has_bit twice (x % 32) && has_bit w (x % 32)) ≡ false
    miss = sym (bit_and-is twice w (x % 32)) ∙ rw none (bit-zero (x % 32))

    clear : (p q : Bool) → (p && q) ≡ false → q ≡ true → p ≡ false
    clear p q e f = grind arith
