-- The pairs of which some object isn't in a set are those that don't meet in it.
use Rattle.std.proofs.Common.{◌≡◌, ◌∙◌, ℕ, ◌==◌, ◌&&◌, Bool, true, false, arith, refl, ap, if◌then◌else◌, bit_and, bit_or}
use Rattle.std.proofs.lemmas.Bool.{and_parts, eqb-true}
use Rattle.std.proofs.lemmas.Nat.Bits.{bit_at-zero, bit_at_and, bit_at_or, same_from_bits}
use Rattle.std.specs.Int.{bit_at}
use Rattle.tia_chip.specs.Collision.{pairs_of}
use Rattle.tia_chip.specs.declared.objects.Objects.{Objects}

-- what is true of both truth values
both : (Bool → Bool) → Bool
both f = f true && f false

of-both : (f : Bool → Bool) → both f ≡ true → (b : Bool) → f b ≡ true
unfolding both
of-both f h true = (and_parts (f true) (f false) h).0
of-both f h false = (and_parts (f true) (f false) h).1

set : Bool → Bool → Bool → Bool → Bool → Bool → Objects
set a b c d e f = record { player0 = a; player1 = b; missile0 = c; missile1 = d; ball = e; playfield = f }

abbrev pub unless : Bool → ℕ → ℕ
unless is_in pairs = if is_in then 0 else pairs

abbrev pub others : Bool → Bool → Bool → Bool → Bool → Bool → ℕ
others a b c d e f = bit_or (bit_or (bit_or (bit_or (bit_or (unless a 13826) (unless b 18818)) (unless c 24673)) (unless d 6169)) (unless e 684)) (unless f 1364)

are-others : Bool → Bool → Bool → Bool → Bool → Bool → Bool
are-others a b c d e f =
    let pairs = pairs_of (set a b c d e f) in
    (bit_or (others a b c d e f) pairs == 32767) && (bit_and (others a b c d e f) pairs == 0)

all-others : (a b c d e f : Bool) → are-others a b c d e f ≡ true
unfolding both set are-others pairs_of
all-others a b c d e f =
    of-both (are-others a b c d e) (
    of-both (λ e. both (are-others a b c d e)) (
    of-both (λ d. both (λ e. both (are-others a b c d e))) (
    of-both (λ c. both (λ d. both (λ e. both (are-others a b c d e)))) (
    of-both (λ b. both (λ c. both (λ d. both (λ e. both (are-others a b c d e))))) (
    of-both (λ a. both (λ b. both (λ c. both (λ d. both (λ e. both (are-others a b c d e)))))) refl a
    ) b
    ) c
    ) d
    ) e
    ) f

pub others-all : (o : Objects) → bit_or (others o.player0 o.player1 o.missile0 o.missile1 o.ball o.playfield) (pairs_of o) ≡ 32767
unfolding set are-others
others-all o =
    eqb-true _ 32767 (and_parts _ _ (all-others o.player0 o.player1 o.missile0 o.missile1 o.ball o.playfield)).0

pub others-apart : (o : Objects) → bit_and (others o.player0 o.player1 o.missile0 o.missile1 o.ball o.playfield) (pairs_of o) ≡ 0
unfolding set are-others
others-apart o =
    eqb-true _ 0 (and_parts _ _ (all-others o.player0 o.player1 o.missile0 o.missile1 o.ball o.playfield)).1

-- bits that are all there with those of other pairs
pub has-rest : (c others pairs all : ℕ) → bit_or others pairs ≡ all → bit_and others pairs ≡ 0 → bit_or c others ≡ all → bit_or c pairs ≡ c
has-rest c others pairs all f g h = same_from_bits _ _ (λ i.
    let j : bit_at (bit_or others pairs) i ≡ bit_at all i = ap (λ (m : ℕ). bit_at m i) f in
    let k : bit_at (bit_and others pairs) i ≡ 0 = ap (λ (m : ℕ). bit_at m i) g ∙ bit_at-zero i in
    let l : bit_at (bit_or c others) i ≡ bit_at all i = ap (λ (m : ℕ). bit_at m i) h in
    omega (arith, bit_at_or others pairs i, bit_at_and others pairs i, bit_at_or c others i, bit_at_or c pairs i))
