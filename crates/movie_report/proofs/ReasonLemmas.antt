-- The numbers of claims, one after the other.
use Rattle.std.proofs.Common.{◌≡◌, ℕ, suc, ◌+◌, ◌<◌, List, ◌∷◌, ◌++◌, length, refl, ap, arith, get_or, drop, drop-cons, append-nil, append_assoc}
use Rattle.std.specs.Prelude.{Bool, true, false, cond, if◌then◌else◌}
use Rattle.std.proofs.Math.Seq.{drop-length}
use Rattle.std.proofs.lemmas.List.Sums.{sum_by-cons}
use Rattle.movie_report.specs.Reasons.{breaks, broken, more_numbers, number_text}
use Rattle.movie_report.specs.declared.segments.Sign.{Sign}

by_bit : (bit : Bool) → ◌≡◌ {A = ℕ} (cond bit 1 0) (if bit then 1 else 0)
by_bit true = refl
by_bit false = refl

broken-cons : (sign : Sign) (later : List Sign) → broken (sign ∷ later) ≡ (if breaks sign then 1 else 0) + broken later
broken-cons sign later = rw sum_by-cons (ap (λ (n : ℕ). n + broken later) (by_bit (breaks sign)))

pub broken-next : (claims : List Sign) (i : ℕ) (sign : Sign) → i < length claims
    → broken (drop i claims) ≡ (if breaks (get_or claims i sign) then 1 else 0) + broken (drop (i + 1) claims)
broken-next claims i sign less =
    let more : i + 1 ≡ suc i = omega arith in rw (drop-cons claims i sign less, more) (broken-cons (get_or claims i sign) (drop (suc i) claims))

pub more_numbers-next : (number : ℕ) (claims : List Sign) (i : ℕ) (sign : Sign) → i < length claims
    → more_numbers number (drop i claims)
    ≡ number_text (get_or claims i sign) (broken (drop (i + 1) claims)) (number + 1) ++ more_numbers (number + 1) (drop (i + 1) claims)
more_numbers-next number claims i sign less = let more : i + 1 ≡ suc i = omega arith in rw (drop-cons claims i sign less, more) refl

pub ruleset number_by_number = (broken-next, more_numbers-next, drop-length, append-nil, append_assoc)
