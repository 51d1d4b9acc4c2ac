-- Whether bytes are UTF-8, by the answer of a reading.
use Rattle.std.proofs.Common.{◌≡◌, ℕ, List, Bool, true, false, refl, sym}
use Rattle.std.specs.Prelude.{Result, Ok, Err, MatchResult, is_ok}
use Rattle.std.specs.Str.{IsUtf8, is_utf8}
use Rattle.std.proofs.lemmas.Str.{IsUtf8-from_is_utf8, is_utf8-from_IsUtf8}

false_by : (b : Bool) → (b ≡ true → ⊥) → false ≡ b
false_by true refuted = absurd (refuted refl)
false_by false refuted = refl

pub utf8_by_reading : {S E : Type 0} (bs : List ℕ) (P : S → Type 0) (Q : E → Type 0) (r : Result S E)
    → MatchResult r (λ s. P s × IsUtf8 bs) (λ e. (IsUtf8 bs → ⊥) × Q e) → is_ok r ≡ is_utf8 bs
utf8_by_reading bs P Q (Ok s) told = sym (is_utf8-from_IsUtf8 bs told.1)
utf8_by_reading bs P Q (Err e) told = false_by (is_utf8 bs) (λ is. told.0 (IsUtf8-from_is_utf8 bs is))
