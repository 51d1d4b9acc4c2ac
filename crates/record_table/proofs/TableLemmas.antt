-- Tables of numbers, number by number.
use Rattle.std.proofs.Common.{◌≡◌, ℕ, ◌+◌, Bool, true, false, ◌&&◌, List, [], ◌∷◌, ◌++◌, length, refl, sym, ap, ◌∙◌}
use Rattle.std.specs.Prelude.{if◌then◌else◌}
use Rattle.std.specs.Int.{w16, to_be_bytes}
use Rattle.std.proofs.lemmas.List.{length-append, append_assoc}
use Rattle.record_table.specs.Numbers.{Number, number_bytes, bytes_of, table_length, are_lawful}

bytes-length : (is_wide : Bool) (value : ℕ)
    → length (if is_wide then to_be_bytes w16 value else value ∷ []) ≡ (if is_wide then 2 else 1)
bytes-length true value = refl
bytes-length false value = refl

and_assoc : (a b c : Bool) → (a && (b && c)) ≡ (a && b && c)
and_assoc true b c = refl
and_assoc false b c = refl

module _ {F : Type 0} where
  pub bytes_of-length : (numbers : List (Number F)) (f : F) → length (bytes_of numbers f) ≡ table_length numbers
  bytes_of-length [] f = refl
  bytes_of-length (number ∷ numbers) f =
      length-append (number_bytes number f) (bytes_of numbers f)
      ∙ ap (λ (n : ℕ). n + length (bytes_of numbers f)) (bytes-length number.is_wide (number.value f))
      ∙ ap (λ (n : ℕ). (if number.is_wide then 2 else 1) + n) (bytes_of-length numbers f)

  pub bytes_of-append : (first second : List (Number F)) (f : F)
      → bytes_of (first ++ second) f ≡ bytes_of first f ++ bytes_of second f
  bytes_of-append [] second f = refl
  bytes_of-append (number ∷ numbers) second f =
      ap (λ (w : List ℕ). number_bytes number f ++ w) (bytes_of-append numbers second f)
      ∙ sym (append_assoc (number_bytes number f) (bytes_of numbers f) (bytes_of second f))

  pub are_lawful-append : (first second : List (Number F)) (f : F)
      → are_lawful (first ++ second) f ≡ (are_lawful first f && are_lawful second f)
  are_lawful-append [] second f = refl
  are_lawful-append (number ∷ numbers) second f =
      let first = number.may_be (number.value f) in
      ap (λ (b : Bool). first && b) (are_lawful-append numbers second f)
      ∙ and_assoc first (are_lawful numbers f) (are_lawful second f)
