-- The bytes of a cartridge's state.
use Rattle.std.proofs.Common.{◌≡◌, ◌∙◌, ℕ, ◌+◌, ◌≤◌, List, [], ◌∷◌, ◌++◌, length, take, drop, true, refl, ap, arith}
use Rattle.std.specs.Prelude.{slice_get, slice_index, nat_lt, if◌then◌else◌}
use Rattle.cart_board.specs.Board.{Row, last_of}
use Rattle.cart_board.specs.CartState.{are_banks}
use Rattle.cart_board.specs.Record.{IsSpelled}
use Rattle.cart_board.specs.declared.bank.BankByte.TheVariants.{First, Second, Third}
use Rattle.cart_board.specs.declared.bank.BankNumbers.{BankNumbers}
use Rattle.cart_board.proofs.SoundLemmas.{bank_at_most}

whole : (numbers : List BankNumbers) (a b c : ℕ) (ram : List ℕ) → length numbers ≤ 3
    → length (take (length numbers) (a ∷ b ∷ c ∷ []) ++ ram) ≡ length numbers + length ram
whole [] a b c ram few = omega arith
whole (x ∷ []) a b c ram few = omega arith
whole (x ∷ y ∷ []) a b c ram few = omega arith
whole (x ∷ y ∷ z ∷ []) a b c ram few = omega arith
whole (x ∷ y ∷ z ∷ w ∷ more) a b c ram few = absurd (omega arith)

ram_back : (numbers : List BankNumbers) (a b c : ℕ) (ram : List ℕ) → length numbers ≤ 3
    → drop (length numbers) (take (length numbers) (a ∷ b ∷ c ∷ []) ++ ram) ≡ ram
ram_back [] a b c ram few = refl
ram_back (x ∷ []) a b c ram few = refl
ram_back (x ∷ y ∷ []) a b c ram few = refl
ram_back (x ∷ y ∷ z ∷ []) a b c ram few = refl
ram_back (x ∷ y ∷ z ∷ w ∷ more) a b c ram few = absurd (omega arith)

abbrev bank_back : List BankNumbers → List ℕ → ℕ → ℕ
bank_back numbers spelled i = if nat_lt i (length numbers) then slice_index spelled i else 0

banks_back : (numbers : List BankNumbers) (bytes a b c : ℕ) (ram : List ℕ) → length numbers ≤ 3
    → a ≤ last_of (slice_get numbers 0) bytes → b ≤ last_of (slice_get numbers 1) bytes → c ≤ last_of (slice_get numbers 2) bytes
    → let spelled = take (length numbers) (a ∷ b ∷ c ∷ []) ++ ram in
    bank_back numbers spelled 0 ∷ bank_back numbers spelled 1 ∷ bank_back numbers spelled 2 ∷ [] ≡ a ∷ b ∷ c ∷ []
banks_back [] bytes a b c ram few first second third =
    let x : 0 ≡ a = omega arith in
    let y : 0 ≡ b = omega arith in
    let z : 0 ≡ c = omega arith in
    cc
banks_back (n ∷ []) bytes a b c ram few first second third =
    let y : 0 ≡ b = omega arith in
    let z : 0 ≡ c = omega arith in
    cc
banks_back (n ∷ m ∷ []) bytes a b c ram few first second third = let z : 0 ≡ c = omega arith in cc
banks_back (n ∷ m ∷ l ∷ []) bytes a b c ram few first second third = refl
banks_back (n ∷ m ∷ l ∷ k ∷ more) bytes a b c ram few first second third = absurd (omega arith)

pub is_spelled : (row : Row) (bytes banks ram : List ℕ) → length row.banks ≤ 3 → length banks ≡ 3 → are_banks row (length bytes) banks ≡ true
    → length ram ≡ row.ram → IsSpelled (record { cartridge = record { row = row; bytes = bytes }; banks = banks; ram = ram })
is_spelled row bytes (a ∷ b ∷ c ∷ []) ram few long are same =
    let banks = a ∷ b ∷ c ∷ [] in
    let first = bank_at_most row (length bytes) banks First are in
    let second = bank_at_most row (length bytes) banks Second are in
    let third = bank_at_most row (length bytes) banks Third are in
    record {
      whole = whole row.banks a b c ram few ∙ ap (λ (n : ℕ). length row.banks + n) same;
      banks = banks_back row.banks (length bytes) a b c ram few first second third;
      ram = ram_back row.banks a b c ram few;
    }
is_spelled row bytes [] ram few long are same = cc
is_spelled row bytes (a ∷ []) ram few long are same = cc
is_spelled row bytes (a ∷ b ∷ []) ram few long are same = cc
is_spelled row bytes (a ∷ b ∷ c ∷ d ∷ more) ram few long are same = cc
