-- The numbers of a record as a table. From the table follow the bytes that spell them, and which of
-- them are lawful. This project's own.
use Rattle.std.specs.Prelude.{ℕ, List, [], ◌∷◌, ◌++◌, ◌+◌, Bool, true, false, ◌&&◌, nat_lt, if◌then◌else◌}
use Rattle.std.specs.Int.{w16, to_be_bytes}

-- A number of a record: its name in a report, whether it has two bytes or one, what it may be, and
-- which number it is.
pub record Number (F : Type 0) : Type 0 where
  pub name : List ℕ
  pub is_wide : Bool
  pub may_be : ℕ → Bool
  pub value : F → ℕ

abbrev pub byte : {F : Type 0} → List ℕ → (ℕ → Bool) → (F → ℕ) → Number F
byte name may_be value = record { name = name; is_wide = false; may_be = may_be; value = value }

abbrev pub word : {F : Type 0} → List ℕ → (ℕ → Bool) → (F → ℕ) → Number F
word name may_be value = record { name = name; is_wide = true; may_be = may_be; value = value }

-- All that its bytes can say.
abbrev pub anything : ℕ → Bool
anything n = true

abbrev pub below : ℕ → ℕ → Bool
below limit n = nat_lt n limit

abbrev pub number_length : {F : Type 0} → Number F → ℕ
number_length number = if number.is_wide then 2 else 1

-- Two bytes are big-endian.
abbrev pub number_bytes : {F : Type 0} → Number F → F → List ℕ
number_bytes number f = if number.is_wide then to_be_bytes w16 (number.value f) else number.value f ∷ []

-- The bytes that spell the numbers, one after another.
abbrev pub bytes_of : {F : Type 0} → List (Number F) → F → List ℕ
bytes_of [] f = []
bytes_of (number ∷ numbers) f = number_bytes number f ++ bytes_of numbers f

-- How many they are.
abbrev pub table_length : {F : Type 0} → List (Number F) → ℕ
table_length [] = 0
table_length (number ∷ numbers) = number_length number + table_length numbers

-- Each number is one that it may be.
abbrev pub are_lawful : {F : Type 0} → List (Number F) → F → Bool
are_lawful [] f = true
are_lawful (number ∷ numbers) f = number.may_be (number.value f) && are_lawful numbers f
