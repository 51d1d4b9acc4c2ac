-- What the getters of `clap` read, by the rows that it found.
use Rattle.std.proofs.Common.{◌≡◌, ◌↔◌, ◌^◌, ◌<◌, ◌≤◌, ◌∙◌, ℕ, Bool, true, false, [], Option, Some, None, Result, option_map, codes, slice_index}
use Rattle.std.proofs.Common.{unwrap_or, sym, subst, refl, ap, arith}
use Rattle.std.specs.Str.Parse.{ParsesUnsigned, ExplainsUnsignedError, HasUnsignedDigitsIfOk, ParsesBool}
use Rattle.std.specs.Borrow.{Bor}
use Rattle.std.specs.declared.num.ParseIntError.{ParseIntError}
use Rattle.std.specs.declared.str.ParseBoolError.{ParseBoolError}
use Rattle.clap.specs.Matches.{ReadsOne, one_text, first_value}
use Rattle.clap.specs.Words.{Text, one_of, rows_of, first_of, found_of}
use Rattle.clap.specs.declared.ArgMatches.{ArgMatches}
use Rattle.clap.proofs.WalkLemmas.{one_text-rows, first_value-rows}
use Rattle.command_line.specs.Meanings.{number_in}
use Rattle.command_line.specs.Private.Numbers.{IsNumberIn}

-- How an unsigned type of k bits reads a text.
abbrev pub Gives : ℕ → Text → Result ℕ ParseIntError → Type 0
Gives k bs r = ParsesUnsigned k 10 bs r × ExplainsUnsignedError 10 bs r × HasUnsignedDigitsIfOk bs r

-- What an unsigned type of k bits reads of a text: its number, or there is none in its range.
abbrev pub IsRead : ℕ → Option Text → Option ℕ → Type 0
IsRead k o (Some n) = option_map number_in o ≡ Some n
IsRead k o None = (least most : ℕ) → most < 2 ^ k → IsNumberIn least most o → ⊥

from_text : (k : ℕ) (o : Option Text) (r : Option ℕ) → (o ≡ None → r ≡ None)
    → ((t : Text) → o ≡ Some t → ReadsOne (Gives k) t r) → IsRead k o r
from_text k None (Some n) none value =
    let bad : Some n ≡ None = none refl in
    cc
from_text k None None none value = λ least most fits h. h
from_text k (Some t) (Some n) none value = ap Some (sym (value t refl).0.1)
from_text k (Some t) None none value = λ least most fits h. (value t refl).1.0 (h.0, omega (arith, fits, h.2))

pub number_read : (k : ℕ) (m : ArgMatches) (id : Text) (r : Option ℕ) → (one_text (found_of m) id ≡ None → r ≡ None)
    → ((t : Text) → one_text (found_of m) id ≡ Some t → ReadsOne (Gives k) t r) → IsRead k (one_of id (rows_of (found_of m))) r
number_read k m id r none value = subst (λ o. IsRead k o r) (one_text-rows (found_of m) id) (from_text k (one_text (found_of m) id) r none value)

pub word_read : (m : ArgMatches) (id : Text) (r : Option (Bor Text)) → option_map (λ s. s.now) r ≡ first_value (found_of m) id
    → option_map (λ s. s.now) r ≡ first_of id (rows_of (found_of m))
word_read m id r is = is ∙ first_value-rows (found_of m) id

-- What is known where it reads nothing, and where it reads a number.
pub nothing_read : (k : ℕ) (o : Option Text) (r : Option ℕ) → IsRead k o r → r ≡ None → (least most : ℕ) → most < 2 ^ k → IsNumberIn least most o → ⊥
nothing_read k o r read is = subst (IsRead k o) is read

pub one_read : (k : ℕ) (o : Option Text) (r : Option ℕ) (n : ℕ) → IsRead k o r → r ≡ Some n → option_map number_in o ≡ Some n
one_read k o r n read is = subst (IsRead k o) is read

-- A number in a range is in each wider one.
pub wider : (o : Option Text) (least most lower higher : ℕ) → lower ≤ least → most ≤ higher → IsNumberIn least most o → IsNumberIn lower higher o
wider o least most lower higher low high fits = grind arith

-- The number that was read is in each range in which the text has it.
pub read_in : (o : Option Text) (n least most : ℕ) → option_map number_in o ≡ Some n → IsNumberIn least most o → (least ≤ n) × (n ≤ most)
read_in o n least most is fits = grind arith

pub ruleset ranges = (read_in, wider)

-- ---- texts

pub text_or : (r : Option (Bor Text)) (other : Bor Text) → (unwrap_or r other).now ≡ unwrap_or (option_map (λ s. s.now) r) other.now
text_or r other = grind arith

flag_from : (o : Option Text) (r : Option Bool) → (o ≡ None → r ≡ None) → ((t : Text) → o ≡ Some t → ReadsOne {E = ParseBoolError} ParsesBool t r)
    → (unwrap_or r false ≡ true) ↔ (o ≡ Some (codes "true"))
flag_from None r none value =
    let is : r ≡ None = none refl in
    rw is (λ h. cc, λ h. cc)
flag_from (Some t) (Some true) none value = (λ h. ap Some (value t refl), λ h. refl)
flag_from (Some t) (Some false) none value =
    let is : t ≡ codes "false" = value t refl in
    (λ h. cc, λ h. absurd (other t is h))
  where
    other : (t : Text) → t ≡ codes "false" → Some t ≡ Some (codes "true") → ⊥
    other t is h =
        let bad : slice_index t 0 ≡ 102 = rw is refl in
        let good : slice_index t 0 ≡ 116 = ap (λ (o : Option Text). slice_index (unwrap_or o []) 0) h in
        absurd (omega (arith, bad, good))
flag_from (Some t) None none value = (λ h. cc, λ h. absurd ((value t refl).1.0 (same t h)))
  where
    same : (t : Text) → Some t ≡ Some (codes "true") → t ≡ codes "true"
    same t h = ap (λ (o : Option Text). unwrap_or o []) h

pub flag_read : (m : ArgMatches) (id : Text) (r : Option Bool) → (one_text (found_of m) id ≡ None → r ≡ None)
    → ((t : Text) → one_text (found_of m) id ≡ Some t → ReadsOne {E = ParseBoolError} ParsesBool t r)
    → (unwrap_or r false ≡ true) ↔ (one_of id (rows_of (found_of m)) ≡ Some (codes "true"))
flag_read m id r none value =
    subst (λ o. (unwrap_or r false ≡ true) ↔ (o ≡ Some (codes "true"))) (one_text-rows (found_of m) id) (flag_from (one_text (found_of m) id) r none value)
