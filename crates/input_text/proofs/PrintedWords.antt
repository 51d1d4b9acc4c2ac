-- The words of a printed line: the count, and the names that are held.
use Rattle.std.proofs.Common.{◌≡◌, ℕ, ◌+◌, ◌-◌, ◌*◌, ◌^◌, ◌<◌, ◌≤◌, Bool, true, false, List, [], ◌∷◌}
use Rattle.std.proofs.Common.{◌++◌, length, take, map, refl, ap, ◌∙◌, arith, rules}
use Rattle.std.specs.Prelude.{nat_le, ◌&&◌, nat_eq, filter, fold, is_some}
use Rattle.std.specs.Fmt.{decimal}
use Rattle.std.specs.List.{All, list_all, filter_map, flat_map, slice_split}
use Rattle.std.specs.Str.{all_ascii_digits}
use Rattle.std.specs.Str.Parse.{AllDigits}
use Rattle.std.proofs.lemmas.Bool.{and_from, and_parts, le-leb, leb-true, ne_eqb}
use Rattle.std.proofs.lemmas.Bool.Decides.{nat_tests}
use Rattle.std.proofs.lemmas.List.Elements.{All-append, All-nil}
use Rattle.std.proofs.lemmas.Fmt.{decimal_is_IsNumeral, decimal_nonempty, digits_decimal, digits_value-decimal}
use Rattle.std.proofs.lemmas.List.{append-nil}
use Rattle.std.proofs.lemmas.List.Splits.{slice_split_none, slice_split_at}
use Rattle.std.proofs.lemmas.List.Sums.{AllPass-from_list_all, position_or_len_is}
use Rattle.std.proofs.lemmas.Str.Parse.{IsNumeralModel, numerals_by_fold, tells_all_ascii_digits}
use Rattle.std.proofs.lemmas.Str.Parse.{digit_from_value}
use Rattle.std.proofs.Math.Seq.{take-length}
use Rattle.input_text.specs.declared.name.Name.{Name}
use Rattle.input_text.specs.declared.stretch.Stretch.{Stretch}
use Rattle.input_text.specs.Names.{names_in}
use Rattle.input_text.specs.Stretches.{name_after_space}
use Rattle.input_text.specs.Texts.{number_of, is_count, name_of}
use Rattle.input_text.specs.Words.{is_blank, words_in, words_of}
use Rattle.input_text.proofs.HeldNames.{every_name, word_of, word_is_named}
use Rattle.input_text.proofs.LineLemmas.{is_part, part_kept}

-- a word of bytes from the digits on: neither blanks, nor a line feed, nor `#`
abbrev is_word : List ℕ → Bool
is_word word = list_all (nat_le 48) word && is_part word

name_is_word : (name : Name) → is_word (word_of name) ≡ true
name_is_word name = every_name (λ n. is_word (word_of n)) refl name

word_byte : (word : List ℕ) → is_word word ≡ true → All (λ b. 48 ≤ b) word
word_byte word e k d h = leb-true _ _ (AllPass-from_list_all (nat_le 48) word (and_parts _ _ e).0 k d h)

-- `number_of` is the value of decimal digits
count_model : IsNumeralModel (λ digits. all_ascii_digits digits ≡ true) number_of
count_model =
    let step : ℕ → ℕ → ℕ = λ number digit. 10 * number + (digit - 48) in
    numerals_by_fold (λ digits. all_ascii_digits digits ≡ true) tells_all_ascii_digits (fold step)
    (record { empty = λ n. refl; more = λ n c cs h. ap (λ (k : ℕ). fold step k cs) (omega arith) })

pub number_of-decimal : (n : ℕ) → n < 2 ^ 64 → number_of (decimal n) ≡ n
number_of-decimal n h = digits_value-decimal count_model n h

pub decimal_is_count : (n : ℕ) → 1 ≤ n → n < 2 ^ 64 → is_count (decimal n) ≡ true
decimal_is_count n some h = and_from _ _ (digits_decimal count_model n h) (le-leb 1 (number_of (decimal n)) (omega (arith, number_of-decimal n h)))

all_digits : (digits : List ℕ) → AllDigits 10 digits → list_all (nat_le 48) digits ≡ true
all_digits [] h = refl
all_digits (c ∷ cs) h = and_from _ _ (le-leb 48 c (digit_from_value c h.0).0) (all_digits cs h.1)

decimal_is_word : (n : ℕ) → n < 2 ^ 64 → is_word (decimal n) ≡ true
decimal_is_word n h = and_from _ _ (all_digits (decimal n) (decimal_is_IsNumeral n h).0.1) (grind (arith, nat_tests, decimal_nonempty n h))

no_blank : (word : List ℕ) → is_word word ≡ true → All (λ b. is_blank b ≡ false) word
no_blank word e k d h = grind (arith, nat_tests, word_byte word e k d h)

-- a word and names after it, each after a space
words_then : (word : List ℕ) (held : List Name) → is_word word ≡ true → words_in (word ++ flat_map name_after_space held) ≡ word ∷ map word_of held
words_then word [] e = rw append-nil (ap (filter is_part) (slice_split_none is_blank word (no_blank word e)) ∙ part_kept _ word [] e)
words_then word (name ∷ held) e =
    let others : List ℕ = word_of name ++ flat_map name_after_space held in
    ap (filter is_part) (slice_split_at is_blank word 32 others (no_blank word e) refl)
    ∙ part_kept _ word (slice_split is_blank others) e
    ∙ ap (λ (ws : List (List ℕ)). word ∷ ws) (words_then (word_of name) held (name_is_word name))

-- a printed line without its line feed
abbrev pub line_text : Stretch → List ℕ
line_text s = decimal s.count ++ flat_map name_after_space (names_in s.input)

-- a byte that is neither a line feed nor `#`
abbrev pub IsLineByte : ℕ → Type 0
IsLineByte b = (nat_eq b 10 ≡ false) × (nat_eq b 35 ≡ false)

word_is_line : (word : List ℕ) → is_word word ≡ true → All IsLineByte word
word_is_line word e k d h = let large = word_byte word e k d h in (ne_eqb _ _ (λ e. omega arith), ne_eqb _ _ (λ e. omega arith))

names_are_line : (held : List Name) → All IsLineByte (flat_map name_after_space held)
names_are_line [] = All-nil _
names_are_line (name ∷ held) =
    All-append IsLineByte (32 ∷ []) _ (λ k d h. search rules)
    (All-append IsLineByte (word_of name) _ (word_is_line (word_of name) (name_is_word name)) (names_are_line held))

pub line_bytes : (s : Stretch) → s.count < 2 ^ 64 → All IsLineByte (line_text s)
line_bytes s h = All-append IsLineByte (decimal s.count) _ (word_is_line (decimal s.count) (decimal_is_word s.count h)) (names_are_line (names_in s.input))

pub words_of-line : (s : Stretch) → s.count < 2 ^ 64 → words_of (line_text s) ≡ decimal s.count ∷ map word_of (names_in s.input)
words_of-line s h =
    ap (λ (n : ℕ). words_in (take n (line_text s)))
    (position_or_len_is (λ b. nat_eq b 35) (line_text s) (length (line_text s)) 0 (omega arith)
    (λ k within. (line_bytes s h k 0 within).1) (λ past. absurd (omega arith)))
    ∙ ap words_in (take-length (line_text s))
    ∙ words_then (decimal s.count) (names_in s.input) (decimal_is_word s.count h)

pub names_readable : (held : List Name) → list_all (λ word. is_some (name_of word)) (map word_of held) ≡ true
names_readable [] = refl
names_readable (name ∷ held) = and_from _ _ (ap is_some (word_is_named name)) (names_readable held)

pub names_named : (held : List Name) → filter_map name_of (map word_of held) ≡ held
names_named [] = refl
names_named (name ∷ held) = rw (word_is_named name) (ap (λ (ns : List Name). name ∷ ns) (names_named held))
