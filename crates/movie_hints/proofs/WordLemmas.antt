-- How the bytes of a word are shown, piece by piece.
use Rattle.std.proofs.Common.{◌≡◌, ℕ, zero, suc, ◌+◌, ◌<◌, ◌≤◌, List, [], ◌++◌, append-nil, drop, length, min, take, refl, sym, ap, ◌∙◌, arith}
use Rattle.std.proofs.Math.Seq.{drop-append_seam, take-append_seam, drop-append-add}
use Rattle.std.proofs.lemmas.List.{nil_from_length, take_min}
use Rattle.std.specs.Str.Lossy.{utf8_error_len, utf8_invalid_len, utf8_valid_len}
use Rattle.std.proofs.StrCases.{chars_of_empty}
use Rattle.movie_hints.specs.Words.{shown_bytes, escaped, letters_text, pieces_text, no_text_of, text_of}

-- the next piece
pub pieces_text-next : (most : ℕ) (bytes valid invalid rest : List ℕ) → length bytes ≤ most → bytes ≡ valid ++ (invalid ++ rest) → length rest < length bytes
    → length valid ≡ utf8_valid_len bytes → length invalid ≡ utf8_invalid_len (drop (utf8_valid_len bytes) bytes)
    → (more : ℕ) × (length rest ≤ more) × (pieces_text most bytes ≡ letters_text valid ++ (escaped invalid ++ pieces_text more rest))
pieces_text-next zero bytes valid invalid rest few parts less v i = absurd (omega arith)
pieces_text-next (suc most) bytes valid invalid rest few parts less v i =
    let front : text_of bytes ≡ valid = rw (← v) (ap (take (length valid)) parts ∙ take-append_seam valid (invalid ++ rest)) in
    let back : drop (utf8_valid_len bytes) bytes ≡ invalid ++ rest = rw (← v) (ap (drop (length valid)) parts ∙ drop-append_seam valid (invalid ++ rest)) in
    let after : no_text_of bytes ≡ invalid = rw (← i, back) (take-append_seam invalid rest) in
    let left : drop (length valid + length invalid) bytes ≡ rest =
    ap (drop (length valid + length invalid)) parts ∙ drop-append-add valid (invalid ++ rest) (length invalid) ∙ drop-append_seam invalid rest in
    (most, omega arith, rw (front, after, left) refl)

-- nothing is shown of no bytes
nothing : (most : ℕ) → pieces_text most [] ≡ []
unfolding utf8_valid_len utf8_error_len
nothing zero = refl
nothing (suc most) = rw (chars_of_empty [] refl, nothing most) refl

pub pieces_text-none : (most : ℕ) (bytes : List ℕ) → length bytes ≡ 0 → pieces_text most bytes ≡ []
pieces_text-none most bytes none = ap (pieces_text most) (nil_from_length bytes none) ∙ nothing most

-- all pieces
pub shown_bytes-pieces : (bytes : List ℕ) → pieces_text (length bytes) bytes ≡ shown_bytes bytes
unfolding shown_bytes
shown_bytes-pieces bytes = refl

-- what was written before nothing is left
pub pieces_text-end : (done : List ℕ) (most : ℕ) (bytes all : List ℕ) → length bytes ≡ 0 → done ++ pieces_text most bytes ≡ all → done ≡ all
pieces_text-end done most bytes all none is = sym (append-nil done) ∙ ap (λ l. done ++ l) (sym (pieces_text-none most bytes none)) ∙ is

-- the first 40 bytes, or as many as there are
pub first_forty : (bytes : List ℕ) (shown : ℕ) → shown ≡ min (length bytes) 40 → take shown bytes ≡ take 40 bytes
first_forty bytes shown is = let same : shown ≡ min 40 (length bytes) = omega (arith, is) in rw same (take_min 40 bytes)

pub ruleset bytes_shown = (first_forty)
