-- Numbers in columns.
use Rattle.std.proofs.Common.{◌≡◌, ℕ, ◌-◌, ◌^◌, List, [], ◌++◌, length, false, ap, ◌∙◌, arith, append-nil}
use Rattle.std.specs.Fmt.{format_spec, padded_integral, char_count}
use Rattle.std.proofs.lemmas.Str.{encode_ascii}
use Rattle.trace_text.specs.Columns.{blanks, right}

-- What `{:>width}` writes of a number with these digits.
pub right-padded : (width : ℕ) (digits : List ℕ) → padded_integral (format_spec 32 3 0 width (2 ^ 64 - 1)) false [] digits ≡ right width digits
unfolding padded_integral char_count
right-padded width digits =
    let short : width - length digits - 0 - 0 ≡ width - length digits = omega arith in
    let none : (width - length digits) - (width - length digits) ≡ 0 = omega arith in
    let before = blanks (width - length digits) in
    rw (short, none, encode_ascii 32 (omega arith))
    (ap (λ (b : List ℕ). b ++ [] ++ [] ++ (digits ++ [])) (append-nil before)
    ∙ ap (λ (b : List ℕ). b ++ [] ++ (digits ++ [])) (append-nil before)
    ∙ ap (λ (b : List ℕ). b ++ (digits ++ [])) (append-nil before)
    ∙ ap (λ (d : List ℕ). before ++ d) (append-nil digits))
