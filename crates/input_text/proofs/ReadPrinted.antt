-- Reading what was printed.
use Rattle.std.proofs.Common.{◌≡◌, ℕ, ◌^◌, ◌<◌, ◌≤◌, zero, suc, true, List, [], ◌∷◌, ◌++◌, length}
use Rattle.std.proofs.Common.{drop, replicate, Some, Ok, sym, refl, ap, ◌∙◌, subst, arith, append_assoc}
use Rattle.std.proofs.Common.{length-drop, slice_get}
use Rattle.std.specs.Prelude.{nat_eq}
use Rattle.std.specs.List.{AllByRecursion, list_all, flat_map}
use Rattle.std.proofs.lemmas.Bool.{and_from, le-leb}
use Rattle.std.proofs.lemmas.List.{length-replicate, length-take, take-append-drop}
use Rattle.std.proofs.lemmas.List.Splits.{slice_split_at}
use Rattle.vcs_machine.specs.Inputs.{InputData}
use Rattle.input_text.specs.declared.stretch.Stretch.{Stretch}
use Rattle.input_text.specs.Names.{names_in, IsInputOfBytes}
use Rattle.input_text.specs.Stretches.{BeginWith, AreStretches, IsPrinted, line_of}
use Rattle.input_text.specs.Texts.{is_readable, inputs_of, inputs_in}
use Rattle.input_text.specs.Words.{lines_of}
use Rattle.input_text.proofs.GoodLines.{can_be_read, frames_in, length-inputs, said}
use Rattle.input_text.proofs.HeldNames.{holding_held}
use Rattle.input_text.proofs.Printed.{input_at}
use Rattle.input_text.proofs.PrintedWords.{line_text, line_bytes, words_of-line}
use Rattle.input_text.proofs.PrintedWords.{number_of-decimal, decimal_is_count, names_readable}
use Rattle.input_text.proofs.PrintedWords.{names_named}

-- a stretch whose line is read as that stretch
record IsPrintable (s : Stretch) : Type 0 where
  some : 1 ≤ s.count
  small : s.count < 2 ^ 64
  lawful : IsInputOfBytes s.input

lawful_at : (inputs : List InputData) (input : InputData) → AllByRecursion IsInputOfBytes inputs → slice_get inputs 0 ≡ Some input
    → IsInputOfBytes input
lawful_at [] input lawful e = cc
lawful_at (i ∷ inputs) input lawful e = let same : i ≡ input = cc in subst IsInputOfBytes same lawful.0

lawful_after : (n : ℕ) (inputs : List InputData) → AllByRecursion IsInputOfBytes inputs → AllByRecursion IsInputOfBytes (drop n inputs)
lawful_after zero inputs lawful = lawful
lawful_after (suc n) [] lawful = tt
lawful_after (suc n) (i ∷ inputs) lawful = lawful_after n inputs lawful.1

printable : (inputs : List InputData) (s : Stretch) → AllByRecursion IsInputOfBytes inputs → length inputs ≤ 262143
    → BeginWith s inputs → IsPrintable s
printable inputs s lawful few first = record {
  some = first.some;
  small = omega (arith, ap length first.equal, length-replicate s.count s.input, length-take s.count inputs);
  lawful = lawful_at inputs s.input lawful (input_at inputs s.count 0 s.input first.equal (omega (arith, first.some)));
}

line_readable : (s : Stretch) → IsPrintable s → can_be_read (line_text s) ≡ true
line_readable s so = ap is_readable (words_of-line s so.small) ∙ and_from _ _ (decimal_is_count s.count so.some so.small) (names_readable (names_in s.input))

inputs_of-line : (s : Stretch) → IsPrintable s → inputs_of (line_text s) ≡ replicate s.count s.input
inputs_of-line s so = grind (arith, words_of-line, line_text, number_of-decimal, names_named, holding_held)

-- a text whose lines can be read, and say these inputs
record Says (text : List ℕ) (inputs : List InputData) : Type 0 where
  readable : list_all can_be_read (lines_of text) ≡ true
  inputs_are : flat_map inputs_of (lines_of text) ≡ inputs

says : (inputs : List InputData) (stretches : List Stretch) → AllByRecursion IsInputOfBytes inputs → length inputs ≤ 262143
    → AreStretches inputs stretches → Says (flat_map line_of stretches) inputs
says inputs [] lawful few e = record { readable = refl; inputs_are = sym e }
says inputs (s ∷ stretches) lawful few parts =
    let so = printable inputs s lawful few parts.0 in
    let rest : List ℕ = flat_map line_of stretches in
    let others = says (drop s.count inputs) stretches (lawful_after s.count inputs lawful) (omega (arith, length-drop s.count inputs)) parts.1 in
    let lines : lines_of (line_of s ++ rest) ≡ line_text s ∷ lines_of rest = ap lines_of (append_assoc (line_text s) (10 ∷ []) rest)
    ∙ slice_split_at (λ b. nat_eq b 10) (line_text s) 10 rest (λ k d h. (line_bytes s so.small k d h).0) refl in
    record {
      readable = ap (list_all can_be_read) lines ∙ and_from _ _ (line_readable s so) others.readable;
      inputs_are =
          ap (flat_map inputs_of) lines ∙ rw (inputs_of-line s so, others.inputs_are, ← parts.0.equal) (take-append-drop s.count inputs);
    }

pub read_printed : (inputs : List InputData) (text : List ℕ) → AllByRecursion IsInputOfBytes inputs → length inputs ≤ 262143 → IsPrinted inputs text
    → inputs_in text ≡ Ok inputs
read_printed inputs text lawful few so = grind (arith, says, frames_in, length-inputs, said, and_from, le-leb)
