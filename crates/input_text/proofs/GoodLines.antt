-- Lines that are good up to a place, and the first that isn't.
use Rattle.std.proofs.Common.{◌≡◌, ℕ, ◌+◌, ◌<◌, ◌≤◌, Bool, true, false, List, []}
use Rattle.std.proofs.Common.{◌∷◌, ◌++◌, length, get_or, take, drop, replicate, Option, Some, None}
use Rattle.std.proofs.Common.{Result, Ok, Err, sym, refl, ap, ◌∙◌, arith, append_assoc}
use Rattle.std.proofs.Common.{length-append, Bor}
use Rattle.std.specs.Prelude.{not, find, if◌then◌else◌, sum_by, nat_le, ◌&&◌}
use Rattle.std.specs.Option.{option_map_or}
use Rattle.std.specs.List.{flat_map, list_all, range_with_len}
use Rattle.std.proofs.lemmas.Bool.{and_parts}
use Rattle.std.proofs.lemmas.Bool.{leb-true}
use Rattle.std.proofs.lemmas.Bool.Decides.{nat_tests}
use Rattle.std.proofs.lemmas.List.{append-nil, take-append-drop, take-append-le, take_all}
use Rattle.std.proofs.lemmas.List.{length-replicate}
use Rattle.std.proofs.lemmas.List.Concat.{flat_map-append, length-flat_map}
use Rattle.std.proofs.lemmas.List.Folds.{list_all-append}
use Rattle.std.proofs.lemmas.List.FromFn.{get_or-range_with_len, length-range_with_len}
use Rattle.std.proofs.lemmas.List.Recursion.{found_at, found_nowhere}
use Rattle.std.proofs.lemmas.List.Sums.{sum_by-append}
use Rattle.std.proofs.Math.Seq.{take-append-add}
use Rattle.refused.specs.declared.Refused.{Refused}
use Rattle.refused.specs.declared.Refused.TheVariants.{NoMemory, Of}
use Rattle.vcs_machine.specs.Inputs.{InputData}
use Rattle.input_text.specs.declared.reading.BadLine.{BadLine}
use Rattle.input_text.specs.Words.{lines_of, words_of}
use Rattle.input_text.specs.Texts.{most_frames, is_readable, frames_of, input_of, inputs_of}
use Rattle.input_text.specs.Texts.{are_good, first_bad, inputs_in, SaysFrames}

abbrev pub can_be_read : List ℕ → Bool
can_be_read line = is_readable (words_of line)

abbrev frames_on : List ℕ → ℕ
frames_on line = frames_of (words_of line)

abbrev pub frames_in : List (List ℕ) → ℕ
frames_in lines = sum_by frames_on lines

-- as many inputs as frames
pub length-inputs : (lines : List (List ℕ)) → length (flat_map inputs_of lines) ≡ frames_in lines
length-inputs lines = simp (length-flat_map, length-replicate)

-- a line that can be read, and says no more frames than are left after these inputs
abbrev pub fits : List InputData → List ℕ → Bool
fits inputs line = can_be_read line && nat_le (length inputs + frames_on line) most_frames

-- one more line is good if it fits
good_push : (done : List (List ℕ)) (line : List ℕ) → are_good done ≡ true → are_good (done ++ line ∷ []) ≡ fits (flat_map inputs_of done) line
good_push done line good = grind (arith, list_all-append, sum_by-append, length-inputs)

-- what comes before good lines is good
good_before : (prefix back : List (List ℕ)) → are_good (prefix ++ back) ≡ true → are_good prefix ≡ true
good_before prefix back good = grind (arith, nat_tests, list_all-append can_be_read prefix back, sum_by-append frames_on prefix back)

good_up_to : (lines : List (List ℕ)) (n : ℕ) → are_good lines ≡ true → are_good (take n lines) ≡ true
good_up_to lines n good = good_before (take n lines) (drop n lines) (ap are_good (take-append-drop n lines) ∙ good)

abbrev is_bad_up_to : List (List ℕ) → ℕ → Bool
is_bad_up_to lines number = not (are_good (take number lines))

pub first_bad-none : (lines : List (List ℕ)) → are_good lines ≡ true → first_bad lines ≡ None
first_bad-none lines good =
    found_nowhere (find (is_bad_up_to lines)) (is_bad_up_to lines) Some None refl (λ _ _. refl) (range_with_len 1 (length lines)) 0
    (λ k h. ap not (good_up_to lines (get_or (range_with_len 1 (length lines)) k 0) good))

first_bad-at : (done : List (List ℕ)) (line : List ℕ) (more : List (List ℕ)) → are_good done ≡ true → are_good (done ++ line ∷ []) ≡ false
    → first_bad (done ++ line ∷ more) ≡ Some (length done + 1)
first_bad-at done line more good bad =
    let all : List (List ℕ) = done ++ line ∷ more in
    let number : (k : ℕ) → k ≤ length done → get_or (range_with_len 1 (length all)) k 0 ≡ k + 1 = λ (k : ℕ) (h : k ≤ length done).
    get_or-range_with_len 1 (length all) k 0 (omega (arith, length-append done (line ∷ more))) ∙ omega arith in
    found_at (find (is_bad_up_to all)) (is_bad_up_to all) Some None refl (λ _ _. refl) (range_with_len 1 (length all)) (length done) 0
    (omega (arith, length-range_with_len 1 (length all), length-append done (line ∷ more)))
    (λ k h. rw (number k (omega arith), take-append-le (k + 1) done (line ∷ more) (omega arith), good_up_to done (k + 1) good) refl)
    (rw (number (length done) (omega arith), take-append-add done (line ∷ more) 1, bad) refl)
    ∙ ap (λ (n : ℕ). Some n) (number (length done) (omega arith))

-- the lines of what is left of a text, and how many bytes are
abbrev pub lines_left : Option (Bor (List ℕ)) → List (List ℕ)
lines_left rest = option_map_or (λ (r : Bor (List ℕ)). lines_of r.now) rest []

abbrev pub bytes_left : Option (Bor (List ℕ)) → ℕ
bytes_left rest = option_map_or (λ (r : Bor (List ℕ)). length r.now + 1) rest 0

-- So many lines of a text are read, these are their inputs, and this is left.
pub record ReadSoFar (text : List ℕ) (number : ℕ) (inputs : List InputData) (rest : Option (Bor (List ℕ))) : Type 0 where
  pub done : List (List ℕ)
  pub count : number ≡ length done
  pub good : are_good done ≡ true
  pub inputs_are : inputs ≡ flat_map inputs_of done
  pub few : length inputs ≤ 262143
  pub lines : lines_of text ≡ done ++ lines_left rest

pub said : (text : List ℕ) → are_good (lines_of text) ≡ true → inputs_in text ≡ Ok (flat_map inputs_of (lines_of text))
said text good = rw (first_bad-none (lines_of text) good) refl

-- the next line, and what is left after it
module _ (text line : List ℕ) (number : ℕ) (inputs : List InputData) (rest after : Option (Bor (List ℕ)))
    (so : ReadSoFar text number inputs rest) (parted : lines_left rest ≡ line ∷ lines_left after) where
  next_lines : lines_of text ≡ so.done ++ line ∷ lines_left after
  next_lines = so.lines ∙ ap (λ (ls : List (List ℕ)). so.done ++ ls) parted

  next_good : are_good (so.done ++ line ∷ []) ≡ fits inputs line
  next_good = good_push so.done line so.good ∙ ap (λ (is : List InputData). fits is line) (sym so.inputs_are)

  -- a line that fits is read, and `resize` appends its inputs
  pub read_more : (n count : ℕ) → fits inputs line ≡ true → n ≡ length inputs + count → count ≡ frames_of (words_of line)
      → ReadSoFar text (number + 1) (take n inputs ++ replicate count (input_of (words_of line))) after
  read_more n count e long frames =
      let room : length inputs + frames_on line ≤ 262143 = leb-true _ _ (and_parts (can_be_read line) _ e).1 in
      let length = length-replicate (frames_on line) (input_of (words_of line)) in
      rw (take_all n inputs (omega arith), frames) (record {
        done = so.done ++ line ∷ [];
        count = omega (arith, so.count, length-append so.done (line ∷ []));
        good = next_good ∙ e;
        inputs_are = rw (so.inputs_are, ← append-nil (inputs_of line)) (sym (flat_map-append inputs_of so.done (line ∷ [])));
        few = omega (arith, length-append inputs (inputs_of line));
        lines = next_lines ∙ sym (append_assoc so.done (line ∷ []) (lines_left after));
      })

  -- memory is refused only for a line that says frames
  pub frames_said : fits inputs line ≡ true → 0 < frames_of (words_of line) → SaysFrames text
  frames_said e some =
      let lines : take (length so.done + 1) (lines_of text) ≡ so.done ++ line ∷ [] = rw next_lines (take-append-add so.done (line ∷ lines_left after) 1) in
      (length so.done + 1, ap are_good lines ∙ next_good ∙ e, omega (arith, ap frames_in lines, sum_by-append frames_on so.done (line ∷ [])))

  -- a line that doesn't fit is bad
  pub read_bad : fits inputs line ≡ false → inputs_in text ≡ Err (number + 1)
  read_bad e = grind (arith, next_lines, first_bad-at, next_good)

-- The number of the line that is refused, or 0.
abbrev pub line_in : {A : Type 0} → Result A (Refused BadLine) → ℕ
line_in (Ok inputs) = 0
line_in (Err NoMemory) = 0
line_in (Err (Of line)) = line.number

pub read_all : (text : List ℕ) (number : ℕ) (inputs : List InputData) → ReadSoFar text number inputs None → inputs_in text ≡ Ok inputs
read_all text number inputs so = grind (arith, append-nil, said)

-- Where no word is other than named, all are named.
pub all_named : (p : List ℕ → Bool) (words : List (List ℕ)) → find (λ word. not (p word)) words ≡ None → list_all p words ≡ true
all_named p [] none = refl
all_named p (word ∷ words) none = go (p word) (λ more. all_named p words more) none
  where
    go : (b : Bool) → (find (λ word. not (p word)) words ≡ None → list_all p words ≡ true)
        → (if not b then Some word else find (λ word. not (p word)) words) ≡ None → (b && list_all p words) ≡ true
    go true later more = later more
    go false later more = cc
