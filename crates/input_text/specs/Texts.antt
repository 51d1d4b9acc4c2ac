-- What a text says: the inputs of its lines, one after the other, or its first bad line. This
-- project's own.
use Rattle.std.specs.Prelude.{ℕ, ◌+◌, ◌-◌, ◌*◌, ◌<◌, Bool, true, IsTrue, ◌&&◌, not, nat_le, List}
use Rattle.std.specs.Prelude.{[], ◌∷◌, length, take, replicate, find, fold, sum_by, Option, Some}
use Rattle.std.specs.Prelude.{None, is_some, Result, Ok, Err}
use Rattle.std.specs.List.{list_all, filter_map, flat_map, range_with_len}
use Rattle.std.specs.Str.{all_ascii_digits, bytes_eq}
use Rattle.vcs_machine.specs.Inputs.{InputData}
use Rattle.movie_file.specs.Format.{most_frames as most_in_version}
use Rattle.input_text.specs.declared.name.Name.{Name}
use Rattle.input_text.specs.Names.{bit_of_name, names, input_with}
use Rattle.input_text.specs.Words.{lines_of, words_of}

-- the most frames that a movie can have: no text says more
abbrev pub most_frames : ℕ
most_frames = most_in_version 2

-- the number that decimal digits spell
abbrev pub number_of : List ℕ → ℕ
number_of digits = fold (λ number digit. 10 * number + (digit - 48)) 0 digits

-- how many frames: digits alone, and at least 1
abbrev pub is_count : List ℕ → Bool
is_count word = all_ascii_digits word && nat_le 1 (number_of word)

-- the name that a word is
abbrev pub name_of : List ℕ → Option Name
name_of word = find (λ name. bytes_eq (bit_of_name name).word word) names

-- Words that can be read: none, or how many frames and then names.
abbrev pub is_readable : List (List ℕ) → Bool
is_readable [] = true
is_readable (count ∷ held) = is_count count && list_all (λ word. is_some (name_of word)) held

-- how many frames a line's words say
abbrev pub frames_of : List (List ℕ) → ℕ
frames_of [] = 0
frames_of (count ∷ held) = number_of count

-- and with which input
abbrev pub input_of : List (List ℕ) → InputData
input_of [] = input_with []
input_of (count ∷ held) = input_with (filter_map name_of held)

-- the inputs of a line
abbrev pub inputs_of : List ℕ → List InputData
inputs_of line = replicate (frames_of (words_of line)) (input_of (words_of line))

-- lines that can be read, with no more frames in all than a movie can have
abbrev pub are_good : List (List ℕ) → Bool
are_good lines =
    list_all (λ line. is_readable (words_of line)) lines
    && nat_le (sum_by (λ line. frames_of (words_of line)) lines) most_frames

-- so many first lines of a text are good, and say frames
abbrev pub SaysFrames : List ℕ → Type 0
SaysFrames text =
    (number : ℕ) × IsTrue (are_good (take number (lines_of text)))
    × (0 < sum_by (λ line. frames_of (words_of line)) (take number (lines_of text)))

-- The number of the first bad line, from 1: so many first lines aren't good, and fewer are.
abbrev pub first_bad : List (List ℕ) → Option ℕ
first_bad lines = find (λ number. not (are_good (take number lines))) (range_with_len 1 (length lines))

abbrev pub unless_bad : Option ℕ → List InputData → Result (List InputData) ℕ
unless_bad None inputs = Ok inputs
unless_bad (Some number) inputs = Err number

-- the inputs that a text says, or the number of its first bad line
abbrev pub inputs_in : List ℕ → Result (List InputData) ℕ
inputs_in text = unless_bad (first_bad (lines_of text)) (flat_map inputs_of (lines_of text))
