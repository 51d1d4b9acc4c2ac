-- Inputs by themselves: three bytes each, one after the other, and nothing else. This project's
-- own.
use Rattle.std.specs.Prelude.{◌≡◌, ℕ, ◌/◌, ◌%◌, List, length, Result, Ok, Err, IsTrue, ◌==◌}
use Rattle.std.specs.Prelude.{if◌then◌else◌}
use Rattle.std.specs.List.{AllByRecursion, flat_map}
use Rattle.vcs_machine.specs.Inputs.{InputData, is_input, input_bytes}
use Rattle.movie_file.specs.declared.error.MovieError.{MovieError}
use Rattle.movie_file.specs.declared.error.MovieError.TheVariants.{Short}
use Rattle.movie_file.specs.Format.{input_length}
use Rattle.movie_file.specs.Reading.{◌>>=◌, inputs_at}

-- the bytes spell the inputs
pub record SpellsInputs (bytes : List ℕ) (inputs : List InputData) : Type 0 where
  pub lawful : AllByRecursion (λ i. IsTrue (is_input i)) inputs
  pub spelled : bytes ≡ flat_map input_bytes inputs

-- the inputs that the bytes are, or their refusal: an input that is cut short, or the first that is
-- none
unfoldable pub all_inputs_at : List ℕ → Result (List InputData) MovieError
all_inputs_at bytes =
    if length bytes % input_length == 0
    then (inputs_at (length bytes / input_length) 1 bytes >>= λ read. Ok read.0)
    else Err Short
