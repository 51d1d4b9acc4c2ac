-- What a judge is to mind, whatever the verdict: that the movie doesn't start at power-on, and which frames no claim covers.
-- This project's own.
use Rattle.std.specs.Prelude.{ℕ, ◌-◌, ◌==◌, List, [], ◌∷◌, ◌++◌, length, codes, drop}
use Rattle.std.specs.Prelude.{Option, Some, None, if◌then◌else◌}
use Rattle.std.specs.Fmt.{decimal}
use Rattle.std.specs.List.{flat_map}
use Rattle.std.specs.Str.{bytes_eq}
use Rattle.cart_board.specs.Board.{Row}
use Rattle.movie_machine.specs.Carts.{board_of}
use Rattle.movie_file.specs.Movie.{MovieData}
use Rattle.movie_file.specs.declared.checkpoint.Checkpoint.{Checkpoint}
use Rattle.movie_report.specs.CheckpointFacts.{last_of}
use Rattle.movie_report.specs.Differences.{difference_count}
use Rattle.replay_plan.specs.declared.notation.Notation.{Notation}
use Rattle.replay_plan.specs.declared.notation.Notation.TheVariants.{Lines, Json}

-- In how many numbers the start state differs from that of power-on, if it does: of the records of both.
abbrev pub start_notes : Option Row → List ℕ → List ℕ → List (List ℕ)
start_notes board start power =
    if bytes_eq start power then []
    else (codes "not power-on: " ++ (decimal (difference_count board start power) ++ codes " numbers differ")) ∷ []

-- How many of the movie's frames come after its last checkpoint, if any does, or that it has none.
abbrev pub claim_notes : ℕ → Option Checkpoint → List (List ℕ)
claim_notes frames None = codes "no checkpoint" ∷ []
claim_notes frames (Some last) =
    if last.frame == frames then [] else (decimal (frames - last.frame) ++ codes " frames after the last checkpoint") ∷ []

-- A line, or an element of an array after those before it.
abbrev pub note_text : Notation → List ℕ → List ℕ
note_text Lines note = codes "note: " ++ (note ++ 10 ∷ [])
note_text Json note = codes ",\"" ++ (note ++ codes "\"")

abbrev pub note_texts : Notation → List (List ℕ) → List ℕ
note_texts notation notes = flat_map (note_text notation) notes

abbrev pub notes_text : Notation → List (List ℕ) → List ℕ
notes_text Lines notes = note_texts Lines notes
notes_text Json notes = codes ",\"notes\":[" ++ (drop 1 (note_texts Json notes) ++ codes "]")

-- Those of a movie, with the records of its start state and of power-on.
abbrev pub notes_of : MovieData → List ℕ → List ℕ → List (List ℕ)
notes_of m start power = start_notes (board_of m.cartridge) start power ++ claim_notes (length m.inputs) (last_of m.checkpoints)
