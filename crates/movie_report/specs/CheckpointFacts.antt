-- The facts of a movie's checkpoints. This project's own.
use Rattle.std.specs.Prelude.{ℕ, ◌-◌, List, [], ◌∷◌, ◌++◌, length, codes, Option, Some, None}
use Rattle.std.specs.Prelude.{slice_get, fold}
use Rattle.std.proofs.Common.{max}
use Rattle.movie_file.specs.Movie.{MovieData}
use Rattle.movie_file.specs.declared.checkpoint.Checkpoint.{Checkpoint}
use Rattle.movie_report.specs.Notations.{number_fact}
use Rattle.replay_plan.specs.declared.notation.Notation.{Notation}

-- The gaps before checkpoints: how many frames each stands after the one before it, and the first
-- after frame `last`.
abbrev pub gaps_from : ℕ → List Checkpoint → List ℕ
gaps_from last [] = []
gaps_from last (c ∷ cs) = (c.frame - last) ∷ gaps_from c.frame cs

abbrev pub largest : List ℕ → ℕ
largest gaps = fold max 0 gaps

-- The frame of the last checkpoint, or the start.
abbrev pub last_frame : Option Checkpoint → ℕ
last_frame None = 0
last_frame (Some last) = last.frame

abbrev pub last_of : List Checkpoint → Option Checkpoint
last_of cs = slice_get cs (length cs - 1)

-- How many frames come after the last checkpoint.
abbrev pub rest_text : Notation → ℕ → List ℕ
rest_text notation frames =
    number_fact notation (codes "after_last_checkpoint") (codes "after the last checkpoint: ") frames (codes " frames")

-- Where the checkpoints stand, of which these are the first and the last.
abbrev pub places_text : Notation → ℕ → Option Checkpoint → Option Checkpoint → List ℕ → List ℕ
places_text notation frames (Some first) (Some last) gaps =
    number_fact notation (codes "first_checkpoint") (codes "first checkpoint: frame ") first.frame []
    ++ (number_fact notation (codes "last_checkpoint") (codes "last checkpoint: frame ") last.frame []
    ++ (number_fact notation (codes "largest_gap") (codes "largest gap: ") (largest gaps) (codes " frames") ++ rest_text notation (frames - last.frame)))
places_text notation frames first None gaps = rest_text notation frames
places_text notation frames None last gaps = rest_text notation frames

abbrev pub checkpoints_text : Notation → MovieData → List ℕ
checkpoints_text notation m =
    number_fact notation (codes "checkpoints") (codes "checkpoints: ") (length m.checkpoints) []
    ++ places_text notation (length m.inputs) (slice_get m.checkpoints 0) (last_of m.checkpoints) (gaps_from 0 m.checkpoints)
