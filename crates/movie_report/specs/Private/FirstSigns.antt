-- The signs that a verdict tells. This project's own.
use Rattle.std.specs.Prelude.{ℕ, ◌+◌, ◌-◌, ◌<◌, List, length, if◌then◌else◌}
use Rattle.movie_file.specs.Movie.{MovieData}
use Rattle.replay_segments.specs.Cuts.{Fits, IsEvery}
use Rattle.movie_report.specs.Segments.{HasSign, ends_with_checkpoint}
use Rattle.movie_report.specs.declared.segments.Sign.{Sign}
use Rattle.movie_report.specs.declared.segments.Sign.TheVariants.{Passes}

-- So many segments of a movie that is cut at every checkpoint pass, and the one after them, which has a frame, has this sign.
pub record IsFirstIn (m : MovieData) (cuts : List ℕ) (before : ℕ) (sign : Sign) : Type 0 where
  pub passed : (i : ℕ) → i < before → HasSign m cuts i Passes
  pub next : HasSign m cuts before sign
  pub within : before < length cuts + 1 - (if ends_with_checkpoint m then 1 else 0)

abbrev pub IsFirst : MovieData → ℕ → Sign → Type 0
IsFirst m before sign = (cuts : List ℕ) → Fits cuts m → IsEvery 1 (length m.checkpoints) cuts → IsFirstIn m cuts before sign
