-- Which segments of a movie, cut at every checkpoint, reach the claim at their end. This project's
-- own.
use Rattle.std.specs.Prelude.{◌≡◌, ℕ, ◌+◌, ◌-◌, ◌*◌, ◌/◌, Bool, ◌==◌, List, [], ◌∷◌, ◌++◌, length}
use Rattle.std.specs.Prelude.{codes, map}
use Rattle.std.specs.Prelude.{IfSome, slice_get, take, drop, if◌then◌else◌}
use Rattle.std.specs.List.{flat_map, range_with_len}
use Rattle.movie_file.specs.Movie.{MovieData}
use Rattle.replay_plan.specs.declared.keep.Keep.{Keep}
use Rattle.replay_segments.specs.Cuts.{Fits, IsEvery}
use Rattle.replay_segments.specs.Segments.{IsSegment}
use Rattle.replay_segments.specs.declared.verdict.Verdict.{Verdict}
use Rattle.replay_segments.specs.declared.verdict.Verdict.TheVariants.{Genuine, FalseCheckpoint}
use Rattle.replay_segments.specs.declared.verdict.Verdict.TheVariants.{Fault}
use Rattle.movie_report.specs.CheckpointFacts.{last_frame, last_of}
use Rattle.replay_plan.specs.declared.notation.Notation.{Notation}
use Rattle.replay_plan.specs.declared.notation.Notation.TheVariants.{Lines, Json}
use Rattle.movie_report.specs.declared.segments.Sign.{Sign}
use Rattle.movie_report.specs.declared.segments.Sign.TheVariants.{Passes, Differs, Faults}

-- A segment passes, claims another state at its end than it reaches, or has a frame that faults.
abbrev pub sign_of : Verdict → Sign
sign_of (Genuine kept) = Passes
sign_of (FalseCheckpoint number frame) = Differs
sign_of (Fault frame kind) = Faults

abbrev pub character_of : Sign → ℕ
character_of Passes = 46
character_of Differs = 88
character_of Faults = 70

-- The sign of a segment, counted from 0, of a movie with these cuts: by its verdict from the state
-- that its first cut claims.
abbrev pub HasSign : MovieData → List ℕ → ℕ → Sign → Type 0
HasSign m cuts i sign = (keep : Keep) × (verdict : Verdict) × IsSegment m cuts keep i verdict × (sign ≡ sign_of verdict)

-- A checkpoint stands after the movie's last frame, so that the last segment has none.
abbrev pub ends_with_checkpoint : MovieData → Bool
ends_with_checkpoint m = last_frame (last_of m.checkpoints) == length m.inputs

-- The signs of the segments that have a frame, in order, if the movie is cut at every checkpoint.
pub record AreSigns (m : MovieData) (signs : List Sign) : Type 0 where
  pub cuts : List ℕ
  pub fit : Fits cuts m
  pub every : IsEvery 1 (length m.checkpoints) cuts
  pub count : length signs ≡ length cuts + 1 - (if ends_with_checkpoint m then 1 else 0)
  pub each : (i : ℕ) → IfSome (slice_get signs i) (HasSign m cuts i)

-- Line k of signs that have this name, of which each has 64 but for the last.
abbrev pub signs_line : List ℕ → List Sign → ℕ → List ℕ
signs_line name signs k = name ++ (codes ": " ++ (map character_of (take 64 (drop (64 * k) signs)) ++ 10 ∷ []))

abbrev pub signs_text : Notation → List ℕ → List Sign → List ℕ
signs_text Lines name signs = flat_map (signs_line name signs) (range_with_len 0 ((length signs + 63) / 64))
signs_text Json name signs = codes ",\"" ++ (name ++ (codes "\":\"" ++ (map character_of signs ++ codes "\"")))
