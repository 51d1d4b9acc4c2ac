-- Where segments begin and end.
use Rattle.std.proofs.Common.{◌≡◌, ℕ, zero, suc, ◌+◌, ◌-◌, ◌<◌, ◌≤◌, List, length, Some}
use Rattle.std.proofs.Common.{true, max, slice_get, refl, arith, ◌∙◌, subst}
use Rattle.std.proofs.Common.{add-one}
use Rattle.std.proofs.lemmas.Bool.{cases_lt}
use Rattle.std.proofs.lemmas.Bool.Decides.{nat_tests}
use Rattle.std.proofs.lemmas.Option.{slice_get_past}
use Rattle.movie_file.specs.Movie.{MovieData, IsMovie}
use Rattle.movie_file.specs.declared.checkpoint.Checkpoint.{Checkpoint}
use Rattle.replay_plan.specs.declared.keep.Keep.{Keep}
use Rattle.replay_segments.specs.declared.verdict.Verdict.{Verdict}
use Rattle.replay_segments.specs.Cuts.{Fits}
use Rattle.replay_plan.specs.Keeping.{is_kept, kept_count}
use Rattle.replay_segments.specs.Pieces.{Job, HasKept}
use Rattle.replay_segments.specs.Segments.{end_of, from_of, start_of, IsSegment}
use Rattle.replay_segments.specs.NextCheckpoint.{IsNext}
use Rattle.replay_segments.specs.Verdicts.{IsJudged}
use Rattle.replay_segments.proofs.CheckpointLemmas.{frame_in_range, frames_rise, IsNext-after}
use Rattle.replay_segments.proofs.ListLemmas.{slice_get-below}

-- The i-th cut is at this checkpoint, of number n.
pub record AtCut (m : MovieData) (cuts : List ℕ) (i n : ℕ) (c : Checkpoint) : Type 0 where
  pub cut : slice_get cuts i ≡ Some n
  pub positive : 0 < n
  pub checkpoint : slice_get m.checkpoints (n - 1) ≡ Some c

-- A checkpoint is after a frame of its movie.
pub checkpoint_within : (m : MovieData) (j : ℕ) (c : Checkpoint) → IsMovie m → slice_get m.checkpoints j ≡ Some c → c.frame ≤ length m.inputs
checkpoint_within m j c movie at = (frame_in_range m movie j c at).1

-- The last segment ends with the movie.
pub end_of-last : (m : MovieData) (cuts : List ℕ) (i : ℕ) → length cuts ≤ i → end_of m cuts i ≡ length m.inputs
end_of-last m cuts i past = rw (slice_get_past cuts i past) refl

pub from_of-next : (m : MovieData) (cuts : List ℕ) (i : ℕ) → from_of m cuts (i + 1) ≡ end_of m cuts i
from_of-next m cuts i = rw add-one refl

module _ (m : MovieData) (cuts : List ℕ) (i n : ℕ) (c : Checkpoint) (at : AtCut m cuts i n c) where
  pub end_of-cut : end_of m cuts i ≡ c.frame
  end_of-cut = rw (at.cut, at.checkpoint) refl

  pub from_of-after : from_of m cuts (i + 1) ≡ c.frame
  from_of-after = from_of-next m cuts i ∙ end_of-cut

  pub start_of-after : start_of m cuts (i + 1) ≡ c.state
  start_of-after = rw (add-one i, at.cut, at.checkpoint) refl

  -- What is judged from a cut to the next is the segment.
  pub IsSegment-cut : (keep : Keep) (len : ℕ) (v : Verdict) → c.frame + len ≡ end_of m cuts (i + 1) → IsJudged m keep c.state c.frame len v
      → IsSegment m cuts keep (i + 1) v
  IsSegment-cut keep len v ends judged = (len, rw from_of-after ends, rw (from_of-after, start_of-after) judged)

module _ (m : MovieData) (cuts : List ℕ) (movie : IsMovie m) (fits : Fits cuts m) where
  -- A cut is the number of a checkpoint.
  pub at_cut : (i : ℕ) → i < length cuts → (n : ℕ) × (c : Checkpoint) × AtCut m cuts i n c
  at_cut i less =
      let cut = slice_get-below cuts i less in
      let range = fits.range i cut.0 cut.1 in
      let low : cut.0 - 1 < length m.checkpoints = omega (arith, range.0, range.1) in
      let claim = slice_get-below m.checkpoints (cut.0 - 1) low in
      (cut.0, claim.0, record { cut = cut.1; positive = range.0; checkpoint = claim.1 })

  pub end_of-within : (i : ℕ) → end_of m cuts i ≤ length m.inputs
  end_of-within i = grind (arith, cases_lt, at_cut, end_of-cut, checkpoint_within, end_of-last)

  -- A segment that ends at a cut has a frame.
  pub from_of-below : (i : ℕ) → i < length cuts → from_of m cuts i < end_of m cuts i
  from_of-below zero less =
      let (n, c, at) = at_cut 0 less in rw (end_of-cut m cuts 0 n c at) (frame_in_range m movie (n - 1) c at.checkpoint).0
  from_of-below (suc i) less =
      let (n, c, was) = at_cut i (omega arith) in
      let (n', c', at) = at_cut (suc i) less in
      let rises = fits.rising i (suc i) n n' (omega arith) was.cut at.cut in
      let later : n - 1 < n' - 1 = omega (arith, rises, was.positive) in
      rw (end_of-cut m cuts i n c was, end_of-cut m cuts (suc i) n' c' at) (frames_rise m movie (n - 1) (n' - 1) c c' later was.checkpoint at.checkpoint)

  from_of-le : (i : ℕ) → from_of m cuts i ≤ end_of m cuts i
  from_of-le i = grind (arith, cases_lt, from_of-below, end_of-last, end_of-within)

-- A replay from a cut to the end of the segment that begins there.
pub record IsStretch (m : MovieData) (cuts : List ℕ) (i n : ℕ) (c : Checkpoint) (end : ℕ) : Type 0 where
  pub at : AtCut m cuts i n c
  pub le : c.frame ≤ end
  pub ends : c.frame + (end - c.frame) ≡ end_of m cuts (i + 1)

pub IsStretch-found : (m : MovieData) (cuts : List ℕ) (i n : ℕ) (c : Checkpoint) (end : ℕ) → IsMovie m → Fits cuts m → slice_get cuts i ≡ Some n
    → slice_get m.checkpoints (n - 1) ≡ Some c
    → end ≡ end_of m cuts (i + 1) → IsStretch m cuts i n c end
IsStretch-found m cuts i n c end movie fits cut here is =
    let at : AtCut m cuts i n c = record { cut = cut; positive = (fits.range i n cut).0; checkpoint = here } in
    let le : c.frame ≤ end_of m cuts (i + 1) = rw (← from_of-after m cuts i n c at) (from_of-le m cuts movie fits (i + 1)) in
    record { at = at; le = omega (arith, le, is); ends = omega (arith, le, is) }

-- After the frame of a checkpoint its number is the index of the next one.
pub IsNext-cut : (m : MovieData) (n : ℕ) (c : Checkpoint) → IsMovie m → 0 < n → slice_get m.checkpoints (n - 1) ≡ Some c → IsNext m n (c.frame + 1)
IsNext-cut m n c movie positive here = subst (λ (k : ℕ). IsNext m k (c.frame + 1)) (omega arith) (IsNext-after m movie (n - 1) c here)

-- Where some are kept, one is.
kept-one : (keep : Keep) (from len : ℕ) → 0 < kept_count keep from len → (frame : ℕ) × (from < frame) × (frame ≤ from + len) × (is_kept keep frame ≡ true)
kept-one keep from len some = (max keep.first (from + 1), omega arith, omega arith, grind (arith, nat_tests))

pub HasKept-cut : (job : Job) (i n : ℕ) (c : Checkpoint) (len : ℕ) → AtCut job.movie job.cuts i n c → c.frame + len ≡ end_of job.movie job.cuts (i + 1)
    → 0 < kept_count job.keep c.frame len → HasKept job (i + 1)
HasKept-cut job i n c len at ends some = grind (arith, kept-one, from_of-after)
