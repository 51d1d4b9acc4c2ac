-- The signs of segments.
use Rattle.std.proofs.Common.{◌≡◌, ℕ, ◌+◌, ◌-◌, List, ◌∷◌, ◌++◌, length}
use Rattle.std.proofs.Common.{slice_get, take, drop, arith, length-append, length-drop, ap, zero, suc, replicate, subst, ◌<◌, ◌≤◌}
use Rattle.std.proofs.Common.{append-nil, ◌∙◌, sym, min}
use Rattle.std.specs.Prelude.{Ok, IfSome, if◌then◌else◌}
use Rattle.std.specs.List.{flat_map, range_with_len}
use Rattle.std.proofs.lemmas.List.{length-replicate, take_min}
use Rattle.std.proofs.lemmas.List.FromFn.{map-range_with_len_more}
use Rattle.std.proofs.lemmas.List.Folds.{flat_map-map}
use Rattle.std.proofs.lemmas.List.Concat.{flat_map-append}
use Rattle.movie_file.specs.Movie.{MovieData}
use Rattle.replay_plan.specs.declared.keep.Keep.{Keep}
use Rattle.replay_segments.specs.Pieces.{IsOutcome, IsPiece, PieceData, job_of}
use Rattle.replay_segments.specs.Segments.{IsSegment}
use Rattle.replay_segments.specs.declared.verdict.Verdict.{Verdict}
use Rattle.replay_segments.specs.Cuts.{Fits, IsEvery}
use Rattle.movie_report.specs.Private.FirstSigns.{IsFirst, IsFirstIn}
use Rattle.movie_report.specs.Segments.{AreSigns, HasSign, ends_with_checkpoint, sign_of}
use Rattle.movie_report.specs.declared.segments.Sign.{Sign}
use Rattle.movie_report.specs.declared.segments.Sign.TheVariants.{Passes}
use Rattle.movie_report.proofs.FirstSignLemmas.{signs_least}

-- A piece has the sign of its segment.
pub HasSign-piece : (m : MovieData) (cuts : List ℕ) (keep : Keep) (p : PieceData) (i : ℕ) (verdict : Verdict) (sign : Sign) → IsPiece p → p.number ≡ i
    → p.job ≡ job_of m cuts keep → p.outcome ≡ Ok verdict → sign ≡ sign_of verdict → HasSign m cuts i sign
HasSign-piece m cuts keep p i verdict sign is number job outcome same =
    let said : IsOutcome p.job p.number p.outcome = is.outcome in
    let judged : IsSegment m cuts keep i verdict = rw (outcome, number, job) at said in
    (keep, verdict, judged, same)

-- What holds of each of these signs and its place, if it holds of so many that pass, of the one after them, and of the others.
pub each_sign : (P : ℕ → Sign → Type 0) (before : ℕ) (sign : Sign) (later : List Sign) → ((i : ℕ) → i < before → P i Passes) → P before sign
    → ((i : ℕ) → IfSome (slice_get later i) (P (before + 1 + i))) → (i : ℕ)
    → IfSome (slice_get (replicate before Passes ++ (sign ∷ later)) i) (P i)
each_sign P zero sign later passed next each zero = next
each_sign P zero sign later passed next each (suc i) =
    let same : 0 + 1 + i ≡ suc i = omega arith in subst (λ (j : ℕ). IfSome (slice_get later i) (P j)) same (each i)
each_sign P (suc before) sign later passed next each zero = passed 0 (omega arith)
each_sign P (suc before) sign later passed next each (suc i) =
    each_sign (λ (j : ℕ) (s : Sign). P (suc j) s) before sign later (λ j less. passed (suc j) (omega arith)) next
    (λ j. let same : suc before + 1 + j ≡ suc (before + 1 + j) = omega arith in subst (λ (x : ℕ). IfSome (slice_get later j) (P x)) same (each j)) i

pub AreSigns-parts : (m : MovieData) (cuts : List ℕ) (before : ℕ) (sign : Sign) (later signs : List Sign) → (fits : Fits cuts m)
    → (every : IsEvery 1 (length m.checkpoints) cuts) → IsFirst m before sign
    → length later ≡ length cuts + 1 - (if ends_with_checkpoint m then 1 else 0) - (before + 1)
    → ((i : ℕ) → IfSome (slice_get later i) (HasSign m cuts (before + 1 + i))) → signs ≡ replicate before Passes ++ (sign ∷ later) → AreSigns m signs
AreSigns-parts m cuts before sign later signs fits every first count each is =
    let known : IsFirstIn m cuts before sign = first cuts fits every in
    let long : length signs ≡ before + (1 + length later) =
    rw is (omega (arith, length-append (replicate before Passes) (sign ∷ later), length-replicate before Passes)) in
    record {
      cuts = cuts;
      fit = fits;
      every = every;
      count = omega (arith, long, count, known.within);
      each = λ (i : ℕ). rw is (each_sign (λ (j : ℕ) (s : Sign). HasSign m cuts j s) before sign later known.passed known.next each i);
    }

pub AreSigns-least : (m : MovieData) (signs : List Sign) → AreSigns m signs → length m.checkpoints ≤ length signs
AreSigns-least m signs are = signs_least m are.cuts are.fit are.every (length signs) are.count

-- The signs of a line, of which the last one may have fewer than 64.
pub line_of_signs : (signs : List Sign) (from to : ℕ) → to ≡ min (length signs) (from + 64) → take (to - from) (drop from signs) ≡ take 64 (drop from signs)
line_of_signs signs from to end =
    let same : to - from ≡ min 64 (length (drop from signs)) = omega (arith, length-drop from signs) in rw same (take_min 64 (drop from signs))

-- One line more.
pub one_line_more : (f : ℕ → List ℕ) (k : ℕ) → flat_map f (range_with_len 0 (k + 1)) ≡ flat_map f (range_with_len 0 k) ++ f k
one_line_more f k =
    sym (flat_map-map f (λ (i : ℕ). i) (range_with_len 0 (k + 1)))
    ∙ ap (flat_map f) (map-range_with_len_more (λ (i : ℕ). i) 0 k k (omega arith)) ∙ simp (flat_map-append, flat_map-map, append-nil)

-- Signs, line by line.
pub ruleset signs_in_lines = (line_of_signs, one_line_more)
