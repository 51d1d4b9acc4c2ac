-- The signs of claims.
use Rattle.std.proofs.Common.{◌≡◌, ℕ, zero, suc, ◌+◌, ◌-◌, ◌<◌, ◌≤◌, List, [], ◌∷◌, ◌++◌, length, map, drop, replicate, Option, Some, None, IfSome}
use Rattle.std.proofs.Common.{slice_get, refl, arith, true, append-nil, append_assoc}
use Rattle.std.proofs.Math.Seq.{drop-length}
use Rattle.std.proofs.lemmas.List.{length-map}
use Rattle.std.proofs.lemmas.Option.{slice_get_within}
use Rattle.std.proofs.lemmas.Slice.Eq.{bytes_eq-Decides}
use Rattle.std.specs.Str.{bytes_eq}
use Rattle.vcs_machine.specs.declared.fault.FaultKind.{FaultKind}
use Rattle.movie_file.specs.Movie.{MovieData, IsMovie}
use Rattle.movie_file.specs.Record.{record_in}
use Rattle.movie_file.specs.Run.{run}
use Rattle.movie_file.specs.declared.checkpoint.Checkpoint.{Checkpoint}
use Rattle.run_cursor.specs.Cursor.{CursorData}
use Rattle.run_cursor.specs.RunFaults.{FaultsWithin}
use Rattle.run_cursor.proofs.CursorLemmas.{none_after}
use Rattle.replay_segments.specs.Verdicts.{HasVerdict}
use Rattle.replay_segments.specs.declared.verdict.Verdict.TheVariants.{FalseCheckpoint}
use Rattle.replay_segments.proofs.CheckpointLemmas.{frames_rise}
use Rattle.replay_segments.proofs.RunStateLemmas.{claim_of_sound}
use Rattle.movie_report.specs.ClaimSigns.{claim_sign, claim_signs}
use Rattle.movie_report.specs.Private.Standing.{StandsBefore}
use Rattle.movie_report.specs.declared.segments.Sign.TheVariants.{Passes, Faults}
use Rattle.movie_report.proofs.ListLemmas.{drop_at}

-- Elements of which the first ones have the same value.
map_front : {A B : Type 0} (f : A → B) (b : B) (xs : List A) (n : ℕ) → n ≤ length xs → ((j : ℕ) (x : A) → j < n → slice_get xs j ≡ Some x → f x ≡ b)
    → map f xs ≡ replicate n b ++ map f (drop n xs)
map_front f b xs zero le each = refl
map_front f b [] (suc n) le each = absurd (omega arith)
map_front f b (x ∷ xs) (suc n) le each =
    rw (each 0 x (omega arith) refl, map_front f b xs n (omega arith) (λ j y less here. each (suc j) y (omega arith) here)) refl

-- The run is in a claim that it comes to.
passes : (m : MovieData) (c : Checkpoint) → run m m.start 0 c.frame ≡ Some c.state → claim_sign m c ≡ Passes
passes m c is =
    let mine = record_in m.cartridge c.state in
    let same : bytes_eq mine mine ≡ true = (bytes_eq-Decides mine mine).1 refl in
    rw (is, same) refl

-- Before the first false claim the run is in each.
pub claim_signs-parts : (m : MovieData) (number frame : ℕ) → IsMovie m → HasVerdict m (FalseCheckpoint number frame)
    → claim_signs m ≡ replicate (number - 1) Passes ++ map (claim_sign m) (drop (number - 1) m.checkpoints)
unfolding claim_signs
claim_signs-parts m number frame movie (keep, (k, less, at, sound, (state, j, c, ran, num, here, after, ne))) =
    let low = slice_get_within m.checkpoints j c here in
    map_front (claim_sign m) Passes m.checkpoints (number - 1) (omega (arith, num, low))
    (λ i d before claim.
    let rises = frames_rise m movie i j d c (omega (arith, num, before)) claim here in
    passes m d (claim_of_sound m k i d movie sound claim (omega (arith, rises, after))))

-- There is a sign for each claim.
pub length-claim_signs : (m : MovieData) → length (claim_signs m) ≡ length m.checkpoints
unfolding claim_signs
length-claim_signs m = length-map m.checkpoints (claim_sign m)

-- A run that faults before has no state there.
pub faults_before : (m : MovieData) (c : Checkpoint) (fault : ℕ) (kind : FaultKind) → FaultsWithin m c.frame fault kind → claim_sign m c ≡ Faults
faults_before m c fault kind (k, less, is, faults) = rw (none_after m k c.frame kind faults less) refl

-- A cursor that stands before a claim stands before the next one.
pub stands_next : (m : MovieData) (i : ℕ) (c : Checkpoint) (cursor : CursorData) → IsMovie m → slice_get m.checkpoints i ≡ Some c
    → StandsBefore m c.frame cursor → IfSome (slice_get m.checkpoints (i + 1)) (λ d. StandsBefore m d.frame cursor)
stands_next m i c cursor movie here (k, before, at) = by (slice_get m.checkpoints (i + 1)) refl
  where
    by : (next : Option Checkpoint) → slice_get m.checkpoints (i + 1) ≡ next → IfSome next (λ d. StandsBefore m d.frame cursor)
    by None e = tt
    by (Some d) e = let rises = frames_rise m movie i (i + 1) c d (omega arith) here e in (k, omega (arith, before, rises), at)

-- A cursor that stands before the next claim.
pub stands_at : (m : MovieData) (i : ℕ) (c : Checkpoint) (cursor : CursorData) → IfSome (slice_get m.checkpoints i) (λ d. StandsBefore m d.frame cursor)
    → slice_get m.checkpoints (i + 1 - 1) ≡ Some c → StandsBefore m c.frame cursor
stands_at m i c cursor stands here =
    let same : i + 1 - 1 ≡ i = omega arith in
    let at : slice_get m.checkpoints i ≡ Some c = rw same at here in rw at at stands

-- Claim by claim.
pub ruleset claim_by_claim = (drop_at, drop-length, append-nil, append_assoc)
