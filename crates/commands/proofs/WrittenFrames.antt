-- What is written of the frames of a run, one after another.
use Rattle.std.proofs.Common.{◌≡◌, ◌≢◌, ℕ, ◌+◌, ◌-◌, ◌<◌, ◌≤◌, List, ◌++◌, Option, Result, Err, IsErrAnd, refl, arith, add-one, ◌⊎◌}
use Rattle.std.proofs.lemmas.Bool.Decides.{nat_tests}
use Rattle.std.proofs.lemmas.List.{append-nil}
use Rattle.std.proofs.lemmas.Result.{err_from_is_err_and}
use Rattle.std.specs.Io.KnownBytes.{Appends}
use Rattle.vcs_machine.specs.declared.fault.FaultKind.{FaultKind}
use Rattle.movie_file.specs.Judgement.{FaultsAt}
use Rattle.movie_file.specs.Movie.{MovieData, IsMovie}
use Rattle.picture_file.specs.Prefixes.{AppendsPrefix}
use Rattle.picture_file.proofs.BytesWritten.{appends_nothing, appends_then, prefix_after, prefix_longer}
use Rattle.run_cursor.specs.RunFaults.{FaultsWithin}
use Rattle.commands.specs.AskedFrames.{Ends, frames_asked, from_frames, last_asked}
use Rattle.commands.proofs.RunFrames.{EndsAtFault, frames_begin, frames_none}
use Rattle.commands.proofs.RunSteps.{ends_or_faults, faults_sooner, frames_asked-min}

-- ---- the last frame that is asked for

pub last_is : (m : MovieData) (first count got frames : ℕ) → got ≡ first → frames ≡ frames_asked m first count → frames ≢ 0
    → got - 1 + frames ≡ last_asked m first count
last_is m first count got frames first_is is some = grind (arith, nat_tests)

pub none_asked : (m : MovieData) (first count frames : ℕ) → frames ≡ frames_asked m first count → frames ≡ 0 → Ends m (last_asked m first count)
none_asked m first count frames is none = let zero_asked : frames_asked m first count ≡ 0 = omega arith in rw zero_asked (m.start, refl)

pub asked_ends_or_faults : (m : MovieData) → IsMovie m → (first count : ℕ)
    → Ends m (last_asked m first count) ⊎ ((frame : ℕ) × (kind : FaultKind) × FaultsWithin m (last_asked m first count) frame kind)
asked_ends_or_faults m movie first count = ends_or_faults m movie (last_asked m first count) (grind (arith, nat_tests, frames_asked-min m first count))

-- ---- one frame after another

module _ (text : ℕ → List ℕ) (from k : ℕ) (piece : List ℕ) (a b c : Option (List ℕ))
    (is : piece ≡ text (from + k)) (before : Appends a b (from_frames text from k)) where
  pub one_more : Appends b c piece → Appends a c (from_frames text from (k + 1))
  one_more written = rw (add-one, ← is) (appends_then a b c (from_frames text from k) piece before written)

  pub part_of_one : (len : ℕ) → k < len → AppendsPrefix b c piece → AppendsPrefix a c (from_frames text from len)
  part_of_one len less part =
      rw (frames_begin text from (k + 1) len (omega arith), add-one k, ← is)
      (prefix_longer a c (from_frames text from k ++ piece) _ (prefix_after a b c (from_frames text from k) piece before part))

-- Nothing is written of a frame that faults, nor of one after it: those before a fault are all.
module _ (m : MovieData) (text : ℕ → List ℕ) (ends : EndsAtFault m text) (from len : ℕ) where
  all_before : (k f : ℕ) (kind : FaultKind) (a b : Option (List ℕ)) → FaultsAt m m.start 0 f kind → f ≤ from + k → k ≤ len
      → Appends a b (from_frames text from k) → Appends a b (from_frames text from len)
  all_before k f kind a b fault le within written =
      rw (frames_begin text from k len within, frames_none text (from + k) (len - k) (λ x later. ends f kind fault x (omega arith)), append-nil) written

  -- what a writer has got where one faults
  pub faults_here : (k : ℕ) (kind : FaultKind) (a b : Option (List ℕ)) → k < len → FaultsAt m m.start 0 (from + k) kind
      → Appends a b (from_frames text from k) → FaultsWithin m (from + len) (from + k + 1) kind × Appends a b (from_frames text from len)
  faults_here k kind a b less fault written =
      ((from + k, omega arith, refl, fault), all_before k (from + k) kind a b fault (omega arith) (omega arith) written)

  -- a fault before the first one leaves none
  pub faults_before : (frame : ℕ) (kind : FaultKind) (a : Option (List ℕ)) → FaultsWithin m from frame kind
      → FaultsWithin m (from + len) frame kind × Appends a a (from_frames text from len)
  faults_before frame kind a (f, less, is, fault) = (
    faults_sooner m from (from + len) frame kind (omega arith) (f, less, is, fault),
    all_before 0 f kind a a fault (omega arith) (omega arith) (appends_nothing a),
  )

-- the error that a result hands on
pub the_error : {T E : Type 0} (r : Result T E) (error x : E) → IsErrAnd r (λ y. y ≡ error) → r ≡ Err x → error ≡ x
the_error r error x handed is = let p = err_from_is_err_and r handed in cc
