-- What comes of the frames of a run, one after another.
use Rattle.std.proofs.Common.{◌≡◌, ℕ, zero, suc, ◌+◌, ◌-◌, ◌≤◌, List, [], ◌++◌, Option, Some, None, refl, arith, add-zero}
use Rattle.std.proofs.Common.{append_assoc, inl, inr}
use Rattle.std.specs.Prelude.{slice_get}
use Rattle.std.specs.List.{flat_map}
use Rattle.std.proofs.lemmas.Bool.{cases_lt}
use Rattle.std.proofs.lemmas.List.{append-nil}
use Rattle.std.proofs.lemmas.List.Concat.{flat_map-append}
use Rattle.vcs_machine.specs.Inputs.{InputData}
use Rattle.movie_machine.specs.Outcomes.{Failed, frame_of}
use Rattle.movie_machine.specs.declared.state.State.{State}
use Rattle.vcs_machine.specs.declared.fault.FaultKind.{FaultKind}
use Rattle.movie_file.specs.Judgement.{FaultsAt}
use Rattle.movie_file.specs.Movie.{MovieData}
use Rattle.movie_file.specs.Run.{run}
use Rattle.picture_file.specs.PictureBytes.{pictures_bytes}
use Rattle.replay_plan.specs.declared.notation.Notation.{Notation}
use Rattle.replay_plan.specs.declared.watches.Details.{Details}
use Rattle.replay_segments.specs.KeptPictures.{picture_after}
use Rattle.frame_text.specs.FrameLines.{frame_line, played_line}
use Rattle.commands.specs.Private.Views.{bytes_shown, picture_of_frame}
use Rattle.commands.specs.declared.asked_frames.View.{View}
use Rattle.commands.specs.declared.asked_frames.View.TheVariants.{Line, Picture}
use Rattle.commands.specs.AskedFrames.{from_frames}
use Rattle.run_cursor.proofs.CursorLemmas.{none_after}

module _ {X : Type 0} (what : ℕ → List X) (from : ℕ) where
  -- what comes of more frames begins with what comes of fewer
  frames_in_two : (k d : ℕ) → from_frames what from (k + d) ≡ from_frames what from k ++ from_frames what (from + k) d
  frames_in_two k zero = rw (add-zero, append-nil) refl
  frames_in_two k (suc d) =
      let more : k + suc d ≡ suc (k + d) = omega arith in
      let place : from + (k + d) ≡ from + k + d = omega arith in
      rw (more, frames_in_two k d, place) (append_assoc (from_frames what from k) _ _)

  pub frames_begin : (k len : ℕ) → k ≤ len → from_frames what from len ≡ from_frames what from k ++ from_frames what (from + k) (len - k)
  frames_begin k len le = let all : k + (len - k) ≡ len = omega arith in rw all at (frames_in_two k (len - k))

  -- of frames of which nothing comes nothing comes
  pub frames_none : (len : ℕ) → ((x : ℕ) → from ≤ x → what x ≡ []) → from_frames what from len ≡ []
  frames_none zero nothing = refl
  frames_none (suc len) nothing = rw (frames_none len nothing, nothing (from + len) (omega arith)) refl

  -- what comes of each thing that comes of frames
  pub frames_flat : {Y : Type 0} (f : X → List Y) (k : ℕ) → flat_map f (from_frames what from k) ≡ from_frames (λ x. flat_map f (what x)) from k
  frames_flat f zero = refl
  frames_flat f (suc k) = rw (flat_map-append, frames_flat f k) refl

-- Nothing comes of a frame that faults, nor of one after it.
abbrev pub EndsAtFault : MovieData → (ℕ → List ℕ) → Type 0
EndsAtFault m what = (f : ℕ) (kind : FaultKind) → FaultsAt m m.start 0 f kind → (x : ℕ) → f ≤ x → what x ≡ []

-- That is so where nothing comes of a state that isn't there.
none_from : (m : MovieData) (of : ℕ → Option State → List ℕ) → ((x : ℕ) → of x None ≡ [])
    → ((f : ℕ) (kind : FaultKind) → FaultsAt m m.start 0 f kind → of f (run m m.start 0 f) ≡ []) → EndsAtFault m (λ x. of x (run m m.start 0 x))
none_from m of none here f kind fault x le = elim (cases_lt f x) [
  | inl less ↦ rw (none_after m f x kind fault less) (none x)
  | inr ge ↦ (let same : f ≡ x = omega arith in rw same at (here f kind fault))
]

no_line : (m : MovieData) (notation : Notation) (details : Details) → EndsAtFault m (frame_line m notation details)
no_line m notation details = none_from m (λ x o. played_line m notation details (x + 1) o (slice_get m.inputs x)) (λ x. refl) here
  where
    here : (f : ℕ) (kind : FaultKind) → FaultsAt m m.start 0 f kind → frame_line m notation details f ≡ []
    here f kind (state, left, ran, fails) = rw ran (go (slice_get m.inputs f) refl)
      where
        go : (o : Option InputData) → slice_get m.inputs f ≡ o → played_line m notation details (f + 1) (Some state) o ≡ []
        go None e = refl
        go (Some input) e =
            let none : 0 + f ≡ f = omega arith in
            let failed : frame_of m.cartridge state input ≡ Some (Failed kind left) = rw (none, e) at fails in
            rw failed refl

no_picture : (m : MovieData) → EndsAtFault m (picture_of_frame m)
no_picture m = none_from m (λ x o. pictures_bytes (picture_after m x o)) (λ x. refl) here
  where
    here : (f : ℕ) (kind : FaultKind) → FaultsAt m m.start 0 f kind → picture_of_frame m f ≡ []
    here f kind (state, left, ran, fails) = let none : 0 + f ≡ f = omega arith in let at = rw none at fails in rw (ran, at) refl

pub nothing_shown : (m : MovieData) (view : View) → EndsAtFault m (bytes_shown m view)
nothing_shown m (Line notation details) = no_line m notation details.now
nothing_shown m Picture = no_picture m
