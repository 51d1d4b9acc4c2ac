-- What is written of the pictures of a run.
use Rattle.std.proofs.Common.{◌≡◌, ℕ, ◌+◌, ◌-◌, List, Option, Some, refl, sym, arith, inl, inr}
use Rattle.std.specs.Prelude.{slice_get}
use Rattle.std.proofs.lemmas.List.{append-nil}
use Rattle.std.specs.Io.KnownBytes.{Appends}
use Rattle.vcs_machine.specs.Inputs.{InputData}
use Rattle.movie_machine.specs.Outcomes.{Played, frame_of}
use Rattle.movie_machine.specs.declared.state.State.{State}
use Rattle.vcs_machine.specs.Pictures.{Rows}
use Rattle.movie_file.specs.Movie.{MovieData, IsMovie}
use Rattle.movie_file.specs.Run.{run}
use Rattle.picture_file.specs.PictureBytes.{picture_bytes, pictures_bytes}
use Rattle.picture_file.specs.Prefixes.{AppendsPrefix}
use Rattle.replay_segments.specs.KeptPictures.{picture_after}
use Rattle.run_cursor.specs.Cursor.{CursorData, IsAt}
use Rattle.commands.specs.Answers.{AnswerData}
use Rattle.commands.specs.Lines.{line_bytes, status_of}
use Rattle.commands.specs.declared.line.Line.{Line}
use Rattle.commands.specs.declared.line.Line.TheVariants as lines
use Rattle.commands.specs.Pictures.{AppendsPictures, drawn, Draws}
use Rattle.commands.specs.Private.Views.{picture_of_frame}
use Rattle.commands.specs.AskedFrames.{frames_asked, from_frames, pictures_after}
use Rattle.commands.proofs.RunFrames.{frames_flat}
use Rattle.commands.proofs.WrittenFrames.{asked_ends_or_faults}

-- the picture of the frame after which a cursor goes on
pub drawn_by : (m : MovieData) (k : ℕ) (c : CursorData) (input : InputData) (rows : Rows) (new : State) (cycles : ℕ) → IsAt m k c
    → slice_get m.inputs k ≡ Some input → frame_of m.cartridge c.state input ≡ Some (Played new rows cycles) → picture_bytes rows ≡ picture_of_frame m k
drawn_by m k c input rows new cycles at there ends = let none : 0 + k ≡ k = omega arith in rw (at.ran, there, ends) (sym (append-nil (picture_bytes rows)))

module _ (m : MovieData) (first count : ℕ) where
  -- the bytes of the first so many pictures
  abbrev first_bytes : ℕ → List ℕ
  first_bytes k = from_frames (picture_of_frame m) (first - 1) k

  pub pictures_are : (k : ℕ) → pictures_bytes (pictures_after m (first - 1) k) ≡ first_bytes k
  pictures_are k = frames_flat (λ x. picture_after m x (run m m.start 0 x)) (first - 1) picture_bytes k

  module _ (a b : Option (List ℕ)) where
    pub told : (line : Line) → Draws m first count (drawn m first count line) → Appends a b (first_bytes (frames_asked m first count))
        → (answer : AnswerData) × Draws m first count answer × (status_of line ≡ answer.status) × (line_bytes line ≡ answer.text)
        × Appends a b answer.file
    told line draws written = (drawn m first count line, draws, refl, refl, rw (pictures_are (frames_asked m first count)) written)

    -- whatever comes of the run, there is an answer
    pub told_in_part : IsMovie m → AppendsPrefix a b (first_bytes (frames_asked m first count))
        → (answer : AnswerData) × Draws m first count answer × AppendsPrefix a b answer.file
    told_in_part movie part =
        let bytes : AppendsPrefix a b (pictures_bytes (pictures_after m (first - 1) (frames_asked m first count))) =
        rw (pictures_are (frames_asked m first count)) part in
        elim (asked_ends_or_faults m movie first count) [
          | inl ends ↦ (drawn m first count (lines.Pictures (frames_asked m first count)), inl (ends, refl), bytes)
          | inr faults ↦ (drawn m first count (lines.Fault faults.0 faults.1), inr (faults.0, faults.1, faults.2, refl), bytes)
        ]

-- ---- all of them are some

all_pictures : (m : MovieData) (first count : ℕ) (answer : AnswerData) → Draws m first count answer
    → answer.file ≡ pictures_bytes (pictures_after m (first - 1) (frames_asked m first count))
all_pictures m first count answer (inl (ends, is)) = rw is refl
all_pictures m first count answer (inr (frame, kind, faults, is)) = rw is refl

pub all_are_some : (m : MovieData) (first count : ℕ) (answer : AnswerData) (a b : Option (List ℕ)) → Draws m first count answer
    → Appends a b answer.file → AppendsPictures m first count a b
all_are_some m first count answer a b draws written =
    (frames_asked m first count, omega arith, rw (all_pictures m first count answer draws) at written)
