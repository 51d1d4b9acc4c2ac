-- How far the one unbroken run of a movie goes.
use Rattle.std.proofs.Common.{◌≡◌, ℕ, zero, suc, ◌+◌, ◌-◌, ◌<◌, ◌≤◌, length, get_or, drop, Option, Some}
use Rattle.std.proofs.Common.{None, refl, sym, ap, ◌∙◌, arith, add-one, ◌⊎◌, inl, inr}
use Rattle.std.specs.Prelude.{slice_get, min}
use Rattle.std.proofs.lemmas.Bool.{false≢true}
use Rattle.std.proofs.lemmas.Option.{slice_get-get_or}
use Rattle.std.proofs.lemmas.List.{length-take, length-drop, get_or-take, get_or-drop}
use Rattle.vcs_machine.specs.Inputs.{InputData}
use Rattle.movie_machine.specs.Outcomes.{FrameOutcome, Played, Failed, frame_of}
use Rattle.movie_machine.specs.declared.state.State.{State}
use Rattle.vcs_machine.specs.declared.fault.FaultKind.{FaultKind}
use Rattle.movie_file.specs.Movie.{MovieData, IsMovie}
use Rattle.movie_file.specs.Run.{run}
use Rattle.movie_file.proofs.RunLemmas.{run-next, faults-here}
use Rattle.run_cursor.specs.RunFaults.{FaultsWithin}
use Rattle.run_cursor.proofs.CursorLemmas.{no_run}
use Rattle.run_cursor.proofs.RunStates.{frames_are, run_by}
use Rattle.commands.specs.AskedFrames.{Ends, inputs_asked, frames_asked}

-- it ends, or faults
pub faults_sooner : (m : MovieData) (n more frame : ℕ) (kind : FaultKind) → n ≤ more → FaultsWithin m n frame kind → FaultsWithin m more frame kind
faults_sooner m n more frame kind le (k, less, is, fault) = (k, omega arith, is, fault)

pub ends_or_faults : (m : MovieData) → IsMovie m → (n : ℕ) → n ≤ length m.inputs
    → Ends m n ⊎ ((frame : ℕ) × (kind : FaultKind) × FaultsWithin m n frame kind)
ends_or_faults m movie zero le = inl (m.start, refl)
ends_or_faults m movie (suc n) le = elim (ends_or_faults m movie n (omega arith)) [
  | inr faults ↦ inr (faults.0, faults.1, faults_sooner m n (suc n) faults.0 faults.1 (omega arith) faults.2)
  | inl ended ↦ play ended.0 ended.1 (frame_of m.cartridge ended.0 input) refl
]
  where
    input : InputData
    input = get_or m.inputs n (record { swcha = 0; swchb = 0; buttons = 0 })

    there : slice_get m.inputs n ≡ Some input
    there = slice_get-get_or m.inputs n _ (omega arith)

    play : (state : State) → run m m.start 0 n ≡ Some state → (outcome : Option FrameOutcome) → frame_of m.cartridge state input ≡ outcome
        → Ends m (suc n) ⊎ ((frame : ℕ) × (kind : FaultKind) × FaultsWithin m (suc n) frame kind)
    play state ran (Some (Played new rows cycles)) e = inl (new, rw add-one at (run-next m m.start 0 n n state input ran (omega arith) there new rows cycles e))
    play state ran (Some (Failed kind left)) e =
        inr (n + 1, kind, (n, omega arith, refl, faults-here m m.start 0 n n state input ran (omega arith) there kind left e))
    play state ran None e = absurd (false≢true (rw e at (frames_are m.cartridge state input (run_by m movie n state ran))))

-- what ended before
pub Ends-below : (m : MovieData) (k n : ℕ) → k ≤ n → Ends m n → Ends m k
Ends-below m k n le (last, ran) = by (run m m.start 0 k) refl
  where
    by : (o : Option State) → run m m.start 0 k ≡ o → Ends m k
    by (Some state) is = (state, is)
    by None is = absurd (let none = no_run m k n le is in cc)

-- ---- the frames that are asked for

pub frames_asked-min : (m : MovieData) (first count : ℕ) → frames_asked m first count ≡ min count (length m.inputs - (first - 1))
frames_asked-min m first count = length-take count (drop (first - 1) m.inputs) ∙ ap (λ (n : ℕ). min count n) (length-drop (first - 1) m.inputs)

-- an input that is asked for is that of the movie
pub input_asked : (m : MovieData) (first count k : ℕ) → k < frames_asked m first count
    → slice_get (inputs_asked m first count) k ≡ slice_get m.inputs (first - 1 + k)
input_asked m first count k less =
    let d : InputData = record { swcha = 0; swchb = 0; buttons = 0 } in
    let is = frames_asked-min m first count in
    slice_get-get_or (inputs_asked m first count) k d less
    ∙ ap (λ (x : InputData). Some x) (get_or-take count (drop (first - 1) m.inputs) k d (omega arith) ∙ get_or-drop (first - 1) m.inputs k d)
    ∙ sym (slice_get-get_or m.inputs (first - 1 + k) d (omega arith))
