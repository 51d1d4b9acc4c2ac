-- The movie of a run from power-on that ends with its first fault.
use Rattle.std.proofs.Common.{◌≡◌, ℕ, zero, suc, ◌+◌, ◌-◌, ◌*◌, ◌/◌, ◌<◌, ◌≤◌, List, [], ◌∷◌, length, take, Some, refl, sym, ap, ◌∙◌, arith, zero-add}
use Rattle.std.specs.Prelude.{slice_get, IsTrue}
use Rattle.std.proofs.lemmas.List.{get_or-take, length-take-le}
use Rattle.std.proofs.lemmas.List.Elements.{recursion_from_All}
use Rattle.std.proofs.lemmas.Nat.{le-div}
use Rattle.std.proofs.lemmas.Option.{slice_get-get_or}
use Rattle.std.proofs.Math.Nat.{div-mul-le_self}
use Rattle.movie_machine.specs.Carts.{IsCart}
use Rattle.movie_machine.specs.States.{state_at_power_on}
use Rattle.movie_machine.specs.declared.cart.Cart.{Cart}
use Rattle.vcs_machine.specs.Inputs.{InputData, is_input}
use Rattle.vcs_machine.specs.declared.fault.FaultKind.{FaultKind}
use Rattle.movie_file.specs.Format.{most_checkpoints}
use Rattle.movie_file.specs.Judgement.{AllSound, FaultsAt}
use Rattle.movie_file.specs.Making.{IsFirstFault, bare, counts_fit, version_made}
use Rattle.movie_file.specs.Movie.{MovieData, IsMovie, IsStateOf, AreCheckpoints}
use Rattle.movie_file.specs.Run.{run}
use Rattle.movie_file.specs.declared.checkpoint.Checkpoint.{Checkpoint}
use Rattle.movie_file.proofs.MakingRuns.{Fits, board_is, counts_are, version_fits}
use Rattle.replay_plan.specs.declared.keep.Keep.{Keep}
use Rattle.replay_segments.specs.Verdicts.{IsVerdict}
use Rattle.replay_segments.specs.declared.verdict.Verdict.TheVariants.{Fault}
use Rattle.replay_segments.proofs.CheckpointLemmas.{frame_in_range}
use Rattle.commands.specs.Make.{IsMadeToTheFault}
use Rattle.commands.specs.Private.MadeRuns.{HasFault, movie_up_to}
use Rattle.commands.proofs.MadeMovies.{sound_of_run}

-- checkpoints at multiples of frames up to n rise
rising : (cartridge : Cart) (every n b last : ℕ) (cs : List Checkpoint) → 1 ≤ every → last ≤ every * b
    → ((j : ℕ) (c : Checkpoint) → slice_get cs j ≡ Some c → c.frame ≡ every * (b + j + 1))
    → ((j : ℕ) (c : Checkpoint) → slice_get cs j ≡ Some c → IsStateOf cartridge c.state) → every * (b + length cs) ≤ n → AreCheckpoints cartridge last n cs
rising cartridge every n b last [] some low places lawful fits = tt
rising cartridge every n b last (d ∷ cs) some low places lawful fits =
    let first : d.frame ≡ every * (b + 0 + 1) = places 0 d refl in
    let next = λ (j : ℕ) (c : Checkpoint) (e : slice_get cs j ≡ Some c). lawful (suc j) c e in
    let later = rising cartridge every n (b + 1) d.frame cs some (omega (arith, first)) (λ j c e. omega (arith, places (suc j) c e)) next (omega arith) in
    (omega arith, omega arith, lawful 0 d refl, later)

module _ (cartridge : Cart) (inputs : List InputData) (every frame : ℕ) (kind : FaultKind) (cs : List Checkpoint)
    (far : HasFault cartridge inputs every frame kind cs) where
  abbrev m : MovieData
  m = movie_up_to cartridge (state_at_power_on cartridge) inputs cs frame

  abbrev whole : MovieData
  whole = bare cartridge inputs

  long : length (take frame inputs) ≡ frame
  long = length-take-le frame inputs (omega (arith, far.frame_is, far.within))

  input_is : (i : ℕ) → i < frame → slice_get (take frame inputs) (0 + i) ≡ slice_get inputs (0 + i)
  input_is i less =
      let d : InputData = record { swcha = 0; swchb = 0; buttons = 0 } in
      rw zero-add
      (slice_get-get_or (take frame inputs) i d (omega (arith, long)) ∙ ap (λ (x : InputData). Some x) (get_or-take frame inputs i d less)
      ∙ sym (slice_get-get_or inputs i d (omega (arith, far.frame_is, far.within))))

  -- up to the frame that faults it is the run with all inputs
  same_run : (i : ℕ) → i ≤ frame → run m m.start 0 i ≡ run whole whole.start 0 i
  same_run zero le = refl
  same_run (suc i) le = rw (input_is i (omega arith), same_run i (omega arith)) refl

  few : IsTrue (counts_fit (length inputs) every) → length cs ≤ most_checkpoints
  few fits =
      let fit = counts_are (length inputs) every fits in
      let less = le-div (far.before / every) (length inputs) every fit.2 (omega (arith, div-mul-le_self far.before every, far.within)) in
      omega (arith, far.claims.count, fit.3, less)

  rise : IsTrue (counts_fit (length inputs) every) → AreCheckpoints cartridge 0 (length (take frame inputs)) cs
  rise fits =
      rising cartridge every (length (take frame inputs)) 0 0 cs (counts_are (length inputs) every fits).2 (omega arith)
      (λ j c e. omega (arith, far.claims.places j c e))
      far.claims.lawful
      (rw (far.claims.count, long, far.frame_is) (omega arith))

  pub IsMovie-to_the_fault : IsTrue (counts_fit (length inputs) every) → IsCart cartridge → IsStateOf cartridge (state_at_power_on cartridge)
      → IsMovie m
  IsMovie-to_the_fault fits lawful first =
      let fit = counts_are (length inputs) every fits in
      let within : frame ≤ length inputs = omega (arith, far.frame_is, far.within) in
      let made : Fits (version_made cartridge frame) cartridge frame = version_fits cartridge frame lawful (omega (arith, within, fit.1)) in
      record {
        version = made.version;
        rules = made.rules;
        board = board_is cartridge lawful;
        cartridge = made.takes;
        start = first;
        some_frames = omega (arith, long, far.frame_is);
        few_frames = rw long made.few;
        few_checkpoints = few fits;
        inputs = recursion_from_All (λ i. IsTrue (is_input i)) (take frame inputs) far.inputs_are;
        checkpoints = rise fits;
      }

  states : IsMovie m → (j : ℕ) (c : Checkpoint) → slice_get cs j ≡ Some c → run m m.start 0 c.frame ≡ Some c.state
  states movie j c at =
      let none : 0 + c.frame ≡ c.frame = omega arith in
      let within = (frame_in_range m movie j c at).1 in
      same_run c.frame (omega (arith, long, within)) ∙ rw none at (far.claims.states j c at)

  pub IsMadeToTheFault-parts : IsMovie m → IsMadeToTheFault cartridge inputs every frame m
  IsMadeToTheFault-parts movie =
      let before : frame - 1 ≡ far.before = omega (arith, far.frame_is) in
      record {
        version = refl;
        cartridge_is = refl;
        start = refl;
        inputs_are = refl;
        count = rw before far.claims.count;
        places = far.claims.places;
        states = states movie;
      }

  sound : IsMovie m → AllSound m m.start 0 far.before
  sound movie =
      sound_of_run m far.before
      (λ i less. let here = far.sound i less in (here.0, same_run (i + 1) (omega (arith, far.frame_is)) ∙ here.1))
      (states movie)

  faults : FaultsAt m m.start 0 far.before kind
  faults =
      let f = far.fault in (
        f.0,
        f.1,
        same_run far.before (omega (arith, far.frame_is)) ∙ f.2,
        rw (input_is far.before (omega (arith, far.frame_is))) f.3,
      )

  pub IsVerdict-to_the_fault : IsMovie m → (keep : Keep) → IsVerdict m keep (Fault frame kind)
  IsVerdict-to_the_fault movie keep = (far.before, omega (arith, long, far.frame_is), omega (arith, far.frame_is), sound movie, faults)

  pub is_first_fault : IsFirstFault cartridge inputs frame kind
  is_first_fault = (far.before, far.frame_is, far.sound, far.fault)
