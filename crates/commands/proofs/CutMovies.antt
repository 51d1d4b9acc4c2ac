-- The run of a cut, and that of its movie.
use Rattle.std.proofs.Common.{◌≡◌, ℕ, zero, suc, ◌+◌, ◌-◌, ◌<◌, ◌≤◌, List, length, Some, refl, sym, ◌∙◌, arith, add-zero, zero-add}
use Rattle.std.specs.Prelude.{slice_get}
use Rattle.std.proofs.lemmas.List.{take_all}
use Rattle.movie_file.specs.Judgement.{IsGenuine}
use Rattle.movie_file.specs.Movie.{MovieData, IsMovie}
use Rattle.movie_file.specs.Run.{run}
use Rattle.movie_file.specs.declared.checkpoint.Checkpoint.{Checkpoint}
use Rattle.movie_file.proofs.OneMaking.{same_claim, same_lists}
use Rattle.replay_segments.proofs.CheckpointLemmas.{frame_in_range}
use Rattle.replay_segments.proofs.RunStateLemmas.{claim_of_sound}
use Rattle.commands.specs.Cut.{ClaimsEvery, IsCutOf}
use Rattle.commands.proofs.RunSteps.{Ends-below, input_asked}

module _ (m c : MovieData) (first count every : ℕ) (cut : IsCutOf m first count every c) where
  input_is : (k : ℕ) → k < length c.inputs → slice_get c.inputs (0 + k) ≡ slice_get m.inputs (0 + (first - 1 + k))
  input_is k less =
      let fits = rw cut.inputs_are at less in
      rw (zero-add k, zero-add (first - 1 + k), cut.inputs_are) (input_asked m first count k fits)

  -- it is the run from its first frame on
  pub cut_run : (k : ℕ) → k ≤ length c.inputs → run c c.start 0 k ≡ run m m.start 0 (first - 1 + k)
  cut_run zero le = rw add-zero (sym cut.start)
  cut_run (suc k) le =
      let more : first - 1 + suc k ≡ suc (first - 1 + k) = omega arith in
      rw (more, input_is k (omega arith), cut.cartridge_is, cut_run k (omega arith)) refl

  -- it is sound
  pub genuine : IsGenuine c
  genuine i less =
      let here = Ends-below m (first - 1 + (i + 1)) (first - 1 + length c.inputs) (omega arith) cut.ends in (
        here.0,
        cut_run (i + 1) (omega arith) ∙ here.1,
        λ j k at place.
            let is : k.frame ≡ i + 1 = omega arith in
            let claimed = rw is at (cut.states j k at) in
            let ran = here.1 in cc,
      )

-- Checkpoints after the same frames, which claim the states of one run, are the same.
same_claims : (m : MovieData) (from : ℕ) (cs ds : List Checkpoint) → length cs ≡ length ds
    → ((j : ℕ) (k l : Checkpoint) → slice_get cs j ≡ Some k → slice_get ds j ≡ Some l
    → (k.frame ≡ l.frame) × (run m m.start 0 (from + k.frame) ≡ Some k.state) × (run m m.start 0 (from + l.frame) ≡ Some l.state))
    → cs ≡ ds
same_claims m from cs ds lengths each =
    same_lists cs ds lengths (λ j k l at here. let (place, one, two) = each j k l at here in same_claim k l place (sym one ∙ rw place two))

-- ---- one cut

same_movie : (c d : MovieData) → c.version ≡ d.version → c.cartridge ≡ d.cartridge → c.start ≡ d.start → c.inputs ≡ d.inputs → c.checkpoints ≡ d.checkpoints → c ≡ d
same_movie c d version cartridge start inputs checkpoints = grind arith

pub one_cut : (m c d : MovieData) (first count every : ℕ) → IsCutOf m first count every c → IsCutOf m first count every d → c ≡ d
one_cut m c d first count every cut again =
    same_movie c d (cc) (cc) (cc) (cc) (same_claims m (first - 1) c.checkpoints d.checkpoints (cc)
    (λ j k l at here. (cut.places j k at ∙ sym (again.places j l here), cut.states j k at, again.states j l here)))

-- ---- the old claims

pub old_claims : (m c : MovieData) (count every : ℕ) → IsMovie m → IsGenuine m → ClaimsEvery m every → length m.inputs ≤ count → IsCutOf m 1 count every c
    → c.checkpoints ≡ m.checkpoints
old_claims m c count every movie true old all cut =
    let inputs : c.inputs ≡ m.inputs = cut.inputs_are ∙ take_all count m.inputs all in
    same_claims m 0 c.checkpoints m.checkpoints (cc)
    (λ j k l at here. (
      cut.places j k at ∙ sym (old.places j l here),
      cut.states j k at,
      rw zero-add (claim_of_sound m (length m.inputs) j l movie true here (frame_in_range m movie j l here).1),
    ))
