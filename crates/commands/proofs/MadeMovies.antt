-- The movie of a run from power-on, also with the state after its last frame.
use Rattle.std.proofs.Common.{◌≡◌, ◌≢◌, ℕ, suc, ◌+◌, ◌*◌, ◌/◌, ◌%◌, ◌<◌, ◌≤◌, Bool, true, false, eqb, List, [], ◌∷◌, ◌++◌, length}
use Rattle.std.proofs.Common.{Some, inl, inr, refl, ◌∙◌, arith, rules}
use Rattle.std.specs.Prelude.{slice_get, IsTrue}
use Rattle.std.specs.List.{AllByRecursion}
use Rattle.std.proofs.lemmas.Bool.{cases_Bool, cases_lt, eqb-false}
use Rattle.std.proofs.lemmas.List.{append-nil, length-append, take_all}
use Rattle.std.proofs.lemmas.List.Elements.{recursion_from_All}
use Rattle.std.proofs.lemmas.Nat.{mod-mul-add}
use Rattle.std.proofs.Math.Nat.{mul_comm}
use Rattle.movie_machine.specs.Carts.{IsCart}
use Rattle.movie_machine.specs.States.{state_at_power_on}
use Rattle.movie_machine.specs.declared.cart.Cart.{Cart}
use Rattle.movie_machine.specs.declared.state.State.{State}
use Rattle.vcs_machine.specs.Inputs.{InputData, is_input}
use Rattle.movie_file.specs.Format.{most_checkpoints}
use Rattle.movie_file.specs.Judgement.{AllSound, IsGenuine}
use Rattle.movie_file.specs.Making.{IsMadeOf, bare, counts_fit, version_made}
use Rattle.movie_file.specs.Movie.{MovieData, IsMovie, IsStateOf, AreCheckpoints}
use Rattle.movie_file.specs.Run.{run}
use Rattle.movie_file.specs.declared.checkpoint.Checkpoint.{Checkpoint}
use Rattle.movie_file.proofs.MakingRuns.{counts_are, each_more, made_movie, parts}
use Rattle.movie_file.proofs.RunLemmas.{run_same}
use Rattle.movie_hints.specs.Counts.{checkpoints_of}
use Rattle.replay_segments.proofs.CheckpointLemmas.{frame_in_range}
use Rattle.commands.specs.Make.{IsMadeMovie, do_claims_fit, is_last_claimed, last_claim}
use Rattle.commands.specs.Private.MadeRuns.{HasRun}

-- each frame is sound, if it ends and each checkpoint claims the state of the run
pub sound_of_run : (m : MovieData) (k : ℕ) → ((i : ℕ) → i < k → (s : State) × (run m m.start 0 (i + 1) ≡ Some s))
    → ((j : ℕ) (c : Checkpoint) → slice_get m.checkpoints j ≡ Some c → run m m.start 0 c.frame ≡ Some c.state) → AllSound m m.start 0 k
sound_of_run m k ends claimed i less =
    let here = ends i less in (
      here.0,
      here.1,
      λ j c at place.
          let frame : c.frame ≡ i + 1 = omega arith in
          let claim = rw frame at (claimed j c at) in
          let ran = here.1 in cc,
    )

-- one checkpoint more, after the last frame
last_stands : (cartridge : Cart) (last n : ℕ) (cs : List Checkpoint) (d : Checkpoint) → last < n → d.frame ≡ n → IsStateOf cartridge d.state
    → ((j : ℕ) (c : Checkpoint) → slice_get cs j ≡ Some c → c.frame < n) → AreCheckpoints cartridge last n cs → AreCheckpoints cartridge last n (cs ++ d ∷ [])
last_stands cartridge last n [] d later place lawful before stand = (omega arith, omega arith, lawful, tt)
last_stands cartridge last n (c ∷ cs) d later place lawful before stand =
    (stand.0, stand.1, stand.2, last_stands cartridge c.frame n cs d (before 0 c refl) place lawful (λ j x at. before (suc j) x at) stand.3)

-- a multiple up to a number that is none is below it
below_last : (every n j frame : ℕ) → 1 ≤ every → n % every ≢ 0 → frame ≡ every * (j + 1) → frame ≤ n → frame < n
below_last every n j frame some rest place le =
    elim (cases_lt frame n) [
      | inl less ↦ less
      | inr same ↦
          let is : n ≡ (j + 1) * every + 0 = omega (arith, place, mul_comm every (j + 1)) in
          absurd (rest (rw is (mod-mul-add (j + 1) every 0 some)))
    ]

fits_both : (n every : ℕ) (to_the_end : Bool) → IsTrue (do_claims_fit n every to_the_end)
    → IsTrue (counts_fit n every) × (checkpoints_of n every to_the_end ≤ most_checkpoints)
fits_both n every to_the_end h = (search rules, search rules)

-- the last claim is one checkpoint more
pub one_more : (n every : ℕ) (to_the_end : Bool) → is_last_claimed n every to_the_end ≡ true
    → (n % every ≢ 0) × (checkpoints_of n every to_the_end ≡ n / every + 1)
one_more n every false is = absurd cc
one_more n every true is =
    elim (cases_Bool (eqb (n % every) 0)) [
      | inl e ↦ let no : false ≡ true = rw e at is in absurd cc
      | inr e ↦ let rest : n % every ≢ 0 = eqb-false _ _ e in (rest, omega (arith, rest))
    ]

module _ (cartridge : Cart) (inputs : List InputData) (every : ℕ) (to_the_end : Bool) (cs : List Checkpoint) (last : State)
    (fits : IsTrue (do_claims_fit (length inputs) every to_the_end)) (ran : HasRun cartridge inputs every (length inputs) cs last)
    (first : IsStateOf cartridge (state_at_power_on cartridge))
    (state : is_last_claimed (length inputs) every to_the_end ≡ true → IsStateOf cartridge last)
    (lawful : IsCart cartridge) where
  abbrev n : ℕ
  n = length inputs

  abbrev d : Checkpoint
  d = record { frame = n; state = last }

  abbrev made : MovieData
  made = parts (version_made cartridge n) cartridge (state_at_power_on cartridge) inputs (cs ++ last_claim n every to_the_end last)

  abbrev old : MovieData
  old = record (bare cartridge inputs) { checkpoints = cs }

  same_run : (k : ℕ) → run made made.start 0 k ≡ run (bare cartridge inputs) (state_at_power_on cartridge) 0 k
  same_run k = run_same made (bare cartridge inputs) (state_at_power_on cartridge) 0 k refl refl

  all : AllByRecursion (λ i. IsTrue (is_input i)) inputs
  all = recursion_from_All (λ i. IsTrue (is_input i)) inputs (rw (take_all n inputs (omega arith)) at ran.inputs_are)

  before : IsMadeOf cartridge inputs every old × IsGenuine old × (IsCart cartridge → IsMovie old)
  before = made_movie cartridge inputs every cs (fits_both n every to_the_end fits).0 ran.sound ran.claims first all

  states : (j : ℕ) (c : Checkpoint) → slice_get cs j ≡ Some c → run (bare cartridge inputs) (state_at_power_on cartridge) 0 c.frame ≡ Some c.state
  states j c at = let none : 0 + c.frame ≡ c.frame = omega arith in rw none at (ran.claims.states j c at)

  all_states : (j : ℕ) (c : Checkpoint) → slice_get (cs ++ last_claim n every to_the_end last) j ≡ Some c
      → run (bare cartridge inputs) (state_at_power_on cartridge) 0 c.frame ≡ Some c.state
  all_states =
      elim (cases_Bool (is_last_claimed n every to_the_end)) [
        | inl e ↦
            rw e
            (each_more (λ (j : ℕ) (c : Checkpoint). run (bare cartridge inputs) (state_at_power_on cartridge) 0 c.frame ≡ Some c.state) cs d states ran.ran)
        | inr e ↦ rw (e, append-nil) states
      ]

  pub IsMadeMovie-parts : IsMadeMovie cartridge inputs every to_the_end made
  IsMadeMovie-parts = record { claims = cs; last = last; made = before.0; ran = same_run n ∙ ran.ran; checkpoints_are = refl }

  pub IsGenuine-parts : IsGenuine made
  IsGenuine-parts =
      sound_of_run made n (λ i less. let here = ran.sound i less in (here.0, same_run (i + 1) ∙ here.1))
      (λ j c at. same_run c.frame ∙ all_states j c at)

  pub IsMovie-parts : IsMovie made
  IsMovie-parts =
      let movie : IsMovie old = before.2 lawful in
      let fit = counts_are n every (fits_both n every to_the_end fits).0 in
      elim (cases_Bool (is_last_claimed n every to_the_end)) [
        | inl e ↦
            let more = one_more n every to_the_end e in
            let few = (fits_both n every to_the_end fits).1 in
            rw e (record {
              version = movie.version;
              rules = movie.rules;
              board = movie.board;
              cartridge = movie.cartridge;
              start = movie.start;
              some_frames = movie.some_frames;
              few_frames = movie.few_frames;
              few_checkpoints = omega (arith, length-append cs (d ∷ []), ran.claims.count, more.1, few);
              inputs = movie.inputs;
              checkpoints =
                  last_stands cartridge 0 n cs d fit.0 refl (state e)
                  (λ j c at. below_last every n j c.frame fit.2 more.0 (ran.claims.places j c at) (frame_in_range old movie j c at).1) movie.checkpoints;
            })
        | inr e ↦ rw (e, append-nil) movie
      ]
