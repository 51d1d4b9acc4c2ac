-- Of a cartridge and inputs one movie is made, or one fault is found.
use Rattle.std.proofs.Common.{◌≡◌, ℕ, suc, ◌+◌, ◌<◌, List, [], ◌∷◌, length, Option, Some}
use Rattle.std.proofs.Common.{refl, sym, ap, ◌∙◌, arith}
use Rattle.std.specs.Prelude.{slice_get}
use Rattle.std.proofs.lemmas.Option.{slice_get_cases}
use Rattle.vcs_machine.specs.Inputs.{InputData}
use Rattle.movie_machine.specs.States.{state_at_power_on}
use Rattle.vcs_machine.specs.declared.fault.FaultKind.{FaultKind}
use Rattle.movie_machine.specs.declared.cart.Cart.{Cart}
use Rattle.movie_machine.specs.declared.state.State.{State}
use Rattle.movie_file.specs.declared.checkpoint.Checkpoint.{Checkpoint}
use Rattle.movie_file.specs.Judgement.{FaultsAt, IsGenuine}
use Rattle.movie_file.specs.Making.{bare, IsFirstFault, IsMadeOf}
use Rattle.movie_file.specs.Movie.{MovieData}
use Rattle.movie_file.specs.Run.{run}
use Rattle.movie_file.proofs.MakingRuns.{parts}
use Rattle.movie_file.proofs.RunLemmas.{run_same, run-fault, sound_no_fault, same_kind}

-- lists of one length whose elements are the same at each place
pub same_lists : (cs ds : List Checkpoint) → length cs ≡ length ds
    → ((j : ℕ) (c d : Checkpoint) → slice_get cs j ≡ Some c → slice_get ds j ≡ Some d → c ≡ d) → cs ≡ ds
same_lists [] [] e same = refl
same_lists [] (d ∷ ds) e same = absurd (omega arith)
same_lists (c ∷ cs) [] e same = absurd (omega arith)
same_lists (c ∷ cs) (d ∷ ds) e same =
    let first = same 0 c d refl refl in
    let others = same_lists cs ds (omega arith) (λ j x y at here. same (suc j) x y at here) in cc

abbrev pub found : State → Option State
found s = Some s

abbrev claim : ℕ → State → Checkpoint
claim frame state = record { frame = frame; state = state }

pub same_claim : (c d : Checkpoint) → c.frame ≡ d.frame → found c.state ≡ found d.state → c ≡ d
same_claim c d frames states =
    let same : c.state ≡ d.state = cc in
    ap (λ (f : ℕ). claim f c.state) frames ∙ ap (claim d.frame) same

-- a movie has each frame that faults
fault_within : (cartridge : Cart) (inputs : List InputData) (k : ℕ) (kind : FaultKind) → FaultsAt (bare cartridge inputs) (state_at_power_on cartridge) 0 k kind
    → k < length inputs
fault_within cartridge inputs k kind (state, left, ran, faults) = grind (arith, slice_get_cases)

-- a made movie's run is that of the movie that claims nothing
made_run : (cartridge : Cart) (inputs : List InputData) (every : ℕ) (m : MovieData) → IsMadeOf cartridge inputs every m → (k : ℕ)
    → run m m.start 0 k ≡ run (bare cartridge inputs) (state_at_power_on cartridge) 0 k
made_run cartridge inputs every m made k = rw made.start (run_same m (bare cartridge inputs) (state_at_power_on cartridge) 0 k made.cartridge_is made.inputs_are)

pub no_made_fault : (cartridge : Cart) (inputs : List InputData) (every frame : ℕ) (kind : FaultKind) (m : MovieData) → IsMadeOf cartridge inputs every m
    → IsGenuine m → IsFirstFault cartridge inputs frame kind → ⊥
no_made_fault cartridge inputs every frame kind m made genuine (k, is, before, fault) =
    let sound = genuine k (rw made.inputs_are (fault_within cartridge inputs k kind fault)) in
    let gone = run-fault (bare cartridge inputs) (state_at_power_on cartridge) 0 k kind fault in
    let same = made_run cartridge inputs every m made (k + 1) in
    let ran = sound.1 in absurd cc

pub one_made_movie : (cartridge : Cart) (inputs : List InputData) (every : ℕ) (m n : MovieData) → IsMadeOf cartridge inputs every m
    → IsMadeOf cartridge inputs every n → m ≡ n
one_made_movie cartridge inputs every m n made again =
    let same = same_lists m.checkpoints n.checkpoints (made.count ∙ sym again.count) (λ j c d at here.
    let frames : c.frame ≡ d.frame = made.places j c at ∙ sym (again.places j d here) in
    let one = rw frames at (sym (made_run cartridge inputs every m made c.frame) ∙ made.states j c at) in
    let two = sym (made_run cartridge inputs every n again d.frame) ∙ again.states j d here in
    same_claim c d frames (sym one ∙ two)) in
    same_movie _ _ _ _ _ _ _ _ _ _ (made.version ∙ sym again.version) (made.cartridge_is ∙ sym again.cartridge_is) (made.start ∙ sym again.start)
    (made.inputs_are ∙ sym again.inputs_are) same
  where
    same_movie : (v w : ℕ) (c d : Cart) (s t : State) (i j : List InputData) (k l : List Checkpoint) → v ≡ w → c ≡ d → s ≡ t → i ≡ j → k ≡ l
        → parts v c s i k ≡ parts w d t j l
    same_movie v w c d s t i j k l version cartridge start inputs checkpoints = cc

pub one_first_fault : (cartridge : Cart) (inputs : List InputData) (frame other : ℕ) (kind other_kind : FaultKind) → IsFirstFault cartridge inputs frame kind
    → IsFirstFault cartridge inputs other other_kind
    → (frame ≡ other) × (kind ≡ other_kind)
one_first_fault cartridge inputs frame other kind other_kind (k, is, before, fault) (k', is', before', fault') =
    let later = λ (less : k < k'). sound_no_fault (bare cartridge inputs) (state_at_power_on cartridge) 0 k kind (before' k less) fault in
    let sooner = λ (less : k' < k). sound_no_fault (bare cartridge inputs) (state_at_power_on cartridge) 0 k' other_kind (before k' less) fault' in
    let same : k' ≡ k = omega arith in
    (omega arith, same_kind (bare cartridge inputs) (state_at_power_on cartridge) 0 k kind other_kind fault (rw same at fault'))
