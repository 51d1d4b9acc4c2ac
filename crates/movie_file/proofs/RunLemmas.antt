-- A run goes on from where it stands, and a frame is sound, faults or has a false checkpoint, and
-- no two of these.
use Rattle.std.proofs.Common.{◌≡◌, ℕ, zero, suc, ◌+◌, ◌-◌, ◌<◌, length, Option, Some, None}
use Rattle.std.proofs.Common.{refl, sym, ap, ◌∙◌, arith, add-one, add-zero, inl, inr}
use Rattle.std.proofs.lemmas.Bool.{cases_lt}
use Rattle.std.specs.Prelude.{slice_get}
use Rattle.vcs_machine.specs.Inputs.{InputData}
use Rattle.movie_machine.specs.Outcomes.{FrameOutcome, Failed, Left, Played, frame_of}
use Rattle.movie_machine.specs.declared.state.State.{State}
use Rattle.vcs_machine.specs.Pictures.{Rows}
use Rattle.vcs_machine.specs.declared.fault.FaultKind.{FaultKind}
use Rattle.movie_file.specs.Movie.{MovieData, IsMovie}
use Rattle.movie_file.specs.Run.{frame_after, run}
use Rattle.movie_file.specs.Judgement.{IsSound, AllSound, FaultsAt, IsFalseAt}
use Rattle.movie_file.proofs.CheckpointLemmas.{checkpoints_rise}

-- a run knows nothing of the version and of the checkpoints
pub run_same : (m n : MovieData) (s : State) (from k : ℕ) → m.cartridge ≡ n.cartridge → m.inputs ≡ n.inputs → run m s from k ≡ run n s from k
run_same m n s from zero cartridge inputs = refl
run_same m n s from (suc k) cartridge inputs = rw (run_same m n s from k cartridge inputs, cartridge, inputs) refl

-- from where a run stands it goes on as a run of its own
pub run-shift : (m : MovieData) (s : State) (a i : ℕ) (t : State) → run m s a i ≡ Some t → (j : ℕ) → run m s a (i + j) ≡ run m t (a + i) j
run-shift m s a i t is zero = rw add-zero is
run-shift m s a i t is (suc j) =
    let at : a + (i + j) ≡ a + i + j = omega arith in
    let more : i + suc j ≡ suc (i + j) = omega arith in
    rw (more, at, run-shift m s a i t is j) refl

pub IsSound-shift : (m : MovieData) (s : State) (a i : ℕ) (t : State) (k : ℕ) → run m s a i ≡ Some t → IsSound m t (a + i) k → IsSound m s a (i + k)
IsSound-shift m s a i t k is sound =
    let more : i + k + 1 ≡ i + (k + 1) = omega arith in
    (sound.0, rw (more, run-shift m s a i t is (k + 1)) sound.1, λ j c at here. sound.2 j c at (omega arith))

-- two stretches of sound frames, of which the second begins where the first ends, are one
pub AllSound-shift : (m : MovieData) (s : State) (a i : ℕ) (t : State) (j : ℕ) → run m s a i ≡ Some t → AllSound m s a i
    → AllSound m t (a + i) j → AllSound m s a (i + j)
AllSound-shift m s a i t j is first second x less =
    elim (cases_lt x i) [
      | inl low ↦ first x low
      | inr high ↦
          let same : i + (x - i) ≡ x = omega arith in rw (← same) (IsSound-shift m s a i t (x - i) is (second (x - i) (omega arith)))
    ]

-- ---- one frame more: frame a + k + 1, whose input is the one at index n
module _ (m : MovieData) (s : State) (a k n : ℕ) (state : State) (input : InputData)
    (ran : run m s a k ≡ Some state) (place : n ≡ a + k) (at : slice_get m.inputs n ≡ Some input) where
  frame_is : (outcome : FrameOutcome) → frame_of m.cartridge state input ≡ Some outcome → frame_after m (a + k) state ≡ Some outcome
  frame_is outcome e = rw (sym place, at, e) refl

  pub run-next : (new : State) (rows : Rows) (cycles : ℕ) → frame_of m.cartridge state input ≡ Some (Played new rows cycles) → run m s a (k + 1) ≡ Some new
  run-next new rows cycles ends = rw (add-one, ran, frame_is (Played new rows cycles) ends) refl

  pub faults-here : (kind : FaultKind) (left : Option Left) → frame_of m.cartridge state input ≡ Some (Failed kind left) → FaultsAt m s a k kind
  faults-here kind left fails = (state, left, ran, frame_is (Failed kind left) fails)

-- after a fault there is no state
pub run-fault : (m : MovieData) (s : State) (a k : ℕ) (kind : FaultKind) → FaultsAt m s a k kind → run m s a (k + 1) ≡ None
run-fault m s a k kind (state, left, ran, faults) = rw (add-one k, ran, faults) refl

pub sound_no_fault : (m : MovieData) (s : State) (a k : ℕ) (kind : FaultKind) → IsSound m s a k → FaultsAt m s a k kind → ⊥
sound_no_fault m s a k kind sound faults = let one = sound.1 in let two = run-fault m s a k kind faults in cc

pub false_no_fault : (m : MovieData) (s : State) (a k n : ℕ) (kind : FaultKind) → IsFalseAt m s a k n → FaultsAt m s a k kind → ⊥
false_no_fault m s a k n kind (state, j, c, ran, num, got, at, ne) faults = let two = run-fault m s a k kind faults in cc

pub sound_no_false : (m : MovieData) (s : State) (a k n : ℕ) → IsSound m s a k → IsFalseAt m s a k n → ⊥
sound_no_false m s a k n (here, ran', claims) (state, j, c, ran, num, got, at, ne) =
    let same : here ≡ state = cc in ne (claims j c got at ∙ same)

-- a frame has one false checkpoint, and one fault
pub same_number : (m : MovieData) (s : State) (a k n n' : ℕ) → IsMovie m → IsFalseAt m s a k n → IsFalseAt m s a k n' → n ≡ n'
same_number m s a k n n' lawful (state, j, c, ran, num, got, at, ne) (state', j', c', ran', num', got', at', ne') =
    let rise = checkpoints_rise m.cartridge m.checkpoints 0 (length m.inputs) in
    let later : ¬ (j < j') = λ less. let h = rise j j' c c' lawful.checkpoints less got got' in omega arith in
    let sooner : ¬ (j' < j) = λ less. let h = rise j' j c' c lawful.checkpoints less got' got in omega arith in
    omega arith

pub same_kind : (m : MovieData) (s : State) (a k : ℕ) (kind kind' : FaultKind) → FaultsAt m s a k kind → FaultsAt m s a k kind' → kind ≡ kind'
same_kind m s a k kind kind' (state, left, ran, faults) (state', left', ran', faults') =
    let same : state ≡ state' = cc in let outcomes = ap (frame_after m (a + k)) same in cc
