-- A cursor goes on by one frame.
use Rattle.std.proofs.Common.{◌≡◌, ℕ, zero, suc, ◌+◌, ◌-◌, ◌<◌, ◌≤◌, length, Option, Some, None, refl, arith, add-zero}
use Rattle.std.specs.Prelude.{IsTrue, slice_get}
use Rattle.refused.specs.declared.Refused.{Refused}
use Rattle.refused.specs.declared.Refused.TheVariants.{NoMemory, Of}
use Rattle.vcs_machine.specs.Inputs.{InputData}
use Rattle.movie_machine.specs.Outcomes.{Failed, FailsAs, Left, Played, frame_of}
use Rattle.movie_machine.specs.States.{is_of}
use Rattle.movie_machine.specs.declared.cart.Cart.{Cart}
use Rattle.movie_machine.specs.declared.state.State.{State}
use Rattle.vcs_machine.specs.Pictures.{Rows}
use Rattle.vcs_machine.specs.declared.fault.FaultKind.{FaultKind}
use Rattle.movie_file.specs.Judgement.{FaultsAt}
use Rattle.movie_file.specs.Movie.{MovieData}
use Rattle.movie_file.specs.Run.{run}
use Rattle.movie_file.proofs.RunLemmas.{faults-here, run-fault, run-next}
use Rattle.run_cursor.specs.Cursor.{CursorData, IsAt}
use Rattle.run_cursor.specs.RunFaults.{FaultsWithin, FrameFails}

module _ (m : MovieData) (k : ℕ) (state left : State) (cartridge : Cart) (input : InputData) (at : IsAt m k (record { movie = m; frame = k; state = state }))
    (same : cartridge ≡ m.cartridge) (there : slice_get m.inputs (k + 1 - 1) ≡ Some input) where
  pub here : slice_get m.inputs k ≡ Some input
  here = let e : k + 1 - 1 ≡ k = omega arith in rw e at there

  -- it ends,
  pub one_further : k < length m.inputs → (rows : Rows) (cycles : ℕ) → frame_of cartridge state input ≡ Some (Played left rows cycles) → IsTrue (is_of cartridge left)
      → IsAt m (k + 1) (record { movie = m; frame = k + 1; state = left })
  one_further less rows cycles ends of = record {
    movie_is = refl;
    frame_is = refl;
    within = omega arith;
    few = at.few;
    ran = run-next m m.start 0 k k state input at.ran (omega arith) here left rows cycles (rw same at ends);
    cartridge = rw same at of;
  }

  -- or fails
  pub fault_here : (kind : FaultKind) (l : Option Left) → frame_of cartridge state input ≡ Some (Failed kind l) → FaultsAt m m.start 0 k kind
  fault_here kind l fails = faults-here m m.start 0 k k state input at.ran (omega arith) here kind l (rw same at fails)

  pub not_further : (error : Refused FaultKind) → FailsAs (frame_of cartridge state input) error left → FrameFails m k error
  not_further (Of kind) fails = fault_here kind fails.0 fails.1
  not_further NoMemory fails = tt

-- ---- after a fault there is no state

pub no_run : (m : MovieData) (k n : ℕ) → k ≤ n → run m m.start 0 k ≡ None → run m m.start 0 n ≡ None
no_run m k n le none = let whole : k + (n - k) ≡ n = omega arith in rw whole at (later (n - k))
  where
    later : (d : ℕ) → run m m.start 0 (k + d) ≡ None
    later zero = rw add-zero none
    later (suc d) = let more : k + suc d ≡ suc (k + d) = omega arith in rw (more, later d) refl

pub none_after : (m : MovieData) (f x : ℕ) (kind : FaultKind) → FaultsAt m m.start 0 f kind → f < x → run m m.start 0 x ≡ None
none_after m f x kind fault less = no_run m (f + 1) x (omega arith) (run-fault m m.start 0 f kind fault)

pub not_past : (m : MovieData) (k frame : ℕ) (kind : FaultKind) (c : CursorData) → IsAt m k c → FaultsWithin m k frame kind → ⊥
not_past m k frame kind c at (f, less, is, fault) = let ran = at.ran in let none = none_after m f k kind fault less in cc
