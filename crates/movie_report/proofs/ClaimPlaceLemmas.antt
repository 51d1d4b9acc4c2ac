-- The first frame after which a run is in a state.
use Rattle.std.proofs.Common.{◌≡◌, ℕ, zero, suc, ◌+◌, ◌-◌, ◌<◌, length, find, cond, Option, Some, None, refl, arith}
use Rattle.std.specs.List.{range_with_len}
use Rattle.std.specs.Str.{bytes_eq}
use Rattle.vcs_machine.specs.declared.fault.FaultKind.{FaultKind}
use Rattle.movie_machine.specs.declared.state.State.{State}
use Rattle.movie_file.specs.Judgement.{FaultsAt}
use Rattle.movie_file.specs.Movie.{MovieData}
use Rattle.movie_file.specs.Record.{record_in}
use Rattle.movie_file.specs.Run.{run}
use Rattle.run_cursor.proofs.CursorLemmas.{none_after}
use Rattle.movie_report.specs.ClaimPlace.{is_state, first_frame_in}

-- The first of the frames after this one.
abbrev pub later_frame_in : MovieData → State → ℕ → Option ℕ
later_frame_in m state before =
    find (λ frame. is_state m.cartridge state (run m m.start 0 frame)) (range_with_len (before + 1) (length m.inputs - before))

-- All are after the start,
pub from_start : (m : MovieData) (state : State) → later_frame_in m state 0 ≡ first_frame_in m state
from_start m state = let whole : length m.inputs - 0 ≡ length m.inputs = omega arith in rw whole refl

-- and none after the last.
pub at_the_end : (m : MovieData) (state : State) → later_frame_in m state (length m.inputs) ≡ None
at_the_end m state = let none : length m.inputs - length m.inputs ≡ 0 = omega arith in rw none refl

-- It is the next frame, or one after that.
pub next_frame : (m : MovieData) (state found : State) (k : ℕ) → k < length m.inputs → run m m.start 0 (k + 1) ≡ Some found
    → later_frame_in m state k ≡ cond (bytes_eq (record_in m.cartridge state) (record_in m.cartridge found)) (Some (k + 1)) (later_frame_in m state (k + 1))
next_frame m state found k less ran =
    let more : length m.inputs - k ≡ suc (length m.inputs - (k + 1)) = omega (arith, less) in rw (more, ran) refl

-- A run that faults is in no state later.
pub none_later : (m : MovieData) (state : State) (k : ℕ) (kind : FaultKind) → FaultsAt m m.start 0 k kind → later_frame_in m state k ≡ None
none_later m state k kind fault = from (k + 1) (length m.inputs - k) (omega arith)
  where
    from : (first count : ℕ) → k < first → find (λ frame. is_state m.cartridge state (run m m.start 0 frame)) (range_with_len first count) ≡ None
    from first zero less = refl
    from first (suc count) less = rw (none_after m k first kind fault less) (from (first + 1) count (omega (arith, less)))

pub ruleset frame_by_frame = (from_start, at_the_end, next_frame)
