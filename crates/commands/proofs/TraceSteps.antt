-- The instructions of a frame, one after another, and the lines of them.
use Rattle.std.proofs.Common.{◌≡◌, ℕ, zero, suc, ◌+◌, ◌-◌, ◌<◌, ◌≤◌, true, false, List}
use Rattle.std.proofs.Common.{◌++◌, Option, Some, None, refl, arith, zero-add, inl, inr}
use Rattle.std.proofs.lemmas.Bool.{cases_Bool, cases_lt}
use Rattle.std.proofs.lemmas.List.{append-nil}
use Rattle.std.proofs.lemmas.List.Concat.{flat_map-append, flat_map-cons}
use Rattle.std.specs.Prelude.{Result, Ok, Err}
use Rattle.std.specs.Io.KnownBytes.{Appends, Keeps}
use Rattle.mos_cpu.specs.declared.fault.CpuFault.{CpuFault}
use Rattle.vcs_machine.specs.Consoles.{frame_meaning_of}
use Rattle.vcs_machine.specs.Faults.{kind_of}
use Rattle.vcs_machine.specs.Inputs.{InputData}
use Rattle.vcs_machine.specs.declared.fault.FaultKind.{FaultKind}
use Rattle.vcs_machine.specs.declared.fault.FaultKind.TheVariants.{Overlong as TooLong}
use Rattle.movie_machine.specs.Instructions.{Underway, Guide, Chip, Stop, Ended, Overlong, Faulted, Reaches, StopsAfter}
use Rattle.movie_machine.specs.Instructions.{after, begun, cycles_of, executed_at}
use Rattle.movie_machine.specs.Instructions.{executed_in, has_ended, is_over, next_of}
use Rattle.movie_machine.proofs.StepLemmas.{next-later, short_of}
use Rattle.movie_machine.specs.declared.cart.Cart.{Cart}
use Rattle.movie_machine.specs.declared.cart.Cart.TheVariants.{Guide as GuideCart, Chip as ChipCart}
use Rattle.movie_machine.specs.declared.state.State.{State}
use Rattle.movie_machine.specs.declared.state.State.TheVariants.{Guide as GuideState, Chip as ChipState}
use Rattle.trace_text.specs.TraceLines.{trace_line}
use Rattle.picture_file.specs.Prefixes.{AppendsPrefix}
use Rattle.picture_file.proofs.BytesWritten.{appends_kept, appends_then}
use Rattle.picture_file.proofs.BytesWritten.{prefix_after}
use Rattle.commands.specs.Private.Tracing.{HasWritten, IsStop}
use Rattle.commands.specs.AskedFrames.{from_frames}
use Rattle.commands.specs.Trace.{instructions, lines_of}
use Rattle.commands.proofs.RunFrames.{frames_begin}

-- ---- whether it is over

-- A frame that has begun has no cycles yet, and not ended.
pub begun_fresh : (cart : Cart) (state : State) (input : InputData) (start : Underway) → begun cart state input ≡ Some start
    → (cycles_of start ≡ 0) × (has_ended start ≡ false)
begun_fresh (GuideCart bytes) (GuideState s) input start e = (cc, cc)
begun_fresh (ChipCart cartridge) (ChipState s) input start e = (cc, cc)
begun_fresh (GuideCart bytes) (ChipState s) input start e = absurd (cc)
begun_fresh (ChipCart cartridge) (GuideState s) input start e = absurd (cc)

-- One at its start is not over.
going_fresh : (here : Underway) → cycles_of here ≡ 0 → has_ended here ≡ false → is_over here ≡ false
unfolding frame_meaning_of
going_fresh (Guide bytes cycle m) fresh unended = rw (unended, fresh) refl
going_fresh (Chip cartridge m) fresh unended = rw (unended, fresh) refl

-- ---- the lines

module _ (start : Underway) where
  abbrev lines_at : ℕ → List ℕ
  lines_at k = lines_of (executed_in (after start k))

  lines_one : (here : Underway) (n : ℕ) → after start n ≡ Ok here → instructions start (suc n) ≡ instructions start n ++ trace_line (executed_at here)
  lines_one here n at = rw (flat_map-append trace_line, at, flat_map-cons trace_line, append-nil) refl

  -- they are those of one instruction after another
  lines_are : (n : ℕ) → instructions start n ≡ from_frames lines_at 0 n
  lines_are zero = refl
  lines_are (suc n) = rw (zero-add, flat_map-append trace_line, lines_are n) refl

  -- more instructions begin with those before them
  pub lines_begin : (n count : ℕ) → n ≤ count → (rest : List ℕ) × (instructions start count ≡ instructions start n ++ rest)
  lines_begin n count le =
      (from_frames lines_at (0 + n) (count - n), rw (lines_are count, lines_are n) (frames_begin lines_at 0 n count le))

-- ---- where it stops

reaches-suc : (start here next : Underway) (n : ℕ) → Reaches start n here → (0 < n → is_over here ≡ false) → next_of here ≡ Ok next
    → Reaches start (suc n) next
reaches-suc start here next n r going went = record { reached = rw r.reached went; least = least }
  where
    least : (k : ℕ) → k < suc n → 0 < k → (there : Underway) → after start k ≡ Ok there → is_over there ≡ false
    least k less some there at = elim (cases_lt k n) [
      | inl sooner ↦ r.least k sooner some there at
      | inr later ↦ (
          let now : k ≡ n = omega arith in
          let same : here ≡ there = (let reached = rw (← now) at r.reached in cc) in
          rw same at (going (omega arith))
          )
    ]

-- A frame that has come somewhere stops after so many instructions or more.
pub record StopsLater (start : Underway) (n : ℕ) : Type 0 where
  pub count : ℕ
  pub stop : Stop
  pub later : n ≤ count
  pub stops : StopsAfter start count stop

module _ (start : Underway) (fresh : cycles_of start ≡ 0) (unended : has_ended start ≡ false) where
  -- It is over after some instructions.
  over_after_some : (n : ℕ) (here : Underway) → Reaches start n here → is_over here ≡ true → 0 < n
  over_after_some zero here r over =
      let same : start ≡ here = (let reached = r.reached in cc) in
      let going = rw same at (going_fresh start fresh unended) in absurd (cc)
  over_after_some (suc n) here r over = omega arith

  stops_here : (n : ℕ) (here : Underway) → Reaches start n here → is_over here ≡ true → StopsLater start n
  stops_here n here r over = elim (cases_Bool (has_ended here)) [
    | inl ended ↦ record { count = n; stop = Ended here; later = omega arith; stops = (r, over_after_some n here r over, ended) }
    | inr going ↦ record { count = n; stop = Overlong; later = omega arith; stops = (here, r, over_after_some n here r over, going, over) }
  ]

  goes_on : (n : ℕ) (here : Underway) → Reaches start n here → is_over here ≡ false
      → ((next : Underway) → cycles_of here < cycles_of next → Reaches start (suc n) next → StopsLater start (suc n)) → StopsLater start n
  goes_on n here r going later = by (next_of here) refl
    where
      by : (next : Result Underway CpuFault) → next_of here ≡ next → StopsLater start n
      by (Err fault) e = record { count = n; stop = Faulted fault; later = omega arith; stops = (here, r, λ some. going, e) }
      by (Ok next) e =
          let stop = later next (next-later here next going e) (reaches-suc start here next n r (λ some. going) e) in
          let more = stop.later in
          record { count = stop.count; stop = stop.stop; later = omega arith; stops = stop.stops }

  by_tries : (tries n : ℕ) (here : Underway) → 77824 ≤ cycles_of here + tries → Reaches start n here → StopsLater start n
  by_tries zero n here enough r = elim (cases_Bool (is_over here)) [
    | inl over ↦ stops_here n here r over
    | inr going ↦ (let short = short_of here going in absurd (omega arith))
  ]
  by_tries (suc tries) n here enough r = elim (cases_Bool (is_over here)) [
    | inl over ↦ stops_here n here r over
    | inr going ↦ goes_on n here r going (λ next more reached. by_tries tries (suc n) next (omega arith) reached)
  ]

  pub stops_later : (n : ℕ) (here : Underway) → Reaches start n here → StopsLater start n
  stops_later n here r = by_tries 77824 n here (omega arith) r

-- It has come somewhere by then.
pub reached_at : (start : Underway) (count : ℕ) (stop : Stop) → StopsAfter start count stop → (here : Underway) × Reaches start count here
reached_at start count (Ended here) stops = (here, stops.0)
reached_at start count Overlong stops = (stops.0, stops.1)
reached_at start count (Faulted fault) stops = (stops.0, stops.1)

-- ---- what is written

module _ {start here : Underway} {a b : Option (List ℕ)} (w : HasWritten start a b here) where
  abbrev so_far : List ℕ
  so_far = instructions start w.count

  module _ (going : is_over here ≡ false) where
    -- One more instruction, whose line is written, or a part of it,
    module _ {next : Underway} (went : next_of here ≡ Ok next) where
      reached : Reaches start (suc w.count) next
      reached = reaches-suc start here next w.count w.reaches (λ some. going) went

      pub one_written : (c : Option (List ℕ)) → Appends b c (trace_line (executed_at here)) → HasWritten start a c next
      one_written c written = record {
        count = suc w.count;
        reaches = reached;
        written = rw (lines_one start here w.count w.reaches.reached) (appends_then a b c so_far _ w.written written);
      }

      pub part_written : (c : Option (List ℕ)) → AppendsPrefix b c (trace_line (executed_at here))
          → (count : ℕ) × (there : Underway) × Reaches start count there × AppendsPrefix a c (instructions start count)
      part_written c part =
          (suc w.count, next, reached, rw (lines_one start here w.count w.reaches.reached) (prefix_after a b c so_far _ w.written part))

    -- or a fault.
    pub faulted_here : (fault : CpuFault) (kind : FaultKind) (there : Underway) → kind ≡ kind_of fault → next_of here ≡ Err fault
        → (count : ℕ) × (stop : Stop) × StopsAfter start count stop × IsStop (Some kind) there stop
        × Appends a b (instructions start count)
    faulted_here fault kind there is fails = (w.count, Faulted fault, (here, w.reaches, λ some. going, fails), is, w.written)

  -- No line was written that does not belong to the frame.
  pub some_written : (c : Option (List ℕ)) → Keeps b c
      → (count : ℕ) × (there : Underway) × Reaches start count there × Appends a c (instructions start count)
  some_written c kept = (w.count, here, w.reaches, appends_kept a b c so_far w.written kept)

  -- The frame stops here, and not at its start.
  module _ (fresh : cycles_of start ≡ 0) (unended : has_ended start ≡ false) (over : is_over here ≡ true) where
    some : 0 < w.count
    some = over_after_some start fresh unended w.count here w.reaches over

    pub ended_here : has_ended here ≡ true
        → (count : ℕ) × (stop : Stop) × StopsAfter start count stop × IsStop None here stop × Appends a b (instructions start count)
    ended_here ended = (w.count, Ended here, (w.reaches, some, ended), refl, w.written)

    pub overlong_here : has_ended here ≡ false
        → (count : ℕ) × (stop : Stop) × StopsAfter start count stop × IsStop (Some TooLong) here stop × Appends a b (instructions start count)
    overlong_here going = (w.count, Overlong, (here, w.reaches, some, going, over), refl, w.written)
