-- What a terminal shows of work that takes long. This project's own.
use Rattle.std.specs.Prelude.{◌≡◌, ◌≤◌, ◌+◌, ℕ, List, ◌++◌, Option, Some, None, IfSome, IsSomeAnd}
use Rattle.std.specs.Prelude.{codes, min, option_map, replicate}
use Rattle.std.specs.Fmt.{decimal}
use Rattle.terminal_text.specs.declared.stage.Count.{Count}
use Rattle.terminal_text.specs.declared.stage.Notice.{Notice}
use Rattle.terminal_text.specs.declared.stage.Notice.TheVariants.{Done, Wiped}
use Rattle.terminal_text.specs.declared.stage.Stage.{Stage}
use Rattle.terminal_text.specs.declared.stage.Stage.TheVariants.{Begun}
use Rattle.terminal_text.specs.declared.stage.Unit.{Unit as CountedIn}
use Rattle.terminal_text.specs.declared.stage.Unit.TheVariants.{Frames, Segments}

-- What is counted, as a line names it.
abbrev pub unit_name : CountedIn → List ℕ
unit_name Segments = codes " segments"
unit_name Frames = codes " frames"

-- The text of a line that stands over the one before: it begins where that began. One is wiped by
-- as many spaces as the longest has characters, which is that of 262,143 frames, all done.
abbrev pub notice_text : Notice → List ℕ
notice_text (Done done all unit) =
    codes "\r" ++ (decimal done ++ (codes " of " ++ (decimal all ++ unit_name unit)))
notice_text Wiped = codes "\r" ++ (replicate 23 32 ++ codes "\r")

-- A line may be written: half a second has passed since the work began, and a fifth of one
-- since the last line. None is without a clock.
abbrev pub IsDue : Count → Option ℕ → Type 0
IsDue count None = ⊥
IsDue count (Some now) =
    IsSomeAnd count.begun (λ t. t + 500 ≤ now) × IfSome count.last (λ t. t + 200 ≤ now)

-- A work of so many segments or frames, as it begins.
abbrev pub begun_of : CountedIn → ℕ → Option ℕ → Stage
begun_of unit all now =
    Begun (record { unit = unit; all = all; done = 0; begun = now; last = None })

-- How many are done with one more, of as many as there are.
abbrev pub one_more : Count → ℕ
one_more count = min (count.done + 1) count.all

-- What is written when one more is done, and the count from then on.
abbrev pub IsCounted : Count → Option ℕ → Option Notice → Count → Type 0
IsCounted old now None new = (IsDue old now → ⊥) × (new ≡ record old { done = one_more old })
IsCounted old now (Some notice) new =
    IsDue old now × (notice ≡ Done (one_more old) old.all old.unit)
    × (new ≡ record old { done = one_more old; last = now })

-- The same of a work, which counts from its beginning to its end.
abbrev pub IsAdvanced : Stage → Option ℕ → Option Notice → Stage → Type 0
IsAdvanced (Begun count) now notice (Begun after) = IsCounted count now notice after
IsAdvanced (Begun count) now notice other = ⊥
IsAdvanced stage now notice after = (notice ≡ None) × (after ≡ stage)

-- What is written at its end: a line that was written is wiped.
abbrev pub last_notice : Stage → Option Notice
last_notice (Begun count) = option_map (λ _. Wiped) count.last
last_notice stage = None

-- The segments of a movie, and the frames, are so many at most.
abbrev pub most_of : CountedIn → ℕ
most_of Segments = 4096
most_of Frames = 262143

-- A work has no more of them than a movie can have.
abbrev pub IsOfOneMovie : Stage → Type 0
IsOfOneMovie (Begun count) = count.all ≤ most_of count.unit
IsOfOneMovie stage = Unit {0}
