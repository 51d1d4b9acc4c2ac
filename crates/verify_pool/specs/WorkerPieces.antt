-- The pieces of a worker, beside what its ticket drew, passed over and reported. This project's
-- own.
use Rattle.std.specs.Prelude.{ℕ, ◌+◌, ◌≡◌, if◌then◌else◌, List, [], ◌∷◌, map, flat_map, All, Result, OnErr}
use Rattle.std.specs.declared.alloc.AllocError.{AllocError}
use Rattle.replay_segments.specs.declared.verdict.Verdict.{Verdict}
use Rattle.replay_segments.specs.Gathering.{NamesAll}
use Rattle.replay_segments.specs.Pieces.{PieceData, Job, passed, TakesMemory}
use Rattle.segment_desk.specs.declared.part.Part.{Part}
use Rattle.segment_desk.specs.Desk.{times}

-- The numbers of pieces.
abbrev pub piece_numbers : List PieceData → List ℕ
piece_numbers pieces = map (λ (p : PieceData). p.number) pieces

-- A number is bad unless its segment passed: refused memory is bad too.
abbrev pub if_bad : ℕ → Result Verdict AllocError → List ℕ
if_bad number outcome = if passed outcome then [] else number ∷ []

-- The numbers of the pieces that did not pass.
abbrev pub bad_numbers : List PieceData → List ℕ
bad_numbers pieces = flat_map (λ (p : PieceData). if_bad p.number p.outcome) pieces

-- Memory is refused to a piece only if a replay of its segment takes some.
abbrev pub WantsMemory : PieceData → Type 0
WantsMemory p = OnErr p.outcome (TakesMemory p.job p.number)

-- The pieces of one job, beside the part of the desk's history of the ticket that drew their
-- numbers.
pub record IsExact (job : Job) (v : Part) (pieces : List PieceData) : Type 0 where
  pub names : NamesAll job pieces
  -- One piece for each number that was drawn and not passed over, and no other.
  pub pieces_of : (k : ℕ) → times k (piece_numbers pieces) + times k v.passed_over ≡ times k v.drawn
  -- Such a number is reported exactly if its piece did not pass.
  pub reports_of : (k : ℕ) → times k (bad_numbers pieces) ≡ times k v.reported
  pub memory : All WantsMemory pieces
