use Rattle.std.proofs.Common.{◌≡◌, ℕ, ◌<◌, IsTrue, Some, slice_get}
use Rattle.replay_segments.specs.Pieces.{PieceData, passed}
use Rattle.replay_segments.proofs.finding.find_passed.Given as goal

abbrev pub invariant-loop-i : goal.invariant-loop-i
invariant-loop-i l =
    (k : ℕ) (p : PieceData) → k < l.i → slice_get l.pieces k ≡ Some p → p.number ≡ l.number → IsTrue (passed p.outcome) → ⊥
