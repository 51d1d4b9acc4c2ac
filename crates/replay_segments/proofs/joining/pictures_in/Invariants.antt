use Rattle.std.proofs.Common.{◌≡◌, take, sum_by}
use Rattle.replay_segments.specs.Pieces.{PieceData, outcome_pictures}
use Rattle.replay_segments.proofs.joining.pictures_in.Given as goal

abbrev pub invariant-loop-piece : goal.invariant-loop-piece
invariant-loop-piece l = l.n ≡ sum_by (λ (p : PieceData). outcome_pictures p.outcome) (take l.piece-index l.pieces)
