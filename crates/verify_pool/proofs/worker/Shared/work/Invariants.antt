use Rattle.std.proofs.Common.{◌≡◌, ◌+◌, ◌≤◌, vec_len, vec_capacity}
use Rattle.replay_segments.specs.Pieces.{job_of}
use Rattle.verify_pool.specs.Private.Draws.{left_of}
use Rattle.verify_pool.specs.WorkerPieces.{IsExact}
use Rattle.segment_desk.specs.Kept.{IsKnown}
use Rattle.segment_desk.specs.Views.{IsOf}
use Rattle.verify_pool.proofs.worker.Shared.work.Given as goal

abbrev pub invariant-loop : goal.invariant-loop
invariant-loop g l = record {
  own : IsOf l.self.desk.now l.ticket;
  known : IsKnown l.ticket.part;
  exact : IsExact (job_of l.self.movie.now l.self.cuts.now l.self.keep) l.ticket.part l.pieces.items;
  share : l.ticket.part.share ≡ l.fn.hand.ticket.part.share;
  left : vec_len l.pieces + left_of l.ticket.part ≤ l.self.desk.now.segments + 1;
  capacity : vec_capacity l.pieces ≡ vec_capacity l.fn.hand.pieces;
}

abbrev pub decreases-loop : goal.decreases-loop
decreases-loop g l = left_of l.ticket.part
