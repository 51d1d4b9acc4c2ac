use Rattle.std.proofs.Common.{rules, ◌≡◌, refl, arith, vec_len}
use Rattle.replay_segments.specs.Pieces.{job_of}
use Rattle.verify_pool.proofs.WorkerPieceLemmas.{exact_start, left_le, left_pos}
use Rattle.verify_pool.proofs.worker.Shared.work.Goals as goal

pub returns-clause-few : goal.returns-clause-few
returns-clause-few g c = omega (arith, left_pos c.work_once.new.ticket.part c.work_once.ensures.known, c.work_once.ensures.left)

pub loop-init : goal.loop-init
loop-init g c = let hand = c.args.hand in let ready = c.requires.ready in let known = c.has_ended.ensures.known in record {
  own = ready.own;
  known = known;
  exact =
      exact_start (job_of c.args.self.now.movie.now c.args.self.now.cuts.now c.args.self.now.keep) hand.pieces.items hand.ticket.part ready.empty
      ready.none_drawn known;
  share = refl;
  left = let none : vec_len hand.pieces ≡ 0 = search rules in omega (arith, left_le hand.ticket.part.segments hand.ticket.part.last, ready.own.1);
  capacity = refl;
}
