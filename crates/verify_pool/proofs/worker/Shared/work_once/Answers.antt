use Rattle.std.proofs.Common.{ap, sym, subst, ◌∙◌, List}
use Rattle.replay_segments.specs.Pieces.{PieceData, job_of}
use Rattle.segment_desk.specs.Desk.{look_at}
use Rattle.verify_pool.specs.WorkerPieces.{IsExact}
use Rattle.verify_pool.proofs.WorkerPieceLemmas.{exact_over, exact_more, exact_end}
use Rattle.verify_pool.proofs.worker.Shared.work_once.Goals as goal

pub returns-then-least_bad-number-clause-exact : goal.returns-then-least_bad-number-clause-exact
returns-then-least_bad-number-clause-exact g c =
    let drawn = c.in-Some.ensures in let x = c.least_bad.result in
    exact_over (job_of c.args.self.now.movie.now c.args.self.now.cuts.now c.args.self.now.keep) c.args.pieces.now.items c.args.ticket.now.part
    c.in-Some.number c.requires.exact c.requires.known drawn.rising
    x c.least_bad.new.ticket.part c.if-least_bad-number.true (c.least_bad.ensures.event ∙ ap (look_at x) drawn.event.2)

pub returns-clause-exact : goal.returns-clause-exact
returns-clause-exact g c =
    let drawn = c.in-Some.ensures in let x = c.least_bad.result in let told = c.replay_drawn-piece.ensures in
    let job = job_of c.args.self.now.movie.now c.args.self.now.cuts.now c.args.self.now.keep in
    subst (λ (ps : List PieceData). IsExact job c.replay_drawn-piece.new.ticket.part ps) (sym c.push_reserved.ensures.items)
    (exact_more job c.args.pieces.now.items c.args.ticket.now.part c.in-Some.number c.requires.exact c.requires.known drawn.rising
    x c.least_bad.new.ticket.part c.replay_drawn-piece.new.ticket.part c.replay_drawn-piece.result c.if-least_bad-number.false
    (c.least_bad.ensures.event ∙ ap (look_at x) drawn.event.2) told.number told.job told.memory told.replayed)

pub returns-in_default-clause-exact : goal.returns-in_default-clause-exact
returns-in_default-clause-exact g c =
    exact_end (job_of c.args.self.now.movie.now c.args.self.now.cuts.now c.args.self.now.keep) c.args.pieces.now.items c.args.ticket.now.part
    c.draw.new.ticket.part c.in_default.ensures.event c.requires.exact
