use Rattle.std.proofs.Common.{◌≡◌, sym, subst}
use Rattle.replay_segments.specs.Gathering.{IsFirstMissing}
use Rattle.replay_segments.specs.Pieces.{job_of}
use Rattle.verify_pool.specs.Crew.{IsWorked}
use Rattle.verify_pool.proofs.NoMissingPieces.{none_missing}
use Rattle.verify_pool.proofs.verification.verdict_of.Goals as goal

pub returns-in-Ok-gather-clause-verdict : goal.returns-in-Ok-gather-clause-verdict
returns-in-Ok-gather-clause-verdict g c =
    let verdict = rw c.in-Ok-gather.verdict-is at c.in-Ok-gather.ensures.verdict in
    verdict (job_of c.args.movie.now c.args.cuts.now c.args.keep) c.in-Ok-crew.ensures.worked.exact.names c.segments-segments.ensures.value

pub unreachable-requires : goal.unreachable-requires
unreachable-requires g c =
    let job = job_of c.args.movie.now c.args.cuts.now c.args.keep in let desk = c.in-Ok.desk in let hand = c.in-Ok-crew.hand in
    let worked : IsWorked desk job desk.workers hand = subst (λ n. IsWorked desk job n hand) c.in-Ok-hands_of.ensures.shares c.in-Ok-crew.ensures.worked in
    let missing : IsFirstMissing hand.pieces.items c.segments-segments.result c.in-Err-Of.field-0-0.segment =
    (c.in-Err-Of.ensures.missing c.in-Err-Of.field-0-0.segment).0 cc in
    let segments : desk.segments ≡ c.segments-segments.result = c.in-Ok.ensures.0 in
    none_missing desk job hand c.in-Err-Of.field-0-0.segment worked
    (subst (λ n. IsFirstMissing hand.pieces.items n c.in-Err-Of.field-0-0.segment) (sym segments) missing)
