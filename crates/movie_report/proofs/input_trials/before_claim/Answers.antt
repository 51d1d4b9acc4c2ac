use Rattle.std.proofs.Common.{arith}
use Rattle.movie_file.proofs.StateLemmas.{claim_of}
use Rattle.movie_report.proofs.InputTrialLemmas.{before_false}
use Rattle.movie_report.proofs.input_trials.before_claim.Goals as goal

pub at_claim-requires : goal.at_claim-requires
at_claim-requires c =
    let movie = c.frames.ensures.lawful in
    let before = before_false c.args.movie.now c.args.number c.args.last c.checkpoint-claim.result.now movie c.requires (omega arith) c.checkpoint-claim.ensures in
    record { within = before.2; ran = before.3; cartridge = claim_of _ movie _ _ c.checkpoint-claim.ensures }

pub returns-clause-at : goal.returns-clause-at
returns-clause-at c =
    let before = before_false c.args.movie.now c.args.number c.args.last c.checkpoint-claim.result.now c.frames.ensures.lawful c.requires (omega arith)
    c.checkpoint-claim.ensures in
    rw before.0 c.at_claim.ensures.at

pub returns-clause-before : goal.returns-clause-before
returns-clause-before c =
    let before = before_false c.args.movie.now c.args.number c.args.last c.checkpoint-claim.result.now c.frames.ensures.lawful c.requires (omega arith)
    c.checkpoint-claim.ensures in
    rw before.0 before.1
