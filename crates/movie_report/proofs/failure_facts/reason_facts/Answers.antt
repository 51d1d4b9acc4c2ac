use Rattle.std.proofs.Common.{◌≡◌, length}
use Rattle.movie_report.proofs.failure_facts.reason_facts.Goals as goal

pub returns : goal.returns
returns c =
    let from : c.from-from.result ≡ c.args.number = cc in
    let to : c.from-to.result ≡ length c.args.movie.now.checkpoints = cc in
    rw (c.deref.ensures, c.in_ok-sentence.ensures, from, to, c.requires.claims) at c.reason.ensures
