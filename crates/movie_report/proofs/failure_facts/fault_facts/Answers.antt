use Rattle.movie_report.proofs.FirstSignLemmas.{IsFirst-fault}
use Rattle.movie_report.proofs.failure_facts.fault_facts.Goals as goal

pub signs_of-requires-after_bounds : goal.signs_of-requires-after_bounds
signs_of-requires-after_bounds g c κs within =
    rw c.from-before.ensures
    (IsFirst-fault c.args.movie.now c.args.frame _ c.args.kind c.checkpoints_before.ensures.lawful c.requires c.checkpoints_before.ensures.next)
