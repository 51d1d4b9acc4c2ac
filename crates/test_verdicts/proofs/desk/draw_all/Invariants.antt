use Rattle.verify_pool.specs.Private.Draws.{left_of}
use Rattle.segment_desk.specs.Views.{IsOf}
use Rattle.test_verdicts.proofs.desk.draw_all.Given as goal

abbrev pub invariant-draws : goal.invariant-draws
invariant-draws l = IsOf l.desk l.ticket

abbrev pub decreases-draws : goal.decreases-draws
decreases-draws l = left_of l.ticket.part
