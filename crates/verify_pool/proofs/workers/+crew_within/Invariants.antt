use Rattle.std.proofs.Common.{vec_len}
use Rattle.verify_pool.proofs.workers.+crew_within.Given as goal

abbrev pub decreases-crew_within : goal.decreases-crew_within
decreases-crew_within g l = vec_len l.hands
