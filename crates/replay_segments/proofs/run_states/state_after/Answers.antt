use Rattle.replay_segments.proofs.RunStateLemmas.{no_fault_within}
use Rattle.replay_segments.proofs.run_states.state_after.Goals as goal

pub unreachable-requires : goal.unreachable-requires
unreachable-requires g c = no_fault_within c.args.cursor.now.movie c.args.frame _ _ c.requires.ends (rw c.in-Err-Of.field-0-is at c.in-Err-Of.ensures.err).0
