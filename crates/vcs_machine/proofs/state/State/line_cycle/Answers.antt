use Rattle.vcs_machine.proofs.StateLemmas.{line_cycle-lt}
use Rattle.vcs_machine.proofs.state.State.line_cycle.Goals as goal

pub returns-clause-range : goal.returns-clause-range
returns-clause-range c = line_cycle-lt c.self.inside.fields c.self.invariant
