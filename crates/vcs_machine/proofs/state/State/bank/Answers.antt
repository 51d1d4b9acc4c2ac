use Rattle.vcs_machine.proofs.StateLemmas.{parts_of}
use Rattle.vcs_machine.proofs.state.State.bank.Goals as goal

pub returns-clause-range : goal.returns-clause-range
returns-clause-range c = (parts_of c.self.inside.fields c.self.invariant).bank
