use Rattle.vcs_machine.proofs.StateLaws.{frame_of-lawful}
use Rattle.vcs_machine.proofs.laws.law_of_lawful_states.Goals as goal

pub returns : goal.returns
returns c = frame_of-lawful
