use Rattle.vcs_machine.proofs.BankLaws.{frame_of-bank}
use Rattle.vcs_machine.proofs.laws.law_of_banks.Goals as goal

pub returns : goal.returns
returns c = frame_of-bank
