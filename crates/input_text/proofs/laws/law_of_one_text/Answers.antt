use Rattle.input_text.proofs.Printed.{one_text}
use Rattle.input_text.proofs.laws.law_of_one_text.Goals as goal

pub returns : goal.returns
returns c = one_text
