use Rattle.input_text.proofs.ReadPrinted.{read_printed}
use Rattle.input_text.proofs.laws.law_of_printed_inputs.Goals as goal

pub returns : goal.returns
returns c = read_printed
