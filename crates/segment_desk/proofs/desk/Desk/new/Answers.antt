use Rattle.std.proofs.Common.{arith}
use Rattle.segment_desk.proofs.StepLemmas.{opens_table}
use Rattle.segment_desk.proofs.desk.Desk.new.Goals as goal

pub of_words-requires : goal.of_words-requires
of_words-requires c = grind (arith, opens_table)
