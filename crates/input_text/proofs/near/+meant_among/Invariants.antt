use Rattle.std.proofs.Common.{length}
use Rattle.input_text.proofs.near.+meant_among.Given as goal

abbrev pub decreases-meant_among : goal.decreases-meant_among
decreases-meant_among l = length l.names.now
