use Rattle.tia_chip.proofs.WordLemmas.{bits-placed}
use Rattle.tia_chip.proofs.bits.bits_at.Goals as goal

pub returns : goal.returns
returns c = λ k. bits-placed c.args.word c.args.place k
