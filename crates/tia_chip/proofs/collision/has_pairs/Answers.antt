use Rattle.std.proofs.Common.{bit_or}
use Rattle.std.proofs.lemmas.Bool.{eqb-true}
use Rattle.tia_chip.specs.Collision.{pairs_of}
use Rattle.tia_chip.proofs.OtherPairs.{has-rest}
use Rattle.tia_chip.proofs.collision.has_pairs.Goals as goal

pub returns : goal.returns
returns c = λ e.
    let others = c.other_pairs.result in
    has-rest c.args.collisions others (pairs_of c.args.objects) 32767 c.other_pairs.ensures.all c.other_pairs.ensures.apart (eqb-true (bit_or c.args.collisions others) 32767 e)
