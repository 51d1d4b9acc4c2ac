use Rattle.tia_chip.proofs.OtherPairs.{others-all, others-apart}
use Rattle.tia_chip.proofs.collision.other_pairs.Goals as goal

pub returns : goal.returns
returns c =
    rw (c.unless.ensures, c.unless-2.ensures, c.unless-3.ensures, c.unless-4.ensures, c.unless-5.ensures, c.unless-6.ensures)
    (record { all = others-all c.args.objects; apart = others-apart c.args.objects })
