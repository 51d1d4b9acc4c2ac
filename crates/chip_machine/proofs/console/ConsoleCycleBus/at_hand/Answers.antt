use Rattle.chip_machine.proofs.AtHandLemmas.{both-at-hand}
use Rattle.chip_machine.proofs.console.ConsoleCycleBus.at_hand.Goals as goal

pub returns : goal.returns
returns g c = both-at-hand g.S.Paint.drawn c.args.self.now c.args.address c.two_at.result c.two_at.ensures
