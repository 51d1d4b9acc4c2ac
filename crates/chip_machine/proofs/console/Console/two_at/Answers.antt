use Rattle.chip_machine.proofs.AtHandLemmas.{pair-at-hand}
use Rattle.chip_machine.proofs.console.Console.two_at.Goals as goal

pub returns : goal.returns
returns g c =
    rw (← c.self.view_is)
    (pair-at-hand _ c.args.address c.rom_pair_at.result (c.self.invariant.1.no_stop c.if-self.false) c.rom_pair_at.ensures)
