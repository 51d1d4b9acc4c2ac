use Rattle.std.proofs.Common.{◌∙◌, ap}
use Rattle.chip_machine.specs.Consoles.{Console}
use Rattle.chip_machine.proofs.AtHandLemmas.{two-read}
use Rattle.chip_machine.proofs.console.ConsoleCycleBus.read_two.Goals as goal

pub returns-in-Some : goal.returns-in-Some
returns-in-Some g c =
    let drawn = g.S.Paint.drawn in
    ap (λ (x : Console g.row.S.Denot). record x { byte = c.args.second })
    (c.self.view_is ∙ c.two_cycles.ensures)
    ∙ two-read drawn c.args.self.now c.args.address _ _ c.in-Some.ensures c.args.purpose c.args.second c.requires
