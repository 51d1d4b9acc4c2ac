use Rattle.std.proofs.Common.{◌∙◌, ap}
use Rattle.riot_map.specs.Riot.{after_cycles}
use Rattle.vcs_machine.proofs.LagLemmas.{riot-lagging}
use Rattle.vcs_machine.proofs.devices.Devices.catch_up_and_lag.Goals as goal

pub returns-clause-riot : goal.returns-clause-riot
returns-clause-riot g c =
    let now = c.catch_up_tia.ensures in
    let d = c.catch_up_tia.new.self in
    riot-lagging d.riot_left c.args.cycles d.riot c.requires.most (rw now.left at now.behind.riot_left)
    ∙ ap (after_cycles c.args.cycles) (rw now.left at now.riot)
