use Rattle.std.proofs.Common.{◌≡◌, ◌-◌, ◌∙◌, ap, arith}
use Rattle.riot_chip.proofs.StepLemmas.{riot-steps}
use Rattle.chip_machine.specs.Private.Lag.{riot_after_steps, riot_seen}
use Rattle.chip_machine.specs.declared.devices.Devices.{Devices}
use Rattle.chip_machine.proofs.devices.Devices.pass_all.Goals as goal

pub returns-clause-riot : goal.returns-clause-riot
returns-clause-riot g c =
    let d = c.catch_up_riot.new.self in
    let before = c.catch_up_tia.new.self in
    let own : before.lag_left - before.lag_left ≡ 0 = omega arith in
    let none : d.riot_left - d.lag_left ≡ 0 = ap (λ (d : Devices g.row.S.Denot). d.riot_left - d.lag_left) c.catch_up_riot.ensures ∙ own in
    let caught : d.riot ≡ riot_seen c.args.self.now = ap (λ (d : Devices g.row.S.Denot). d.riot) c.catch_up_riot.ensures ∙ c.catch_up_tia.ensures.riot in
    rw none (c.steps.ensures ∙ riot-steps c.args.cycles d.riot ∙ ap (riot_after_steps c.args.cycles) caught)
