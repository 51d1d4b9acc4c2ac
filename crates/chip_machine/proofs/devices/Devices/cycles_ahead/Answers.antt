use Rattle.std.proofs.Common.{◌≡◌, ◌<◌, ◌∙◌, sym, ap, arith}
use Rattle.chip_machine.specs.Private.Lag.{riot_seen}
use Rattle.chip_machine.specs.declared.devices.Devices.{Devices}
use Rattle.chip_machine.proofs.PollLemmas.{still-seen}
use Rattle.chip_machine.proofs.devices.Devices.cycles_ahead.Goals as goal

pub returns-clause-going : goal.returns-clause-going
returns-clause-going g c =
    let same : c.catch_up_riot.new.self.riot ≡ riot_seen c.args.self.now = ap (λ (d : Devices g.row.S.Denot). d.riot) c.catch_up_riot.ensures in
    let some : 0 < c.cycles_at_least-cycles.result = omega (arith, c.if-cycles-eq0.false) in
    rw same at
    (still-seen c.args.poll c.catch_up_riot.new.self.riot c.cycles_at_least-cycles.result c.read.result c.requires.timer c.read.type_inv some
    (rw c.least.ensures at c.cycles_at_least-cycles.ensures.shown)
    c.read.ensures.value (sym c.goes_on.ensures ∙ c.if-not-goes_on.false))
