use Rattle.std.proofs.Common.{sym, arith}
use Rattle.tia_chip.proofs.OwedLemmas.{made-rest}
use Rattle.tia_chip.proofs.RestLemmas.{sink-some}
use Rattle.tia_chip.specs.Private.Owed.{settled}
use Rattle.tia_chip.proofs.chip.Chip.free_clocks.Goals as goal

pub returns-then-is_at_rest_in_blank-clause-sink : goal.returns-then-is_at_rest_in_blank-clause-sink
returns-then-is_at_rest_in_blank-clause-sink g c =
    let owed = c.self.inside.owed in
    let t = c.self.inside.state in
    let rest = c.is_at_rest_in_blank.ensures.rest c.if-is_at_rest_in_blank.true in
    let left = c.is_at_rest_in_blank.ensures.clock c.if-is_at_rest_in_blank.true in
    rw (← c.self.view_is, c.from.ensures) (sym (sink-some g.S.Paint.drawn c.args.sink.now c.min-count.result (settled owed t) (omega arith) (made-rest owed.steps owed.looked t rest) (omega arith)))
