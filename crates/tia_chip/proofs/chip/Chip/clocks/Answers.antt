use Rattle.std.proofs.Common.{◌∙◌, arith}
use Rattle.tia_chip.proofs.ClocksLemmas.{clocks-in_two}
use Rattle.tia_chip.proofs.chip.Chip.clocks.Goals as goal

pub loop-left-preserved : goal.loop-left-preserved
loop-left-preserved g c =
    let parts = clocks-in_two g.S.Paint.drawn c.loop-left.sink c.some_clocks-left.result c.loop-left.left c.loop-left.self (omega arith) in
    record {
      state = rw c.some_clocks-left.ensures.state (parts.0 ∙ c.loop-left.invariant.state);
      sink = rw (c.some_clocks-left.ensures.state, c.some_clocks-left.ensures.sink) (parts.1 ∙ c.loop-left.invariant.sink);
    }
