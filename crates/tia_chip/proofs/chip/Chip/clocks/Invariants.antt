use Rattle.std.proofs.Common.{◌≡◌}
use Rattle.std.specs.Fn.{iterate}
use Rattle.tia_chip.specs.Clock.{after_clock}
use Rattle.tia_chip.specs.Clocks.{sink_after_clocks}
use Rattle.tia_chip.proofs.chip.Chip.clocks.Given as goal

-- the clocks that are left lead to where all of them do
abbrev pub invariant-loop-left : goal.invariant-loop-left
invariant-loop-left g l = record {
  state : iterate after_clock l.left l.self ≡ iterate after_clock l.count l.fn.self;
  sink : sink_after_clocks g.S.Paint.drawn l.sink l.left l.self ≡ sink_after_clocks g.S.Paint.drawn l.fn.sink l.count l.fn.self;
}

abbrev pub decreases-loop-left : goal.decreases-loop-left
decreases-loop-left g l = l.left
