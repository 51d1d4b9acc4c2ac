use Rattle.std.proofs.Common.{◌≡◌, ◌^◌, ◌<◌}
use Rattle.std.specs.Fn.{iterate}
use Rattle.tia_chip.specs.Clock.{after_clock}
use Rattle.tia_chip.specs.Clocks.{sink_after_clocks}
use Rattle.tia_chip.specs.Private.Lines.{line_of}
use Rattle.tia_chip.proofs.calm.show.Given as goal

abbrev pub invariant-loop-k : goal.invariant-loop-k
invariant-loop-k g l = record {
  value : l.line ≡ line_of (iterate after_clock l.k l.tia);
  sink : l.sink ≡ sink_after_clocks g.S.Paint.drawn l.fn.sink l.k l.tia;
  range : l.line.collisions < 2 ^ 15;
}
