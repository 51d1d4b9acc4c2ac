use Rattle.std.proofs.Common.{◌≡◌, ◌-◌}
use Rattle.chip_machine.specs.Frame.{stop_of}
use Rattle.chip_machine.proofs.frame_loop.run_until_stop.Given as goal

abbrev pub invariant-loop-cpu : goal.invariant-loop-cpu
invariant-loop-cpu g l = record {
  stops : stop_of g.S.Paint.drawn (record { registers = l.fn.cpu; console = l.fn.console })
      ≡ stop_of g.S.Paint.drawn (record { registers = l.cpu; console = l.console });
  cartridge : l.console.cart.cartridge ≡ l.fn.console.cart.cartridge;
}

abbrev pub decreases-loop-cpu : goal.decreases-loop-cpu
decreases-loop-cpu g l = 77824 - l.console.cycles
