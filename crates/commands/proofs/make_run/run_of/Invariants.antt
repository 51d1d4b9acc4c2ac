use Rattle.std.proofs.Common.{◌≡◌, ◌≤◌, ◌/◌, length}
use Rattle.std.specs.Prelude.{IsTrue, vec_capacity}
use Rattle.movie_machine.specs.States.{is_of}
use Rattle.commands.specs.Private.MadeRuns.{HasRun}
use Rattle.commands.proofs.make_run.run_of.Given as goal

abbrev pub invariant-loop-i : goal.invariant-loop-i
invariant-loop-i g l = record {
  made : HasRun l.cart l.inputs l.every l.i l.checkpoints.items l.state;
  cartridge : IsTrue (is_of l.cart l.state);
  room : length l.inputs / l.every ≤ vec_capacity l.checkpoints;
  capacity : vec_capacity l.checkpoints ≡ vec_capacity l.fn.checkpoints;
}
