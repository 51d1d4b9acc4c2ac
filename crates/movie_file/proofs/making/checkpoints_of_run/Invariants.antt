use Rattle.std.proofs.Common.{◌≡◌, ◌≤◌, ◌/◌, length, take, Some}
use Rattle.std.specs.Prelude.{IsTrue, vec_capacity}
use Rattle.std.specs.List.{All}
use Rattle.vcs_machine.specs.Inputs.{is_input}
use Rattle.movie_machine.specs.States.{is_of, state_at_power_on}
use Rattle.movie_file.specs.Judgement.{AllSound}
use Rattle.movie_file.specs.Making.{bare}
use Rattle.movie_file.specs.ClaimedStates.{Claims}
use Rattle.movie_file.specs.Run.{run}
use Rattle.movie_file.proofs.making.checkpoints_of_run.Given as goal

abbrev pub invariant-loop-i : goal.invariant-loop-i
invariant-loop-i g l = record {
  made : Claims (bare l.cart l.inputs) 0 l.every l.i l.checkpoints.items;
  sound : AllSound (bare l.cart l.inputs) (state_at_power_on l.cart) 0 l.i;
  ran : run (bare l.cart l.inputs) (state_at_power_on l.cart) 0 l.i ≡ Some l.state;
  cartridge : IsTrue (is_of l.cart l.state);
  room : length l.inputs / l.every ≤ vec_capacity l.checkpoints;
  inputs : All (λ i. IsTrue (is_input i)) (take l.i l.inputs);
}
