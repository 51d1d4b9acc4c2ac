use Rattle.std.proofs.Common.{◌≡◌, ◌-◌, Some}
use Rattle.std.specs.Prelude.{IsTrue}
use Rattle.movie_machine.specs.States.{is_of}
use Rattle.movie_file.specs.Run.{run}
use Rattle.movie_report.proofs.input_trials.after_frames.Given as goal

abbrev pub invariant-loop-before : goal.invariant-loop-before
invariant-loop-before l = record {
  ran : run l.movie l.start l.from (l.before - l.from) ≡ Some l.state;
  cartridge : IsTrue (is_of l.movie.cartridge l.state);
}
