-- Where a cursor stands in the one unbroken run of a movie. This project's own.
use Rattle.std.specs.Prelude.{◌≡◌, ◌≤◌, ◌<◌, ◌^◌, ℕ, length, IsTrue, Some}
use Rattle.movie_machine.specs.States.{is_of}
use Rattle.movie_machine.specs.declared.state.State.{State}
use Rattle.movie_file.specs.Movie.{MovieData}
use Rattle.movie_file.specs.Run.{run}

pub record CursorData : Type 0 where
  pub movie : MovieData
  pub frame : ℕ
  pub state : State

-- A cursor stands after frame k of the movie's run, in the state that the run has there, which is one of
-- the cartridge.
pub record IsAt (m : MovieData) (k : ℕ) (c : CursorData) : Type 0 where
  pub movie_is : c.movie ≡ m
  pub frame_is : c.frame ≡ k
  pub within : k ≤ length m.inputs
  pub few : length m.inputs < 2 ^ 32
  pub ran : run m m.start 0 k ≡ Some c.state
  pub cartridge : IsTrue (is_of m.cartridge c.state)
