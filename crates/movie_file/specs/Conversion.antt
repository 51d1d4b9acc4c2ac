-- Conversion of a movie to version 2. This project's own.
use Rattle.std.specs.Prelude.{◌≡◌}
use Rattle.movie_file.specs.Movie.{MovieData}
use Rattle.movie_file.specs.declared.converting.ConvertError.{ConvertError}
use Rattle.movie_file.specs.declared.converting.ConvertError.TheVariants.{AlreadyTwo, AlreadyThree}

-- the same cartridge, start state, inputs and checkpoints, in version 2
abbrev pub in_version_2 : MovieData → MovieData
in_version_2 m = record m { version = 2 }

-- a movie isn't converted that has version 2 already, or 3: its states are another machine's
abbrev pub IsHandedBack : MovieData → ConvertError → Type 0
IsHandedBack m (AlreadyTwo same) = (m.version ≡ 2) × (same ≡ m)
IsHandedBack m (AlreadyThree same) = (m.version ≡ 3) × (same ≡ m)
