-- The movie that its parts make. This project's own.
use Rattle.movie_file.specs.declared.parts.MovieParts.{MovieParts}
use Rattle.movie_file.specs.Movie.{MovieData}

abbrev pub data_of : MovieParts → MovieData
data_of p =
    record { version = p.version; cartridge = p.cart; start = p.start; inputs = p.inputs.items; checkpoints = p.checkpoints.items }
