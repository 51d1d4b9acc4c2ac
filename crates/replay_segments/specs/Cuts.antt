-- Where a movie is cut: after frames of its checkpoints. This project's own.
use Rattle.std.specs.Prelude.{ℕ, ◌%◌, ◌<◌, ◌≤◌, ◌≡◌, ◌↔◌, List, length, Some, slice_get}
use Rattle.std.specs.List.{Contains}
use Rattle.movie_file.specs.Movie.{MovieData}

-- Strictly rising numbers from 1 to `most`.
pub record AreCuts (most : ℕ) (cuts : List ℕ) : Type 0 where
  pub range : (i n : ℕ) → slice_get cuts i ≡ Some n → (0 < n) × (n ≤ most)
  pub rising : (i j n p : ℕ) → i < j → slice_get cuts i ≡ Some n → slice_get cuts j ≡ Some p → n < p

-- Cuts fit a movie if each is the number of one of its checkpoints.
abbrev pub Fits : List ℕ → MovieData → Type 0
Fits cuts m = AreCuts (length m.checkpoints) cuts

-- They are exactly the multiples of k from 1 to `most`.
abbrev pub IsEvery : ℕ → ℕ → List ℕ → Type 0
IsEvery k most cuts = (n : ℕ) → Contains cuts n ↔ ((0 < n) × (n ≤ most) × (n % k ≡ 0))
