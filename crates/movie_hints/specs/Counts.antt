-- What keeps frames and checkpoints from being a movie's. This project's own.
use Rattle.std.specs.Prelude.{◌≡◌, ◌<◌, ◌≤◌, ◌/◌, ℕ, Bool, if◌then◌else◌, Option, Some, None}
use Rattle.std.specs.Int.{div_ceil}
use Rattle.input_text.specs.Texts.{most_frames}
use Rattle.movie_file.specs.Format.{most_checkpoints}
use Rattle.movie_hints.specs.declared.hint.Hint.{Hint}
use Rattle.movie_hints.specs.declared.hint.Hint.TheVariants.{NoFrames, ManyFrames, ManyCheckpoints}

-- How many checkpoints stand after every so many of these frames, or also after the last one.
abbrev pub checkpoints_of : ℕ → ℕ → Bool → ℕ
checkpoints_of frames every to_the_end = if to_the_end then div_ceil frames every else frames / every

-- They are no more than a movie can have.
abbrev pub AreFew : ℕ → ℕ → Bool → Type 0
AreFew frames every to_the_end = checkpoints_of frames every to_the_end ≤ most_checkpoints

-- A movie can be made.
abbrev pub AreCounts : ℕ → ℕ → Bool → Type 0
AreCounts frames every to_the_end = (1 ≤ frames) × (frames ≤ most_frames) × AreFew frames every to_the_end

-- What is said of so many frames with these checkpoints: nothing of those of a movie; that there are
-- none, or how many too many; else how many checkpoints there would be, and the least number in place
-- of `every` with which a movie can be made.
abbrev pub IsCountsHint : ℕ → ℕ → Bool → Option Hint → Type 0
IsCountsHint frames every to_the_end None = AreCounts frames every to_the_end
IsCountsHint frames every to_the_end (Some NoFrames) = frames ≡ 0
IsCountsHint frames every to_the_end (Some (ManyFrames found)) = (found ≡ frames) × (most_frames < frames)
IsCountsHint frames every to_the_end (Some (ManyCheckpoints found least)) =
    (found ≡ checkpoints_of frames every to_the_end) × (most_checkpoints < found) × AreCounts frames least to_the_end
    × ((other : ℕ) → 1 ≤ other → AreCounts frames other to_the_end → least ≤ other)
IsCountsHint frames every to_the_end (Some other) = ⊥
