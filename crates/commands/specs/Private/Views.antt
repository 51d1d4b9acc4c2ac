-- What is written of a frame: its line, or its picture as a file. This project's own.
use Rattle.std.specs.Prelude.{ℕ, List, string_bytes}
use Rattle.movie_file.specs.Movie.{MovieData}
use Rattle.movie_file.specs.Run.{run}
use Rattle.picture_file.specs.PictureBytes.{picture_bytes, pictures_bytes}
use Rattle.replay_segments.specs.KeptPictures.{picture_after}
use Rattle.frame_text.specs.FrameLines.{frame_line}
use Rattle.commands.specs.declared.asked_frames.Shown.{Shown}
use Rattle.commands.specs.declared.asked_frames.Shown.TheVariants as shown
use Rattle.commands.specs.declared.asked_frames.View.{View}
use Rattle.commands.specs.declared.asked_frames.View.TheVariants.{Line, Picture}

-- The bytes of the picture of frame k + 1.
abbrev pub picture_of_frame : MovieData → ℕ → List ℕ
picture_of_frame m k = pictures_bytes (picture_after m k (run m m.start 0 k))

-- What is written of frame k + 1 of a movie's run,
abbrev pub bytes_shown : MovieData → View → ℕ → List ℕ
bytes_shown m (Line notation details) k = frame_line m notation details.now k
bytes_shown m Picture k = picture_of_frame m k

-- and of one that was played.
abbrev pub shown_bytes : Shown → List ℕ
shown_bytes (shown.Line line) = string_bytes line
shown_bytes (shown.Picture picture) = picture_bytes picture
