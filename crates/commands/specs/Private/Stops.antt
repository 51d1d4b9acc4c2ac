-- What is written of the frames of a run when an error ends it. This project's own.
use Rattle.std.specs.Prelude.{ℕ, ◌≤◌, List, Option}
use Rattle.std.specs.Io.KnownBytes.{Appends}
use Rattle.picture_file.specs.Prefixes.{AppendsPrefix}
use Rattle.commands.specs.AskedFrames.{from_frames}
use Rattle.commands.specs.declared.run_error.RunError.{RunError}
use Rattle.commands.specs.declared.run_error.RunError.TheVariants.{NoMemory, WriteFault}

-- What a writer has got of the `len` frames that follow frame `from`, of each of which `text` is to be
-- written, after an error.
abbrev pub StopsWriting : (ℕ → List ℕ) → ℕ → ℕ → Option (List ℕ) → Option (List ℕ) → RunError → Type 0
StopsWriting text from len old new NoMemory = (k : ℕ) × (k ≤ len) × Appends old new (from_frames text from k)
StopsWriting text from len old new WriteFault = AppendsPrefix old new (from_frames text from len)
StopsWriting text from len old new other = ⊥
