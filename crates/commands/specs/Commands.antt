-- What each command does: the one table of commands and their answers. This project's own.
use Rattle.std.specs.Prelude.{◌≡◌, ◌⊎◌, ◌≤◌, ℕ, IsSome, List, [], Option, Some, None, Result, Ok, Err}
use Rattle.std.specs.NonZero.{non_zero_u32_get}
use Rattle.std.specs.Io.KnownBytes.{Keeps}
use Rattle.command_line.specs.Named.{named_row}
use Rattle.command_line.specs.Program.{program_name}
use Rattle.command_line.specs.declared.command.Command.{Command}
use Rattle.command_line.specs.declared.command.CommandLine.{CommandLine}
use Rattle.command_line.specs.declared.command.Command.TheVariants.{Verify, Report, Make, Info, Claims, Inputs, Cartridge, Convert}
use Rattle.command_line.specs.declared.command.Command.TheVariants.{Frames, Pictures, Cut, Trace}
use Rattle.command_line.specs.declared.command.Writing.{Writing}
use Rattle.command_line.specs.declared.command.Writing.TheVariants.{GradualText, TextFirst}
use Rattle.movie_file.specs.Movie.{MovieData}
use Rattle.movie_file.specs.Reading.{movie_at}
use Rattle.movie_file.specs.declared.error.MovieError.{MovieError}
use Rattle.replay_plan.specs.declared.notation.Notation.{Notation}
use Rattle.commands.specs.Answers.{AnswerData}
use Rattle.commands.specs.Cartridge.{cartridge_answer}
use Rattle.commands.specs.Claims.{claims_in}
use Rattle.commands.specs.Convert.{conversion_of}
use Rattle.commands.specs.Cut.{Cuts}
use Rattle.commands.specs.Frames.{AppendsLines, Describes}
use Rattle.commands.specs.Info.{information_in}
use Rattle.commands.specs.Inputs.{Lists}
use Rattle.commands.specs.Make.{Makes}
use Rattle.commands.specs.Pictures.{AppendsPictures, Draws}
use Rattle.commands.specs.Refusals.{Refuses}
use Rattle.commands.specs.Remarks.{no_frame}
use Rattle.commands.specs.Report.{Reports}
use Rattle.commands.specs.Streams.{ReadsAll, WritesPart}
use Rattle.commands.specs.Trace.{AppendsInstructions, Traces}
use Rattle.commands.specs.Verify.{Verifies}
use Rattle.commands.specs.declared.conclusion.Conclusion.{Conclusion}

-- It is about a movie.
abbrev pub IsAboutMovies : Command → Type 0
IsAboutMovies (Make form making board) = ⊥
IsAboutMovies other = Unit {0}

-- The answer of a command about a movie, which these bytes are, in this notation, where a ROM was read or none.
-- `make` is about none.
abbrev pub Answers : Command → Notation → List ℕ → Option (List ℕ) → MovieData → AnswerData → Type 0
Answers (Verify every keep) notation bytes read m answer = Verifies notation keep m answer
Answers (Report expectations) notation bytes read m answer = Reports notation program_name read expectations bytes m answer
Answers (Make form making board) notation bytes read m answer = ⊥
Answers Info notation bytes read m answer = answer ≡ information_in notation m
Answers Claims notation bytes read m answer = answer ≡ claims_in notation m
Answers (Inputs listing) notation bytes read m answer = Lists m listing answer
Answers Cartridge notation bytes read m answer = answer ≡ cartridge_answer m
Answers Convert notation bytes read m answer = answer ≡ conversion_of m
Answers (Frames first count details) notation bytes read m answer =
    Describes m notation details (non_zero_u32_get first) count answer.status answer.text × (answer.file ≡ []) × (answer.remark ≡ no_frame m (non_zero_u32_get first))
Answers (Pictures first count) notation bytes read m answer = Draws m (non_zero_u32_get first) count answer
Answers (Cut first count every) notation bytes read m answer = Cuts m (non_zero_u32_get first) count (non_zero_u32_get every) answer
Answers (Trace frame) notation bytes read m answer =
    Traces m (non_zero_u32_get frame) answer.status answer.text × (answer.file ≡ []) × (answer.remark ≡ no_frame m (non_zero_u32_get frame))

-- The answer of a command about what reading found in these bytes.
abbrev pub AnswersFound : Command → Notation → List ℕ → Option (List ℕ) → Result MovieData MovieError → AnswerData → Type 0
AnswersFound command notation bytes read (Ok m) answer = Answers command notation bytes read m answer
AnswersFound command notation bytes read (Err error) answer = Refuses notation program_name bytes error answer

-- A second input that is named is read to its end: of `old` bytes `new` are left after it.
abbrev pub ReadsNamed : {Z : Type 0} → Option Z → (old new read : Option (List ℕ)) → Type 0
ReadsNamed None old new read = Keeps old new × (read ≡ None)
ReadsNamed (Some name) old new (Some read) = ReadsAll old new read
ReadsNamed (Some name) old new None = ⊥

-- But none is read if the bytes are no movie.
abbrev pub ReadsFor : {Z : Type 0} → Option Z → Result MovieData MovieError → (old new read : Option (List ℕ)) → Type 0
ReadsFor name (Ok m) old new read = ReadsNamed name old new read
ReadsFor name (Err error) old new read = Keeps old new × (read ≡ None)

-- The answer of a command about these bytes. `make` also reads inputs, of which `old` were left before
-- it and `new` are left after it, and a report may read a ROM.
abbrev pub AnswersBytes : {Z : Type 0} → Command → Notation → Option Z → List ℕ → (old new : Option (List ℕ)) → AnswerData → Type 0
AnswersBytes (Make form making board) notation name bytes old new answer =
    Makes form making (named_row board) bytes old new answer
AnswersBytes command notation name bytes old new answer =
    (read : Option (List ℕ)) × ReadsFor name (movie_at bytes) old new read × AnswersFound command notation bytes read (movie_at bytes) answer

-- The same of a command line, as how it ended, the text, and the bytes of the file.
abbrev pub IsAnswered : CommandLine → List ℕ → (old new : Option (List ℕ)) → Conclusion → (text file : List ℕ) → Type 0
IsAnswered line bytes old new end text file =
    AnswersBytes line.command line.notation line.second bytes old new (record { status = end.status; text = text; file = file; remark = end.remark })

-- After a failed write one of the two has got a part of its own, and the other all or nothing.
abbrev pub WritesSome : Writing → (old new : Option (List ℕ)) → List ℕ → (file_old file_new : Option (List ℕ)) → List ℕ → Type 0
WritesSome TextFirst old new text file_old file_new file = WritesPart old new text file_old file_new file
WritesSome other old new text file_old file_new file = WritesPart file_old file_new file old new text

-- Its text is written while a run goes on.
abbrev pub IsGradual : Writing → Type 0
IsGradual GradualText = Unit {0}
IsGradual other = ⊥

-- What is written of a movie when memory runs out: whole lines or pictures of the commands that write
-- while a run goes on, and of the others nothing.
abbrev pub HasBegun : Command → Notation → MovieData → (old new file_old file_new : Option (List ℕ)) → Type 0
HasBegun (Frames first count details) notation m old new file_old file_new =
    AppendsLines m notation details (non_zero_u32_get first) count old new × Keeps file_old file_new
HasBegun (Pictures first count) notation m old new file_old file_new =
    AppendsPictures m (non_zero_u32_get first) count file_old file_new × Keeps old new
HasBegun (Trace frame) notation m old new file_old file_new =
    AppendsInstructions m (non_zero_u32_get frame) old new × Keeps file_old file_new
HasBegun other notation m old new file_old file_new = Keeps old new × Keeps file_old file_new

-- It judges a movie, by workers.
abbrev pub Judges : Command → Type 0
Judges (Verify every keep) = Unit {0}
Judges (Report expectations) = Unit {0}
Judges other = ⊥

-- More than one worker judges: only these commands start threads.
abbrev pub StartsThreads : CommandLine → Type 0
StartsThreads line = Judges line.command × (2 ≤ line.workers.number)

-- A second input is read: by `make`, and by a command that names one.
abbrev pub ReadsInputs : CommandLine → Type 0
ReadsInputs line = (IsAboutMovies line.command → ⊥) ⊎ IsSome line.second
