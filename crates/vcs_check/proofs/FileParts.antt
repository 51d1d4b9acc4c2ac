-- What a text and a file have got of a run.
use Rattle.std.proofs.Common.{◌≡◌, ◌≢◌, ◌∙◌, ◌⊎◌, None, Option, List, ℕ, [], Ok, Err, Result, ap, inl, inr, refl}
use Rattle.std.specs.Prelude.{IfOk, IsOk, OnErr}
use Rattle.std.specs.Io.KnownBytes.{Appends, Keeps}
use Rattle.command_line.specs.Writing.{writing_of}
use Rattle.command_line.specs.declared.command.Command.{Command}
use Rattle.command_line.specs.declared.command.Command.TheVariants.{Frames, Pictures, Trace}
use Rattle.command_line.specs.declared.command.CommandLine.{CommandLine}
use Rattle.command_line.specs.declared.command.Writing.{Writing}
use Rattle.command_line.specs.declared.command.Writing.TheVariants.{TextFirst}
use Rattle.commands.specs.Commands.{HasBegun, IsAnswered, IsGradual, StartsThreads, WritesSome}
use Rattle.commands.specs.Streams.{ReadsAll}
use Rattle.commands.specs.declared.conclusion.Conclusion.{Conclusion}
use Rattle.commands.specs.declared.run_error.RunError.{RunError}
use Rattle.commands.specs.declared.run_error.RunError.TheVariants.{NoMemory, NoThread, ReadFault, TooLong, WriteFault}
use Rattle.movie_file.specs.Movie.{MovieData}
use Rattle.movie_file.specs.Reading.{movie_at}
use Rattle.named_files.specs.declared.file_error.FileError.{FileError}
use Rattle.picture_file.proofs.BytesWritten.{appends_kept, appends_nothing, prefix_all}
use Rattle.picture_file.specs.Prefixes.{AppendsPrefix}
use Rattle.replay_plan.specs.declared.notation.Notation.{Notation}
use Rattle.vcs_check.specs.Commands.{KeepsQuiet, LeavesPart, TakesFile, Writes}
use Rattle.vcs_check.specs.Failures.{IsNoThread}
use Rattle.vcs_check.specs.Private.FileErrors.{by_output}
use Rattle.vcs_check.specs.Private.Inputs.{ReadsBoth}
use Rattle.vcs_check.specs.declared.answered.Answered.{Answered}
use Rattle.vcs_check.specs.declared.failure.Failure.TheVariants.{Run}
use Rattle.vcs_check.proofs.InputLemmas.{part_by_output, quiet_by_output}

pub nothing : (a b : Option (List ℕ)) (bytes : List ℕ) → Keeps a b → AppendsPrefix a b bytes
nothing a b bytes kept = record { prefix = []; rest = bytes; whole = refl; written = appends_kept a a b [] (appends_nothing a) kept }

file_in_part : (writing : Writing) (a b : Option (List ℕ)) (text : List ℕ) (c d : Option (List ℕ)) (file : List ℕ)
    → WritesSome writing a b text c d file → AppendsPrefix c d file
file_in_part TextFirst a b text c d file some = elim some [ inl one ↦ nothing c d file one.1 | inr both ↦ both.1 ]
file_in_part other a b text c d file some = elim some [ inl one ↦ one.0 | inr both ↦ prefix_all c d file both.0 ]

text_in_part : (writing : Writing) (a b : Option (List ℕ)) (text : List ℕ) (c d : Option (List ℕ)) (file : List ℕ)
    → WritesSome writing a b text c d file → AppendsPrefix a b text
text_in_part TextFirst a b text c d file some = elim some [ inl one ↦ one.0 | inr both ↦ prefix_all a b text both.0 ]
text_in_part other a b text c d file some = elim some [ inl one ↦ nothing a b text one.1 | inr both ↦ both.1 ]

-- A text that isn't written while a run goes on isn't begun.
not_begun : (command : Command) (notation : Notation) (m : MovieData) (old new f g : Option (List ℕ)) → HasBegun command notation m old new f g
    → (IsGradual (writing_of command) → ⊥) → Keeps old new
not_begun (Frames first count details) notation m old new f g begun whole = absurd (whole tt)
not_begun (Pictures first count) notation m old new f g begun whole = begun.1
not_begun (Trace frame) notation m old new f g begun whole = absurd (whole tt)
not_begun other notation m old new f g begun whole = begun.0

abbrev failed : RunError → Result Answered RunError
failed error = Err error

no_thread_was : (error : RunError) (one : Option FileError) → IsNoThread (by_output (Run error None) one) → error ≡ NoThread
no_thread_was NoThread one is = refl
no_thread_was WriteFault one is = absurd is
no_thread_was other one is = absurd is

-- A run by this line, of whose text and file this was written.
module _ (line : CommandLine) (a b old new f g : Option (List ℕ)) where
  -- With memory refused nothing was, or what comes while a run goes on.
  abbrev IsBegun : Type 0
  IsBegun = (Keeps old new × Keeps f g)
      ⊎ ((bytes : List ℕ) × (m : MovieData) × ReadsAll a b bytes × (movie_at bytes ≡ Ok m) × HasBegun line.command line.notation m old new f g)

  pub text_quiet : (error : RunError) → (failed error ≢ failed WriteFault → failed error ≢ failed NoMemory → Keeps old new × Keeps f g)
      → (failed error ≡ failed NoMemory → IsBegun) → KeepsQuiet line old new (Err (Run error None))
  text_quiet WriteFault quiet memory = λ write none. absurd (write tt)
  text_quiet NoMemory quiet memory = λ write none. elim (memory refl) [
    | inl kept ↦ kept.0
    | inr h ↦ not_begun line.command line.notation h.1 old new f g h.4 (λ gradual. none tt (inl gradual))
  ]
  text_quiet ReadFault quiet memory = λ write none. (quiet (λ is. absurd (cc)) (λ is. absurd (cc))).0
  text_quiet TooLong quiet memory = λ write none. (quiet (λ is. absurd (cc)) (λ is. absurd (cc))).0
  text_quiet NoThread quiet memory = λ write none. (quiet (λ is. absurd (cc)) (λ is. absurd (cc))).0

  module _ (c d : Option (List ℕ)) where
    -- With an answer all of it was,
    abbrev IsWritten : Answered → Type 0
    IsWritten answered = (end : Conclusion) × (answered.status ≡ end.status) × (bytes : List ℕ) × (told : List ℕ) × (made : List ℕ) × ReadsAll a b bytes × IsAnswered line bytes c d end told made
        × Appends old new told × Appends f g made

    -- and after a failed write a part.
    abbrev IsCutOff : Type 0
    IsCutOff = (bytes : List ℕ) × (end : Conclusion) × (told : List ℕ) × (made : List ℕ) × ReadsAll a b bytes × IsAnswered line bytes c d end told made
        × WritesSome (writing_of line.command) old new told f g made

    module _ (other : TakesFile line → ⊥) where
      pub text_written : (answered : Answered) → IsWritten answered → Writes line (ReadsBoth a b c d) old new (Ok answered)
      text_written answered h = (
        h.3,
        (h.2, c, d, (h.5, refl, refl), (λ takes. absurd (other takes)), λ text. (h.0.remark, h.4, rw h.1 h.6)),
        h.7,
      )

      pub text_part : (error : RunError) → (failed error ≡ failed WriteFault → IsCutOff) → (failed error ≡ failed NoMemory → IsBegun)
          → LeavesPart line (ReadsBoth a b c d) old new (Err (Run error None))
      text_part WriteFault written memory = (
        (λ is. let h = written refl in (
          h.1.status,
          h.2,
          (h.0, c, d, (h.4, refl, refl), (λ takes. absurd (other takes)), λ text. (h.1.remark, h.3, h.5)),
          text_in_part (writing_of line.command) old new h.2 f g h.3 h.6,
        )),
        λ is. absurd is,
      )
      text_part NoMemory written memory = (
        (λ is. absurd is),
        λ is. elim (memory refl) [
          | inl kept ↦ inl kept.0
          | inr h ↦ inr (h.0, c, d, h.1, (h.2, refl, refl), h.3, (λ takes. absurd (other takes)), λ text. (f, g, h.4))
        ],
      )
      text_part error written memory = ((λ is. absurd is), λ is. absurd is)

      pub end_written : (answer : Result Answered RunError) (answered : Answered) → answer ≡ Ok answered → IfOk answer (λ x. IsWritten x)
          → Writes line (ReadsBoth a b c d) old new (Ok answered)
      end_written answer answered is written = text_written answered (rw is at written)

      -- All of a text is a part of it, where a file fails after it.
      pub text_whole : (answer : Result Answered RunError) (file_error : Option FileError) → IsOk answer → IfOk answer (λ x. IsWritten x)
          → LeavesPart line (ReadsBoth a b c d) old new (Err (Run WriteFault file_error))
      text_whole (Ok answered) file_error ok h = (
        (λ is. (
          h.0.status,
          h.3,
          (h.2, c, d, (h.5, refl, refl), (λ takes. absurd (other takes)), λ text. (h.0.remark, h.4, h.6)),
          prefix_all old new h.3 h.7,
        )),
        λ is. absurd is,
      )
      text_whole (Err error) file_error ok h = absurd (cc)

    module _ (takes : TakesFile line) where
      pub file_written : (answered : Answered) → IsWritten answered → Writes line (ReadsBoth a b c d) f g (Ok answered)
      file_written answered h = (
        h.4,
        (h.2, c, d, (h.5, refl, refl), (λ file. (h.0.remark, h.3, rw h.1 h.6)), λ other. absurd (other takes)),
        h.8,
      )

      pub file_part : (error : RunError) → (failed error ≡ failed WriteFault → IsCutOff) → (failed error ≡ failed NoMemory → IsBegun)
          → LeavesPart line (ReadsBoth a b c d) f g (Err (Run error None))
      file_part WriteFault written memory = (
        (λ is. let h = written refl in (
          h.1.status,
          h.3,
          (h.0, c, d, (h.4, refl, refl), (λ file. (h.1.remark, h.2, h.5)), λ other. absurd (other takes)),
          file_in_part (writing_of line.command) old new h.2 f g h.3 h.6,
        )),
        λ is. absurd is,
      )
      file_part NoMemory written memory = (
        (λ is. absurd is),
        λ is. elim (memory refl) [
          | inl kept ↦ inl kept.1
          | inr h ↦ inr (h.0, c, d, h.1, (h.2, refl, refl), h.3, (λ file. (old, new, h.4)), λ other. absurd (other takes))
        ],
      )
      file_part error written memory = ((λ is. absurd is), λ is. absurd is)

pub file_quiet : (line : CommandLine) (old new f g : Option (List ℕ)) → TakesFile line → (error : RunError)
    → (failed error ≢ failed WriteFault → failed error ≢ failed NoMemory → Keeps old new × Keeps f g) → KeepsQuiet line f g (Err (Run error None))
file_quiet line old new f g takes WriteFault quiet = λ write none. absurd (write tt)
file_quiet line old new f g takes NoMemory quiet = λ write none. absurd (none tt (inr takes))
file_quiet line old new f g takes ReadFault quiet = λ write none. (quiet (λ is. absurd (cc)) (λ is. absurd (cc))).1
file_quiet line old new f g takes TooLong quiet = λ write none. (quiet (λ is. absurd (cc)) (λ is. absurd (cc))).1
file_quiet line old new f g takes NoThread quiet = λ write none. (quiet (λ is. absurd (cc)) (λ is. absurd (cc))).1

-- The same of a text, where the answer's file has got what was gathered of it after the run.
module _ (line : CommandLine) (answer : Result Answered RunError) (error : RunError) (one : Option FileError)
    (how : (answer ≡ failed error) ⊎ ((error ≡ WriteFault) × IsOk answer)) where
  pub end_no_thread : (answer ≡ failed NoThread → StartsThreads line) → IsNoThread (by_output (Run error None) one) → StartsThreads line
  end_no_thread starts refused = elim how [
    | inl is ↦ starts (is ∙ ap failed (no_thread_was error one refused))
    | inr is ↦ absurd (rw is.0 at refused)
  ]

  module _ (a b old new f g : Option (List ℕ)) where
    pub end_quiet : OnErr answer (answer ≢ failed WriteFault → answer ≢ failed NoMemory → Keeps old new × Keeps f g)
        → (answer ≡ failed NoMemory → IsBegun line a b old new f g) → KeepsQuiet line old new (Err (by_output (Run error None) one))
    end_quiet quiet memory = elim how [
      | inl is ↦ quiet_by_output line old new (Run error None) one (text_quiet line a b old new f g error (rw is at quiet) (rw is at memory))
      | inr is ↦ rw is.0 (λ write none. absurd (write tt))
    ]

    module _ (c d : Option (List ℕ)) (other : TakesFile line → ⊥) where
      pub end_part : IfOk answer (λ answered. IsWritten line a b old new f g c d answered) → (answer ≡ failed WriteFault → IsCutOff line a b old new f g c d)
          → (answer ≡ failed NoMemory → IsBegun line a b old new f g) → LeavesPart line (ReadsBoth a b c d) old new (Err (by_output (Run error None) one))
      end_part ok written memory = part_by_output line (ReadsBoth a b c d) old new (Run error None) one (elim how [
        | inl is ↦ text_part line a b old new f g c d other error (rw is at written) (rw is at memory)
        | inr is ↦ rw is.0 (text_whole line a b old new f g c d other answer None is.1 ok)
      ])
