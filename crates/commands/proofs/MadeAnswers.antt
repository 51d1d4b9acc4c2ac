-- What is written of a movie that was made, or of its inputs.
use Rattle.std.proofs.Common.{◌≡◌, ℕ, Bool, true, false, List, Option, Some, None, Ok, length, inl, inr}
use Rattle.std.specs.Prelude.{IsTrue}
use Rattle.movie_machine.specs.declared.cart.Cart.{Cart}
use Rattle.vcs_machine.specs.Inputs.{InputData}
use Rattle.movie_file.specs.Movie.{MovieData}
use Rattle.movie_file.specs.Spelling.{spelling}
use Rattle.movie_hints.specs.declared.hint.Hint.{Hint}
use Rattle.replay_plan.specs.declared.input_form.InputForm.{InputForm}
use Rattle.run_cursor.specs.declared.cursor.RunFault.{RunFault}
use Rattle.commands.specs.Answers.{AnswerData, line_answer}
use Rattle.commands.specs.Make.{IsStoredAs, MakesFrom, MakesOf, WritesFault, do_claims_fit, inputs_by}
use Rattle.commands.specs.Private.MadeRuns.{IsMadeRun, line_of, remark_of}

module _ (cartridge : Cart) (inputs : List InputData) (stored : Option Hint) (every : ℕ) (to_the_end to_the_fault : Bool) (answer : AnswerData)
    (fits : IsTrue (do_claims_fit (length inputs) every to_the_end)) where
  pub of_run : (m : MovieData) (fault : Option RunFault) → IsMadeRun cartridge inputs every to_the_end to_the_fault m fault
      → answer ≡ record (line_answer (line_of m fault)) { file = spelling m; remark = remark_of stored fault } → MakesOf cartridge inputs stored every to_the_end to_the_fault answer
  of_run m None made is = inl (fits, inl (m, made.0, made.1, is))
  of_run m (Some fault) made is = inl (fits, inr (fault.frame, fault.kind, made.1, asked to_the_fault made.0))
    where
      asked : (is_asked : Bool) → is_asked ≡ true → WritesFault cartridge inputs every is_asked fault.frame fault.kind answer
      asked true e = (m, made.2, made.3, is)
      asked false e = absurd cc

module _ (cartridge : Cart) (form : InputForm) (input : List ℕ) (every : ℕ) (to_the_end to_the_fault : Bool) (answer : AnswerData) where
  pub of_read : (inputs : List InputData) (stored : Option Hint) → inputs_by form input ≡ Ok inputs → IsStoredAs form input stored
      → MakesOf cartridge inputs stored every to_the_end to_the_fault answer → MakesFrom cartridge form input every to_the_end to_the_fault answer
  of_read inputs stored read is makes = rw read (stored, is, makes)
