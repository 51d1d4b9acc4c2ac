-- What `clap` says of the program's own command, and of its answers.
use Rattle.std.proofs.Common.{◌≡◌, ◌∙◌, ◌⊎◌, ◌↔◌, Bool, List, [], Option, Some, None, Result, Ok, Err, true, option_map, sym, subst, refl, inl, inr, IfOk}
use Rattle.clap.specs.Words.{App, HasKind, HasMatchesOf, IsAmong, Row, Text, fault_of, found_of, is_simple, is_simple_and_free, matches_of, rows_of, subcommand_of, subcommand_rows_of}
use Rattle.clap.specs.declared.ArgMatches.{ArgMatches}
use Rattle.clap.specs.declared.error.Error.{Error}
use Rattle.clap.specs.declared.error.ErrorKind.{ErrorKind}
use Rattle.clap.specs.declared.error.ErrorKind.TheVariants.{DisplayHelp, DisplayVersion, OutOfMemory}
use Rattle.clap.proofs.OnLiterals.{clap_on_literals}
use Rattle.command_line.specs.Faults.{HasBadValue, IsAnswerTo, IsRefusal, UnlessRefused}
use Rattle.command_line.specs.Meanings.{AsksForReasons, IsGiven}
use Rattle.command_line.specs.Table.{explain_row, program_app}
use Rattle.command_line.specs.declared.command.LineFault.{LineFault}
use Rattle.command_line.specs.declared.command.LineFault.TheVariants.{Usage, Help}
use Rattle.refused.specs.declared.Refused.{Refused}
use Rattle.refused.specs.declared.Refused.TheVariants.{NoMemory, Of}

program_is_simple : is_simple program_app ≡ true
unfolding clap_on_literals
program_is_simple = refl

program_is_free : is_simple_and_free program_app ≡ true
unfolding clap_on_literals
program_is_free = refl

pub taken : (app : App) (words : List Text) → app ≡ program_app → (is_simple_and_free app ≡ true → fault_of app words ≡ []) → fault_of program_app words ≡ []
taken app words is kinds = subst (λ (a : App). is_simple_and_free a ≡ true → fault_of a words ≡ []) is kinds program_is_free

pub failing : (app : App) (words : List Text) (error : Error) → app ≡ program_app → (is_simple_and_free app ≡ true → HasKind (fault_of app words) error)
    → HasKind (fault_of program_app words) error
failing app words error is kinds = subst (λ (a : App). is_simple_and_free a ≡ true → HasKind (fault_of a words) error) is kinds program_is_free

pub meets : (app : App) (words : List Text) (m : ArgMatches) → app ≡ program_app → HasMatchesOf app words m
    → subcommand_rows_of m ≡ subcommand_of program_app words
meets app words m is has = (subst (λ (a : App). HasMatchesOf a words m) is has program_is_simple).1

pub meets_before : (app : App) (words : List Text) (m : ArgMatches) → app ≡ program_app → HasMatchesOf app words m
    → rows_of (found_of m) ≡ matches_of program_app words
meets_before app words m is has = (subst (λ (a : App). HasMatchesOf a words m) is has program_is_simple).0

-- The reasons are asked for before the command's name or after it.
module _ (before : List Row) (first asks : Bool) (top : (first ≡ true) ↔ IsGiven explain_row before) where
  pub asks_after : (met : Option (Text × List Row)) (name : Text) (rows : List Row) → met ≡ Some (name, rows)
      → (asks ≡ true) ↔ ((first ≡ true) ⊎ IsGiven explain_row rows) → (asks ≡ true) ↔ AsksForReasons before met
  asks_after met name rows is own = subst (λ (o : Option (Text × List Row)). (asks ≡ true) ↔ AsksForReasons before o) (sym is) (λ h. given (own.0 h), λ h. own.1 (asked h))
    where
      given : (first ≡ true) ⊎ IsGiven explain_row rows → IsGiven explain_row before ⊎ IsGiven explain_row rows
      given (inl here) = inl (top.0 here)
      given (inr later) = inr later

      asked : IsGiven explain_row before ⊎ IsGiven explain_row rows → (first ≡ true) ⊎ IsGiven explain_row rows
      asked (inl here) = inl (top.1 here)
      asked (inr later) = inr later

  pub asks_alone : (met : Option (Text × List Row)) → met ≡ None → asks ≡ first → (asks ≡ true) ↔ AsksForReasons before met
  asks_alone met is same = subst (λ (o : Option (Text × List Row)). (asks ≡ true) ↔ AsksForReasons before o) (sym is)
      (λ h. inl (top.0 (sym same ∙ h)), λ h. same ∙ top.1 (only h))
    where
      only : IsGiven explain_row before ⊎ ⊥ → IsGiven explain_row before
      only (inl here) = here
      only (inr none) = absurd none

-- A name and a value of the same thing.
abbrev pub pair_of : {B X Y : Type 0} → (B → X) → (B → Y) → B → X × Y
pair_of f g b = (f b, g b)

pub both_of : {B X Y : Type 0} (f : B → X) (g : B → Y) (o : Option B) (x : X) (y : Y) → Some x ≡ option_map f o
    → Some y ≡ option_map (λ (p : X × Y). p.1) (option_map (pair_of f g) o) → option_map (pair_of f g) o ≡ Some (x, y)
both_of f g None x y first second = cc
both_of f g (Some b) x y first second =
    let same : x ≡ f b = cc in
    let same2 : y ≡ g b = cc in
    rw (same, same2) refl

abbrev nothing : {X : Type 0} → Option X
nothing = None

pub none_of : {B X Y : Type 0} (f : B → X) (g : B → Y) (o : Option B) → nothing ≡ option_map f o
    → nothing ≡ option_map (λ (p : X × Y). p.1) (option_map (pair_of f g) o) → option_map (pair_of f g) o ≡ None
none_of f g None first second = refl
none_of f g (Some b) first second = cc

pub refused : (words : List Text) (kind : ErrorKind) (fault : LineFault) → (kind ≡ OutOfMemory) ⊎ IsAmong kind (fault_of program_app words)
    → IsAnswerTo kind fault → IsRefusal words fault
refused words kind (Usage told text) (inl memory) answer = absurd (answer.1 memory)
refused words kind (Usage told text) (inr among) answer = inl (kind, among, answer)
refused words kind (Help text) (inl memory) (inl help) =
    let bad : OutOfMemory ≡ DisplayHelp = sym memory ∙ help in
    cc
refused words kind (Help text) (inl memory) (inr version) =
    let bad : OutOfMemory ≡ DisplayVersion = sym memory ∙ version in
    cc
refused words kind (Help text) (inr among) answer = inl (kind, among, answer)

pub bad_value : (words : List Text) (name : Text) (rows : List Row) (answer : Refused LineFault) → subcommand_of program_app words ≡ Some (name, rows)
    → UnlessRefused (HasBadValue name rows) answer → UnlessRefused (IsRefusal words) answer
bad_value words name rows (Of fault) met bad = inr (rw met bad)
bad_value words name rows NoMemory met bad = tt

pub in_both : {T E : Type 0} (r : Result T E) (K : Type 0) → K → IfOk r (λ x. K)
in_both (Ok x) K k = k
in_both (Err e) K k = tt
