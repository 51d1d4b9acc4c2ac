-- Where the parse of a command finds no mistake, each of its numbers is there, and in its range.
use Rattle.std.proofs.Common.{◌≡◌, ◌&&◌, ◌||◌, ◌⊎◌, ℕ, Bool, true, false, not, List, [], ◌∷◌, rules}
use Rattle.std.proofs.Common.{Option, Some, None, if◌then◌else◌, is_some, sym, subst, refl}
use Rattle.std.proofs.Common.{inl, inr, IfSome, arith}
use Rattle.std.specs.Prelude.{find, fold, slice_get, option_and_then, option_map}
use Rattle.std.specs.List.{list_any}
use Rattle.std.specs.Option.{option_map_or}
use Rattle.std.specs.Str.{bytes_eq}
use Rattle.std.proofs.lemmas.Slice.Eq.{bytes_eq-Decides}
use Rattle.clap.specs.Words.{App, Row, Rule, Shape, Text, fault_of, one_of, read_as, subcommand_of}
use Rattle.clap.specs.Walk.{Held, answers_to, finished, has_row, is_empty}
use Rattle.clap.specs.Walk.{nothing_held, row_text, rows_after, settled, stop_after}
use Rattle.clap.specs.Walk.{walk, walk_from, with_default, with_values, default_rows}
use Rattle.clap.specs.Simple.{argument_words, built, entered, label_of, names_of, rows_at}
use Rattle.clap.specs.Faults.{built_fault, check_fault, defaults_fault, entered_fault, level_fault, settle_fault, walk_fault}
use Rattle.clap.specs.Kinds.{check_kinds, or_else}
use Rattle.clap.specs.Takes.{is_given}
use Rattle.clap.specs.Facts.{explicit_source}
use Rattle.clap.specs.declared.builder.value_parser.Reading.{Reading}
use Rattle.clap.specs.declared.parser.matches.ValueSource.TheVariants.{DefaultValue}
use Rattle.command_line.specs.Table.{Argument, Kind, Listed, commands, needed_number, number, operand, program_app, switch}
use Rattle.command_line.specs.Table.{needed_word, repeated_word, word}
use Rattle.std.proofs.lemmas.Option.{IfSome_then}
use Rattle.command_line.specs.Private.Numbers.{HasNumbersOf, IsNumberIn, Suits, SuitsEach}
use Rattle.command_line.proofs.Lists.{Each, found}
use Rattle.command_line.proofs.FoundNumbers.{AreGood, AreOwn, IsFilled, IsGood, by_cases, defaults_good, none_first, none_then, settled_good, walk_good}

module _ (id : Text) (least most : ℕ) where
  -- ---- the argument is there

  -- One of the arguments has this name, and texts that stand for it if it isn't there.
  abbrev pub HasDefault : List Rule → Type 0
  HasDefault [] = ⊥
  HasDefault (a ∷ more) = ((bytes_eq a.id id ≡ true) × (is_empty a.defaults ≡ false)) ⊎ HasDefault more

  or_left : (a b : Bool) → a ≡ true → (a || b) ≡ true
  or_left a b e = grind arith

  or_right : (a b : Bool) → b ≡ true → (a || b) ≡ true
  or_right a b e = grind arith

  or_more : (b x y : Bool) → (x ≡ true → y ≡ true) → (b || x) ≡ true → (b || y) ≡ true
  or_more b x y f e = grind arith

  -- A default adds a row and takes none away.
  row_stays : (name : Text) (how : Reading) (texts : List Text) (rows : List Row) → has_row id rows ≡ true
      → has_row id (with_values name how DefaultValue texts rows) ≡ true
  row_stays name how texts [] there = cc
  row_stays name how texts (r ∷ rs) there =
      by_cases (λ rows. has_row id rows ≡ true) (bytes_eq r.id name) _ _ (λ e. there)
      (λ e. or_more (bytes_eq r.id id) (has_row id rs) _ (row_stays name how texts rs) there)

  default_stays : (name : Text) (how : Reading) (texts : List Text) (rows : List Row) → has_row id rows ≡ true
      → has_row id (default_rows name how texts rows) ≡ true
  default_stays name how texts rows there = grind (arith, there, row_stays)

  stays : (a : Rule) (rows : List Row) → has_row id rows ≡ true → has_row id (with_default rows a) ≡ true
  stays a rows there = grind (arith, there, by_cases, default_stays)

  all_stay : (c : List Rule) (rows : List Row) → has_row id rows ≡ true → has_row id (fold with_default rows c) ≡ true
  all_stay [] rows there = there
  all_stay (a ∷ more) rows there = all_stay more (with_default rows a) (stays a rows there)

  row_added : (name : Text) (how : Reading) (texts : List Text) (rows : List Row) → name ≡ id
      → has_row id (with_values name how DefaultValue texts rows) ≡ true
  row_added name how texts [] is = or_left (bytes_eq name id) false ((bytes_eq-Decides name id).1 is)
  row_added name how texts (r ∷ rs) is =
      by_cases (λ rows. has_row id rows ≡ true) (bytes_eq r.id name) _ _
      (λ e. or_left (bytes_eq r.id id) (has_row id rs) (subst (λ (t : Text). bytes_eq r.id t ≡ true) is e))
      (λ e. or_right (bytes_eq r.id id) _ (row_added name how texts rs is))

  added : (name : Text) (how : Reading) (texts : List Text) (rows : List Row) → name ≡ id → is_empty texts ≡ false
      → has_row id (default_rows name how texts rows) ≡ true
  added name how texts rows is some = grind (arith, row_added)

  default_added : (a : Rule) (rows : List Row) → a.id ≡ id → is_empty a.defaults ≡ false → has_row id (with_default rows a) ≡ true
  default_added a rows is some = grind (arith, by_cases, added)

  default_there : (c : List Rule) (rows : List Row) → HasDefault c → has_row id (fold with_default rows c) ≡ true
  default_there [] rows has = absurd has
  default_there (a ∷ more) rows (inl here) = all_stay more (with_default rows a) (default_added a rows ((bytes_eq-Decides a.id id).0 here.0) here.1)
  default_there (a ∷ more) rows (inr later) = default_there more (with_default rows a) later

  -- One of the arguments has this name, and has to be there.
  abbrev pub IsNeeded : List Rule → Type 0
  IsNeeded [] = ⊥
  IsNeeded (a ∷ more) = ((bytes_eq a.id id ≡ true) × (a.required ≡ true)) ⊎ IsNeeded more

  given_there : (name : Text) (rows : List Row) → name ≡ id → is_given name rows ≡ true → is_some (find (λ r. bytes_eq r.id id) rows) ≡ true
  given_there name rows is given = go (find (λ r. bytes_eq r.id id) rows) (subst (λ (t : Text). is_given t rows ≡ true) is given)
    where
      go : (o : Option Row) → option_map_or (λ r. explicit_source r.source) o false ≡ true → is_some o ≡ true
      go None e = cc
      go (Some r) e = refl

  neither : (b d : Bool) → (b || d) ≡ false → (b ≡ false) × (d ≡ false)
  neither b d none = grind arith

  given_if_needed : (b g : Bool) → b ≡ true → (b && not g) ≡ false → g ≡ true
  given_if_needed b g e n = grind arith

  needed_there : (c : List Rule) (rows : List Row) → IsNeeded c → list_any (λ a. a.required && not (is_given a.id rows)) c ≡ false
      → is_some (find (λ r. bytes_eq r.id id) rows) ≡ true
  needed_there [] rows has none = absurd has
  needed_there (a ∷ more) rows (inl here) none =
      given_there a.id rows ((bytes_eq-Decides a.id id).0 here.0) (given_if_needed a.required _ here.1 (neither _ _ none).0)
  needed_there (a ∷ more) rows (inr later) none = needed_there more rows later (neither (a.required && not (is_given a.id rows)) _ none).1

  row_there : (rows : List Row) → has_row id rows ≡ true → is_some (find (λ r. bytes_eq r.id id) rows) ≡ true
  row_there [] e = cc
  row_there (r ∷ rs) e = go (bytes_eq r.id id) e (row_there rs)
    where
      go : (b : Bool) → (b || has_row id rs) ≡ true → (has_row id rs ≡ true → is_some (find (λ r. bytes_eq r.id id) rs) ≡ true)
          → is_some (if b then Some r else find (λ r. bytes_eq r.id id) rs) ≡ true
      go true e later = refl
      go false e later = later e

  -- ---- its number

  first_in : (r : Row) → IsGood id least most r → IsNumberIn least most (row_text r)
  first_in r good = go r.values r.reading good
    where
      go : (values : List Text) (how : Reading) → IsFilled id least most values how → IsNumberIn least most (option_map (read_as how) (slice_get values 0))
      go [] how filled = absurd (omega (arith, filled.0))
      go (v ∷ vs) how filled = subst (λ (h : Reading). IsNumberIn least most (Some (read_as h v))) (sym filled.2) filled.1.0

  found_in : (rows : List Row) → AreGood id least most rows → is_some (find (λ r. bytes_eq r.id id) rows) ≡ true
      → IsNumberIn least most (option_and_then row_text (find (λ r. bytes_eq r.id id) rows))
  found_in rows good there = go (find (λ r. bytes_eq r.id id) rows) refl there
    where
      go : (o : Option Row) → find (λ r. bytes_eq r.id id) rows ≡ o → is_some o ≡ true → IsNumberIn least most (option_and_then row_text o)
      go None e t = cc
      go (Some r) e t =
          let met = found _ _ rows r good e in
          first_in r (met.0 met.1)

  none_wanted : (x y z : Bool) → check_kinds x y z ≡ [] → z ≡ false
  none_wanted x y z h = grind arith

  not_both : (b c : Bool) → (not (b && false) && c) ≡ false → c ≡ false
  not_both b c h = grind arith

  -- Of a command that was parsed without a mistake the number is there, and in its range.
  pub number_there : (s : Shape) (words : List Text) → AreOwn id least most s.rules → HasDefault s.rules ⊎ IsNeeded s.rules
      → level_fault s [] nothing_held words false [] ≡ [] → IsNumberIn least most (one_of id (rows_after s.rules [] words))
  number_there s words own wanted none = found_in (fold with_default held s.rules) good (there wanted)
    where
      end : Held
      end = (walk s.rules [] nothing_held words).held

      held : List Row
      held = (settled s.rules end).rows

      walked_fine : walk_fault s [] (walk_from nothing_held) words ≡ []
      walked_fine = none_first _ _ none

      after : or_else (settle_fault s.rules s.args_override_self end) (or_else (defaults_fault held s.rules) (check_fault s (finished s.rules end) false)) ≡ []
      after = none_then (walk_fault s [] (walk_from nothing_held) words) _ none

      filled : or_else (defaults_fault held s.rules) (check_fault s (finished s.rules end) false) ≡ []
      filled = none_then (settle_fault s.rules s.args_override_self end) _ after

      good : AreGood id least most (fold with_default held s.rules)
      good = defaults_good id least most s.rules held own (none_first _ _ filled)
          (settled_good id least most s.rules s.args_override_self own end (none_first _ _ after)
          (walk_good id least most s [] own (walk_from nothing_held) words walked_fine tt))

      checked : check_fault s (finished s.rules end) false ≡ []
      checked = none_then (defaults_fault held s.rules) _ filled

      there : HasDefault s.rules ⊎ IsNeeded s.rules → is_some (find (λ r. bytes_eq r.id id) (fold with_default held s.rules)) ≡ true
      there (inl default) = row_there (fold with_default held s.rules) (default_there s.rules held default)
      there (inr needed) = needed_there s.rules (finished s.rules end) needed
          (not_both s.subcommand_negates_reqs _ (none_wanted _ _ _ checked))

-- ---- the commands of the program

-- The argument is among the rules as the table has it: an option with a number has a default, or has to be there.
abbrev IsRuled : List Rule → Kind → Text → Type 0
IsRuled all (number least most default) name = AreOwn name least most all × HasDefault name least most all
IsRuled all (needed_number least most) name = AreOwn name least most all × IsNeeded name least most all
IsRuled all other name = Unit {0}

-- The arguments of the command are among its rules, if the table has the command.
abbrev IsRuledShape : Shape → Type 0
IsRuledShape s =
    IfSome (find (λ (listed : Listed). bytes_eq listed.name s.name) commands)
    (λ listed. Each (λ (argument : Argument). IsRuled s.rules argument.kind argument.name) listed.arguments)

module _ (s : Shape) (words : List Text) (none : level_fault s [] nothing_held words false [] ≡ []) where
  one_suits : (kind : Kind) (name : Text) → IsRuled s.rules kind name → Suits kind (one_of name (rows_after s.rules [] words))
  one_suits (number least most default) name ruled = number_there name least most s words ruled.0 (inl ruled.1) none
  one_suits (needed_number least most) name ruled = number_there name least most s words ruled.0 (inr ruled.1) none
  one_suits operand name ruled = tt
  one_suits word name ruled = tt
  one_suits needed_word name ruled = tt
  one_suits switch name ruled = tt
  one_suits repeated_word name ruled = tt

  each_suits : (arguments : List Argument) → Each (λ (argument : Argument). IsRuled s.rules argument.kind argument.name) arguments
      → SuitsEach arguments (rows_after s.rules [] words)
  each_suits [] ruled = tt
  each_suits (argument ∷ more) ruled = (one_suits argument.kind argument.name ruled.0, each_suits more ruled.1)

  -- Each number of such a command is in its range.
  has_numbers : IsRuledShape s → HasNumbersOf s.name (rows_after s.rules [] words)
  has_numbers ruled = IfSome_then {X = Listed} _ ruled (λ listed each. each_suits listed.arguments each)

program_ruled : Each IsRuledShape (built program_app).subs
program_ruled = search rules

entered_has : (a : App) (stop : Option (Text × List Text)) → Each IsRuledShape a.subs → entered_fault a stop ≡ []
    → IfSome (entered a stop) (λ met. HasNumbersOf met.0 met.1)
entered_has a None have none = tt
entered_has a (Some p) have none = go (find (λ s. answers_to p.0 (label_of s)) a.subs) refl none
  where
    go : (o : Option Shape) → find (λ s. answers_to p.0 (label_of s)) a.subs ≡ o
        → option_map_or (λ s. level_fault s [] nothing_held p.1 false []) o [] ≡ []
        → IfSome (option_map (λ s. rows_at s p.1) o) (λ met. HasNumbersOf met.0 met.1)
    go None e n = tt
    go (Some s) e n = has_numbers s p.1 n (found IsRuledShape _ a.subs s have e).0

built_has : (a : App) (words : List Text) → Each IsRuledShape a.subs → built_fault a nothing_held words ≡ []
    → IfSome (entered a (stop_after a.top.rules (names_of a) words)) (λ met. HasNumbersOf met.0 met.1)
built_has a words have none = grind (arith, entered_has, none_first, none_then)

-- The values at which a command of the program was met have its numbers, each in its range.
pub numbers_met : (words : List Text) (name : Text) (rows : List Row) → fault_of program_app words ≡ [] → subcommand_of program_app words ≡ Some (name, rows)
    → HasNumbersOf name rows
numbers_met words name rows none met = subst (λ (o : Option (Text × List Row)). IfSome o (λ met. HasNumbersOf met.0 met.1)) met
    (built_has (built program_app) (argument_words program_app words) program_ruled none)
