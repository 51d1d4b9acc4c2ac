-- Where the walk over the words finds no mistake, it stops at no `help`.
use Rattle.std.proofs.Common.{◌≡◌, ◌∙◌, ◌||◌, Bool, true, false, List, [], ◌∷◌}
use Rattle.std.proofs.Common.{Option, Some, None, option_map, if◌then◌else◌, is_some, codes, sym}
use Rattle.std.proofs.Common.{subst, refl, ap, rules, IfSome}
use Rattle.std.specs.Prelude.{find, fold}
use Rattle.std.specs.Str.{bytes_eq}
use Rattle.std.proofs.lemmas.Slice.Eq.{bytes_eq-Decides}
use Rattle.clap.specs.Words.{App, Row, Shape, Text, fault_of, subcommand_of}
use Rattle.clap.specs.Walk.{Names, Walk, after_step, answers_to, nothing_held, stop_after}
use Rattle.clap.specs.Walk.{subcommand_met, subcommand_or_other, value, walk_from}
use Rattle.clap.specs.Walk.{walked, walked_from, word_met}
use Rattle.clap.specs.Simple.{argument_words, built, entered, label_of, names_of, rows_at}
use Rattle.clap.specs.Faults.{other_fault, step_fault, turn_fault, walk_fault, word_fault}
use Rattle.clap.specs.Kinds.{or_else}
use Rattle.std.specs.List.{list_any}
use Rattle.command_line.proofs.FoundNumbers.{none_first, none_then}
use Rattle.command_line.proofs.Lists.{Each, found}
use Rattle.command_line.specs.Meanings.{IsLine, IsLineAt}
use Rattle.command_line.specs.Private.Names.{IsUnlisted}
use Rattle.command_line.specs.Table.{Listed, commands, program_app}
use Rattle.command_line.specs.declared.command.CommandLine.{CommandLine}

-- ---- one word

-- The walk did not stop, or at another word than `help`.
abbrev NoHelp : Option (Text × List Text) → Type 0
NoHelp None = Unit {0}
NoHelp (Some p) = bytes_eq p.0 (codes "help") ≡ false

by_name : (s : Shape) (w : Walk) (word : Text) (t : Bool) (m : Option Text) → s.disable_help_subcommand ≡ false → NoHelp w.stopped
    → (if t then [] else other_fault s m word w.held) ≡ []
    → NoHelp (after_step s.rules word w (if t then (w.held, value) else subcommand_or_other s.rules m w.waiting w.position word w.held).0
    (if t then (w.held, value) else subcommand_or_other s.rules m w.waiting w.position word w.held).1).stopped
by_name s w word t m off clear none = search rules

one_word : (s : Shape) (names : Names) (w : Walk) (word : Text) → s.disable_help_subcommand ≡ false → NoHelp w.stopped
    → turn_fault s names w word ≡ [] → NoHelp (walked s.rules names w word).stopped
unfolding walked
one_word s names w word off clear none = go w.stopped clear none
  where
    go : (o : Option (Text × List Text)) → NoHelp o
        → (if is_some o then [] else or_else (word_fault s names w.is_trailing w.waiting word w.held)
        (step_fault s w.position (word_met s.rules names w.is_trailing w.waiting w.position word w.held).0
        (word_met s.rules names w.is_trailing w.waiting w.position word w.held).1)) ≡ []
        → NoHelp (walked_from s.rules names o w word).stopped
    go (Some p) named fine = named
    go None named fine = by_name s w word w.is_trailing (subcommand_met names w.waiting word) off clear (none_first _ _ fine)

-- ---- all words

all_words : (s : Shape) (names : Names) (w : Walk) (words : List Text) → s.disable_help_subcommand ≡ false → NoHelp w.stopped
    → walk_fault s names w words ≡ [] → NoHelp (fold (walked s.rules names) w words).stopped
unfolding walk_fault
all_words s names w [] off clear none = clear
all_words s names w (word ∷ rest) off clear none =
    all_words s names (walked s.rules names w word) rest off
    (one_word s names w word off clear (none_first (turn_fault s names w word) _ none)) (none_then (turn_fault s names w word) _ none)

-- ---- the command at which the walk stopped

-- A command of the program has no aliases, and is `help` or one of the table.
abbrev IsKnown : Shape → Type 0
IsKnown s =
    (s.aliases ≡ []) × ((bytes_eq s.name (codes "help") || list_any (λ listed. bytes_eq listed.name s.name) commands) ≡ true)

answers_by_name : (s : Shape) (word : Text) → s.aliases ≡ [] → answers_to word (label_of s) ≡ true → bytes_eq s.name word ≡ true
answers_by_name s word bare h =
    let now : (bytes_eq s.name word || false) ≡ true = rw bare at h in
    yes (bytes_eq s.name word) now
  where
    yes : (b : Bool) → (b || false) ≡ true → b ≡ true
    yes true h = refl
    yes false h = h

listed : (name : Text) (table : List Listed) → list_any (λ one. bytes_eq one.name name) table ≡ true → IsUnlisted name table → ⊥
listed name [] there clear = cc
listed name (one ∷ more) there clear = go (bytes_eq one.name name) refl there (λ later. listed name more later clear.1)
  where
    go : (b : Bool) → bytes_eq one.name name ≡ b → (b || list_any (λ one. bytes_eq one.name name) more) ≡ true
        → (list_any (λ one. bytes_eq one.name name) more ≡ true → ⊥) → ⊥
    go true e is later = clear.0 (sym ((bytes_eq-Decides one.name name).0 e))
    go false e is later = later is

-- The table has the command that a word names, if the word is not `help`.
named_listed : (s : Shape) (word : Text) → IsKnown s × (answers_to word (label_of s) ≡ true) → bytes_eq word (codes "help") ≡ false
    → IsUnlisted s.name commands → ⊥
named_listed s word met clear =
    let same = (bytes_eq-Decides s.name word).0 (answers_by_name s word met.0.0 met.1) in
    let other : bytes_eq s.name (codes "help") ≡ false = ap (λ (t : Text). bytes_eq t (codes "help")) same ∙ clear in
    listed s.name commands (rw other at met.0.1)

entered_met : (a : App) (stop : Option (Text × List Text)) → Each IsKnown a.subs → NoHelp stop
    → IfSome (entered a stop) (λ met. IsUnlisted met.0 commands → ⊥)
entered_met a None known clear = tt
entered_met a (Some p) known clear = go (find (λ s. answers_to p.0 (label_of s)) a.subs) refl
  where
    go : (o : Option Shape) → find (λ s. answers_to p.0 (label_of s)) a.subs ≡ o
        → IfSome (option_map (λ s. rows_at s p.1) o) (λ met. IsUnlisted met.0 commands → ⊥)
    go None e = tt
    go (Some s) e = named_listed s p.0 (found IsKnown _ a.subs s known e) clear

program_known : Each IsKnown (built program_app).subs
program_known = search rules

-- The name at which `clap` met a command is one of the table's.
pub listed_met : (words : List Text) (name : Text) (rows : List Row) → fault_of program_app words ≡ [] → subcommand_of program_app words ≡ Some (name, rows)
    → IsUnlisted name commands → ⊥
listed_met words name rows none met =
    let a = built program_app in
    let all = argument_words program_app words in
    let clear = all_words a.top (names_of a) (walk_from nothing_held) all refl tt (none_first _ _ none) in
    subst (λ (o : Option (Text × List Row)). IfSome o (λ met. IsUnlisted met.0 commands → ⊥)) met
    (entered_met a (stop_after a.top.rules (names_of a) all) program_known clear)

pub named : (words : List Text) (name : Text) (rows : List Row) (line : CommandLine) → subcommand_of program_app words ≡ Some (name, rows)
    → IsLineAt name rows line → IsLine (subcommand_of program_app words) line
named words name rows line met at = subst (λ (o : Option (Text × List Row)). IsLine o line) (sym met) at
