-- A command gets the arguments of its rows, and a program the commands of the table, one after another.
use Rattle.std.proofs.Common.{◌≡◌, ◌∙◌, ◌||◌, ◌<◌, ◌+◌, ℕ, zero, suc, ap, ap₂, arith, sym, refl, List, [], ◌∷◌, ◌++◌, get_or, length, map, take}
use Rattle.std.proofs.lemmas.List.{append_assoc, map_more, map_push}
use Rattle.clap.specs.Words.{AddsArg, AddsSubcommand, App, Rule, with_rule, with_subcommand}
use Rattle.clap.specs.declared.builder.Arg.{Arg}
use Rattle.clap.specs.declared.builder.Command.{Command}
use Rattle.command_line.specs.Private.Numbers.{AreOrdered, IsOrdered}
use Rattle.command_line.specs.Rows.{argument_of, listed_of}
use Rattle.command_line.specs.Table.{Argument, IsApp, IsListed, IsRow, Listed, rule_for, shape_for, with_listed}
use Rattle.command_line.specs.declared.table.Argument.{Argument as Row}
use Rattle.command_line.specs.declared.table.Listed.{Listed as Entry}

-- An app with more rules.
abbrev pub with_rules : App → List Rule → App
with_rules app rules = record app { top = record app.top { rules = app.top.rules ++ rules } }

-- The rules of some rows, and the commands of some entries.
abbrev pub rules_of : List Row → List Rule
rules_of rows = map rule_for (map (λ (row : Row). argument_of row) rows)

abbrev pub commands_of : List Entry → List Listed
commands_of entries = map (λ (entry : Entry). listed_of entry) entries

pub one_argument : (app : App) (row : Argument) (old : Command) (argument : Arg) (new : Command)
    → IsApp app old → IsRow row argument → AddsArg old argument new → IsApp (with_rule app (rule_for row)) new
one_argument app row old argument new is own added =
    (added.shape own.1 ∙ ap₂ with_rule is.0 own.0, added.globals ∙ ap₂ (λ x y. x || y) is.1 own.1)

-- After one more row.
one_after : (app : App) (rules : List Rule) (rule : Rule) → with_rule (with_rules app rules) rule ≡ with_rules app (rules ++ (rule ∷ []))
one_after app rules rule = ap (λ rules. record app { top = record app.top { rules = rules } }) (append_assoc app.top.rules rules (rule ∷ []))

pub next_argument : (app : App) (rows : List Row) (i : ℕ) (d : Row) (old : Command) (argument : Arg) (new : Command) → i < length rows
    → IsApp (with_rules app (rules_of (take i rows))) old → IsRow (argument_of (get_or rows i d)) argument → AddsArg old argument new
    → IsApp (with_rules app (rules_of (take (i + 1) rows))) new
next_argument app rows i d old argument new less is own added =
    let row = argument_of (get_or rows i d) in
    let one = one_argument (with_rules app (rules_of (take i rows))) row old argument new is own added in
    let more : rules_of (take (i + 1) rows) ≡ rules_of (take i rows) ++ (rule_for row ∷ []) =
    ap (map rule_for) (map_more (λ (row : Row). argument_of row) rows i d less) ∙ map_push rule_for (map (λ (row : Row). argument_of row) (take i rows)) row in
    (one.0 ∙ one_after app (rules_of (take i rows)) (rule_for row) ∙ ap (with_rules app) (sym more), one.1)

-- The same of commands.
pub one_command : (app : App) (listed : Listed) (old command new : Command)
    → IsApp app old → IsListed listed command → AddsSubcommand old command new → IsApp (with_subcommand app (shape_for listed)) new
one_command app listed old command new is own added =
    (added.shape own.1 ∙ ap₂ with_subcommand is.0 own.0, added.globals ∙ ap₂ (λ x y. x || y) is.1 own.1)

listed_after : (app : App) (listed : List Listed) (one : Listed) → with_listed app (listed ++ (one ∷ [])) ≡ with_subcommand (with_listed app listed) (shape_for one)
listed_after app [] one = refl
listed_after app (first ∷ more) one = listed_after (with_subcommand app (shape_for first)) more one

pub next_command : (app : App) (entries : List Entry) (i : ℕ) (d : Entry) (old command new : Command) → i < length entries
    → IsApp (with_listed app (commands_of (take i entries))) old → IsListed (listed_of (get_or entries i d)) command → AddsSubcommand old command new
    → IsApp (with_listed app (commands_of (take (i + 1) entries))) new
next_command app entries i d old command new less is own added =
    let entry = listed_of (get_or entries i d) in
    let one = one_command (with_listed app (commands_of (take i entries))) entry old command new is own added in (
      one.0 ∙ sym (listed_after app (commands_of (take i entries)) entry)
          ∙ ap (with_listed app) (sym (map_more (λ (entry : Entry). listed_of entry) entries i d less)),
      one.1,
    )

-- The numbers of each row begin with the least of them, and so of each row of each command.
pub ordered_at : (rows : List Row) (i : ℕ) (d : Row) → i < length rows → AreOrdered (map (λ (row : Row). argument_of row) rows)
    → IsOrdered (argument_of (get_or rows i d)).kind
ordered_at [] i d less are = absurd (omega (arith, less))
ordered_at (row ∷ rows) zero d less are = are.0
ordered_at (row ∷ rows) (suc i) d less are = ordered_at rows i d (omega (arith, less)) are.1

abbrev pub AllOrdered : List Listed → Type 0
AllOrdered [] = Unit {0}
AllOrdered (listed ∷ more) = AreOrdered listed.arguments × AllOrdered more

pub all_ordered_at : (entries : List Entry) (i : ℕ) (d : Entry) → i < length entries → AllOrdered (commands_of entries)
    → AreOrdered (listed_of (get_or entries i d)).arguments
all_ordered_at [] i d less are = absurd (omega (arith, less))
all_ordered_at (entry ∷ entries) zero d less are = are.0
all_ordered_at (entry ∷ entries) (suc i) d less are = all_ordered_at entries i d (omega (arith, less)) are.1
