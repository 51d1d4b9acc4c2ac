use Rattle.std.proofs.Common.{◌≡◌, ◌∙◌, ap, arith, codes, false, subst, true}
use Rattle.std.proofs.lemmas.List.{take_all}
use Rattle.clap.specs.Words.{App, app_of, new_app}
use Rattle.clap.specs.Simple.{app_of_fields}
use Rattle.clap.specs.declared.builder.Command.TheViews.{out-Command}
use Rattle.command_line.specs.Table.{IsApp, commands, explain_row, with_listed}
use Rattle.command_line.proofs.Added.{all_ordered_at, commands_of, next_command, one_argument}
use Rattle.command_line.proofs.parser.program.Invariants.{bare}
use Rattle.command_line.proofs.parser.program.Goals as goal

abbrev versioned : App → App
versioned app = record app { top = record app.top { has_version = true } }

abbrev long_versioned : App → App
long_versioned app = record app { top = record app.top { has_long_version = true } }

-- The program before its option and its commands.
abbrev named : App
named = long_versioned (versioned (new_app (codes "vcs_check")))

pub loop-listed-init : goal.loop-listed-init
loop-listed-init c =
    let with_version : app_of c.version.result ≡ versioned (new_app (codes "vcs_check")) =
    ap app_of_fields c.version.ensures ∙ ap versioned c.new.ensures.app in
    let with_long : app_of c.long_version.result ≡ named = ap app_of_fields c.long_version.ensures ∙ ap long_versioned with_version in
    let first : app_of c.after_help-bare.result ≡ named = ap app_of_fields c.after_help-bare.ensures ∙ ap app_of_fields c.about.ensures ∙ with_long in
    let local : (out-Command c.after_help-bare.result).has_globals ≡ false =
    ap (λ f. f.has_globals) c.after_help-bare.ensures
    ∙ ap (λ f. f.has_globals) c.about.ensures
    ∙ ap (λ f. f.has_globals) c.long_version.ensures
    ∙ ap (λ f. f.has_globals) c.version.ensures
    ∙ c.new.ensures.local in
    one_argument named explain_row c.after_help-bare.result c.argument.result c.in_ok-program.program (first, local) c.argument.ensures c.in_ok-program.ensures

pub command-requires : goal.command-requires
command-requires c = all_ordered_at c.all-table.result.now c.loop-listed.listed-index _ c.loop-listed-test.true (rw c.all-table.ensures (grind arith))

pub loop-listed-preserved : goal.loop-listed-preserved
loop-listed-preserved c =
    next_command bare c.all-table.result.now c.loop-listed.listed-index _ c.loop-listed.program c.in_ok-command.field-0
    c.in_ok-program-2.program c.loop-listed-test.true c.loop-listed.invariant c.in_ok-command.ensures c.in_ok-program-2.ensures

pub returns : goal.returns
returns c =
    let whole : IsApp (with_listed bare (commands_of c.all-table.result.now)) c.loop-listed.program =
    subst (λ taken. IsApp (with_listed bare (commands_of taken)) c.loop-listed.program)
    (take_all c.loop-listed.listed-index c.all-table.result.now (omega (arith, c.loop-listed-test.false))) c.loop-listed.invariant in
    let same : commands_of c.all-table.result.now ≡ commands = c.all-table.ensures in
    subst (λ listed. IsApp (with_listed bare listed) c.loop-listed.program) same whole
