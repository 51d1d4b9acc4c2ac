use Rattle.std.proofs.Common.{ap, arith, subst}
use Rattle.std.proofs.lemmas.List.{take_all}
use Rattle.std.proofs.lemmas.Result.{IfOk-weaker}
use Rattle.clap.specs.Words.{App, new_app}
use Rattle.command_line.specs.Table.{IsApp, explain_row}
use Rattle.command_line.proofs.Added.{next_argument, one_argument, ordered_at, rules_of, with_rules}
use Rattle.command_line.proofs.parser.command.Goals as goal

pub argument-requires : goal.argument-requires
argument-requires c = ordered_at c.args.listed.now.arguments.now c.loop-row.row-index _ c.loop-row-test.true c.requires

pub loop-row-preserved : goal.loop-row-preserved
loop-row-preserved c =
    next_argument (new_app c.args.listed.now.name.now) c.args.listed.now.arguments.now c.loop-row.row-index _ c.loop-row.command c.argument.result
    c.in_ok-command.command c.loop-row-test.true c.loop-row.invariant c.argument.ensures c.in_ok-command.ensures

pub returns : goal.returns
returns c =
    let rows = c.args.listed.now.arguments.now in
    let app = new_app c.args.listed.now.name.now in
    let whole : IsApp (with_rules app (rules_of rows)) c.loop-row.command =
    subst (λ taken. IsApp (with_rules app (rules_of taken)) c.loop-row.command) (take_all c.loop-row.row-index rows (omega (arith, c.loop-row-test.false))) c.loop-row.invariant in
    IfOk-weaker c.arg-2.result _ _
    (λ new added.
    let all = one_argument _ explain_row c.loop-row.command c.argument-2.result new whole c.argument-2.ensures added in
    (ap (λ (app : App). app.top) all.0, all.1))
    c.arg-2.ensures
