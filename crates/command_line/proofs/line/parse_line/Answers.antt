use Rattle.std.proofs.Common.{◌≡◌, ◌∙◌, ◌↔◌, map, subst, sym, true}
use Rattle.std.proofs.lemmas.Result.{IfErr-weaker, IfOk-weaker}
use Rattle.clap.specs.Words.{app_of, found_of, matches_of, rows_of}
use Rattle.command_line.specs.Meanings.{IsGiven, IsLine}
use Rattle.command_line.specs.Table.{explain_row, program_app}
use Rattle.command_line.proofs.ClapAnswers.{asks_after, asks_alone, bad_value, both_of, failing, in_both, meets, meets_before, none_of, refused, taken}
use Rattle.command_line.proofs.Numbers.{numbers_met}
use Rattle.command_line.proofs.Stops.{listed_met, named}
use Rattle.command_line.proofs.line.parse_line.Goals as goal

pub returns-in-Err-clause-err : goal.returns-in-Err-clause-err
returns-in-Err-clause-err g c =
    let words = map g.S.AsStr.text c.args.words.now in
    refused words _ _
    (failing (app_of c.in_ok-program.program) words c.in-Err.error c.in_ok-program.ensures.0 c.in-Err.ensures.kinds) c.in_ok-fault_of-in-Err.ensures

pub line_of-requires : goal.line_of-requires
line_of-requires g c =
    let words = map g.S.AsStr.text c.args.words.now in
    let none = taken (app_of c.in_ok-program.program) words c.in_ok-program.ensures.0 c.in-Ok.ensures.kinds in
    let met = meets (app_of c.in_ok-program.program) words c.in-Ok.matches c.in_ok-program.ensures.0 c.in-Ok.ensures.matches in
    let rows = rows_of (found_of c.in-Some.inner.now) in
    let at = sym met ∙ both_of _ _ _ c.in-Some.name.now rows c.in-Some.ensures.name c.in-Some.ensures.rows in
    record { numbers = numbers_met words c.in-Some.name.now rows none at; listed = listed_met words c.in-Some.name.now rows none at }

pub returns-in-Some : goal.returns-in-Some
returns-in-Some g c =
    let words = map g.S.AsStr.text c.args.words.now in
    let met = meets (app_of c.in_ok-program.program) words c.in-Ok.matches c.in_ok-program.ensures.0 c.in-Ok.ensures.matches in
    let at = sym met ∙ both_of _ _ _ c.in-Some.name.now (rows_of (found_of c.in-Some.inner.now)) c.in-Some.ensures.name c.in-Some.ensures.rows in
    let before = meets_before (app_of c.in_ok-program.program) words c.in-Ok.matches c.in_ok-program.ensures.0 c.in-Ok.ensures.matches in
    let top : (c.is_given-explain.result ≡ true) ↔ IsGiven explain_row (matches_of program_app words) =
    subst (λ rows. (c.is_given-explain.result ≡ true) ↔ IsGiven explain_row rows) before c.is_given-explain.ensures in
    record {
      taken = in_both c.line_of.result _ (taken (app_of c.in_ok-program.program) words c.in_ok-program.ensures.0 c.in-Ok.ensures.kinds);
      ok = IfOk-weaker c.line_of.result _ _ (λ line is. named words _ _ line at is) c.line_of.ensures.ok;
      explain = IfOk-weaker c.line_of.result _ _ (λ line own. asks_after (matches_of program_app words) c.is_given-explain.result line.explain top _ _ _ at own) c.line_of.ensures.explain;
      err = IfErr-weaker c.line_of.result _ _ (λ answer bad. bad_value words _ _ answer at bad) c.line_of.ensures.err;
    }

pub returns-clause-taken : goal.returns-clause-taken
returns-clause-taken g c =
    let words = map g.S.AsStr.text c.args.words.now in
    taken (app_of c.in_ok-program.program) words c.in_ok-program.ensures.0 c.in-Ok.ensures.kinds

pub returns-clause-explain : goal.returns-clause-explain
returns-clause-explain g c =
    let words = map g.S.AsStr.text c.args.words.now in
    let met = meets (app_of c.in_ok-program.program) words c.in-Ok.matches c.in_ok-program.ensures.0 c.in-Ok.ensures.matches in
    let none = none_of _ _ _ c.in-None.ensures.name c.in-None.ensures.rows in
    let before = meets_before (app_of c.in_ok-program.program) words c.in-Ok.matches c.in_ok-program.ensures.0 c.in-Ok.ensures.matches in
    let top : (c.is_given-explain.result ≡ true) ↔ IsGiven explain_row (matches_of program_app words) =
    subst (λ rows. (c.is_given-explain.result ≡ true) ↔ IsGiven explain_row rows) before c.is_given-explain.ensures in
    asks_alone (matches_of program_app words) c.is_given-explain.result _ top _ (sym met ∙ none) c.in_ok-line_of_no_words-in-None.ensures.explain

pub returns-clause-ok : goal.returns-clause-ok
returns-clause-ok g c =
    let words = map g.S.AsStr.text c.args.words.now in
    let met = meets (app_of c.in_ok-program.program) words c.in-Ok.matches c.in_ok-program.ensures.0 c.in-Ok.ensures.matches in
    let none = none_of _ _ _ c.in-None.ensures.name c.in-None.ensures.rows in
    subst (λ met. IsLine met c.in_ok-line_of_no_words-in-None.field-0) (sym (sym met ∙ none)) c.in_ok-line_of_no_words-in-None.ensures.ok
