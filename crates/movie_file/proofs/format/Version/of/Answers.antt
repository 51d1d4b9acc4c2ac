use Rattle.std.proofs.Common.{◌==◌, ◌∙◌, ap, rules, tests}
use Rattle.std.specs.Prelude.{Option, find, unwrap_or}
use Rattle.std.proofs.lemmas.Iterator.{YieldsList-from_slice}
use Rattle.std.proofs.lemmas.Iterator.Search.{find_from_yields_List}
use Rattle.movie_file.specs.declared.format.Version.{Version}
use Rattle.movie_file.specs.Format.{version_2}
use Rattle.movie_file.proofs.format.Version.of.Goals as goal

pub returns : goal.returns
returns c =
    let found =
    find_from_yields_List (λ version. version.number == c.args.number) _ _ _ c.find-found.ensures.ran
    (YieldsList-from_slice c.all.result.now c.iter.ensures.rest) (λ x b q k. search (rules, tests)) in
    c.unwrap_or.ensures
    ∙ ap (λ (o : Option Version). unwrap_or o version_2)
    (c.copied.ensures ∙ found ∙ ap (find (λ version. version.number == c.args.number)) c.all.ensures)
