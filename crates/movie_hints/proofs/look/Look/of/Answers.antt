use Rattle.std.proofs.Common.{◌∙◌, rules, tests}
use Rattle.std.proofs.lemmas.Iterator.{YieldsList-from_slice}
use Rattle.std.proofs.lemmas.Iterator.Search.{find_from_yields_List}
use Rattle.movie_hints.specs.Looks.{is_like, looks}
use Rattle.movie_hints.proofs.look.Look.of.Goals as goal

pub returns : goal.returns
returns c =
    c.copied.ensures
    ∙ find_from_yields_List (is_like c.args.bytes.now) _ _ _ c.find.ensures.ran
    (YieldsList-from_slice looks c.iter.ensures.rest) (λ x b q k. search (rules, tests))
