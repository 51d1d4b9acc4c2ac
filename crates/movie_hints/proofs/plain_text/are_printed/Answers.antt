use Rattle.std.proofs.Common.{◌||◌, nat_le, rules, tests}
use Rattle.std.proofs.lemmas.Iterator.{YieldsList-from_slice}
use Rattle.std.proofs.lemmas.Iterator.Search.{all_from_yields_List}
use Rattle.movie_hints.specs.Hints.{is_printed}
use Rattle.movie_hints.proofs.plain_text.are_printed.Goals as goal

pub returns : goal.returns
returns c =
    all_from_yields_List (λ byte. is_printed byte || nat_le 0x80 byte) _ _ _ c.all.ensures.ran
    (YieldsList-from_slice c.args.bytes.now c.iter.ensures.rest) (λ x b q k. search (rules, tests))
