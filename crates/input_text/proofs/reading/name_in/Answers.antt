use Rattle.std.proofs.Common.{◌∙◌, rules, tests}
use Rattle.std.specs.Str.{bytes_eq}
use Rattle.std.proofs.lemmas.Iterator.{YieldsList-from_slice}
use Rattle.std.proofs.lemmas.Iterator.Search.{find_from_yields_List}
use Rattle.input_text.specs.Names.{bit_of_name, names}
use Rattle.input_text.proofs.reading.name_in.Goals as goal

pub returns : goal.returns
returns c =
    c.copied.ensures
    ∙ find_from_yields_List (λ name. bytes_eq (bit_of_name name).word c.args.word.now) _ _ _ c.find.ensures.ran
    (YieldsList-from_slice names c.iter.ensures.rest) (λ x b q k. search (rules, tests))
