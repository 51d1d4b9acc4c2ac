use Rattle.std.proofs.Common.{◌∙◌, ap, option_map, rules, tests}
use Rattle.std.specs.Borrow.{Bor}
use Rattle.std.specs.Prelude.{not}
use Rattle.std.proofs.lemmas.Iterator.{YieldsList-from_slice}
use Rattle.std.proofs.lemmas.Iterator.Search.{find_from_yields_List}
use Rattle.clap.specs.Words.{Text}
use Rattle.command_line.specs.Faults.{is_in_memory}
use Rattle.command_line.specs.Meanings.{byte_in}
use Rattle.command_line.proofs.Addresses.{find_text}
use Rattle.command_line.proofs.frames.first_no_address.Goals as goal

pub returns : goal.returns
returns c =
    let found = c.copied.ensures
    ∙ find_from_yields_List (λ (word : Bor Text). not (is_in_memory (byte_in word.now))) _ _ c.find.result c.find.ensures.ran
    (YieldsList-from_slice c.args.words.now c.iter.ensures.rest) (λ x b q k. search (rules, tests)) in
    ap (option_map (λ (word : Bor Text). word.now)) found ∙ find_text (λ word. not (is_in_memory (byte_in word))) c.args.words.now
