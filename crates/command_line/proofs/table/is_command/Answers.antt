use Rattle.std.proofs.Common.{◌∙◌, ap, rules, tests}
use Rattle.std.specs.Str.{bytes_eq}
use Rattle.std.proofs.lemmas.Iterator.{YieldsList-from_slice}
use Rattle.std.proofs.lemmas.Iterator.Search.{any_from_yields_List}
use Rattle.std.specs.List.{list_any}
use Rattle.command_line.specs.declared.table.Listed.{Listed}
use Rattle.command_line.specs.Rows.{listed_of}
use Rattle.command_line.specs.Table as table
use Rattle.command_line.proofs.Lists.{any_mapped}
use Rattle.command_line.proofs.table.is_command.Goals as goal

pub returns : goal.returns
returns c =
    let any = any_from_yields_List (λ (listed : Listed). bytes_eq listed.name.now c.args.name.now) _ _ _ c.any.ensures.ran
    (YieldsList-from_slice _ c.iter.ensures.rest) (λ x b q k. search (rules, tests)) in
    any ∙ any_mapped listed_of (λ (listed : table.Listed). bytes_eq listed.name c.args.name.now) _
    ∙ ap (list_any (λ (listed : table.Listed). bytes_eq listed.name c.args.name.now)) c.all.ensures
