use Rattle.std.proofs.Common.{◌∙◌, codes, rules, string_bytes, sym, tests}
use Rattle.std.specs.Str.{bytes_eq}
use Rattle.std.proofs.lemmas.Iterator.{YieldsList-from_slice}
use Rattle.std.proofs.lemmas.Iterator.Search.{any_from_yields_List}
use Rattle.vcs_check.proofs.reasons.has_explain.Goals as goal

pub returns : goal.returns
returns c =
    let any = any_from_yields_List (λ word. bytes_eq (string_bytes word) (codes "--explain")) _ _ _ c.any.ensures.ran
    (YieldsList-from_slice c.options_of.result.now c.iter.ensures.rest) (λ x b q k. search (rules, tests)) in
    let is = rw c.options_of.ensures at any in
    (λ h. sym is ∙ h, λ h. is ∙ h)
