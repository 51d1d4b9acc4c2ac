use Rattle.std.proofs.Common.{◌≡◌, ◌++◌, ◌∷◌, [], List, ℕ, false, ap, sym, ◌∙◌, take, append_assoc, get_or}
use Rattle.std.specs.List.{flat_map}
use Rattle.std.specs.String.{string_bytes}
use Rattle.std.proofs.lemmas.List.{take_all}
use Rattle.trace_text.proofs.AccessTexts.{one_more}
use Rattle.movie_machine.specs.Instructions.{ExecutedData}
use Rattle.vcs_machine.specs.declared.executed.DataAccess.{DataAccess}
use Rattle.trace_text.specs.TraceLines.{access_text, instruction_text}
use Rattle.trace_text.proofs.line.trace_line.Goals as goal

pub loop-access-preserved : goal.loop-access-preserved
loop-access-preserved c =
    let items = c.as_slice-access-items.result.now in
    let i = c.loop-access.access-index in
    let none : DataAccess = record { is_write = false; address = 0; byte = 0 } in
    let head = string_bytes c.in_ok-line.line in
    c.in_ok-write.ensures.bytes
    ∙ ap (λ (bytes : List ℕ). bytes ++ access_text (get_or items i none)) c.loop-access.invariant
    ∙ append_assoc head (flat_map access_text (take i items)) (access_text (get_or items i none))
    ∙ ap (λ (bytes : List ℕ). head ++ bytes) (sym (one_more items i none c.loop-access-test.true))

pub returns : goal.returns
returns c =
    let items = c.as_slice-access-items.result.now in
    let head = string_bytes c.in_ok-line.line in
    let same : items ≡ c.args.executed.now.accesses =
    c.as_slice-access-items.ensures.value ∙ ap (λ (e : ExecutedData). e.accesses) c.executed.view_is in
    c.in_ok-push_str.ensures.bytes
    ∙ ap (λ (bytes : List ℕ). bytes ++ 10 ∷ []) (c.loop-access.invariant
    ∙ ap (λ (xs : List DataAccess). head ++ flat_map access_text xs) (take_all c.loop-access.access-index items c.loop-access-test.false))
    ∙ append_assoc head (flat_map access_text items) (10 ∷ [])
    ∙ ap (λ (bytes : List ℕ). bytes ++ (flat_map access_text items ++ 10 ∷ [])) c.in_ok-line.ensures
    ∙ ap (λ (xs : List DataAccess). instruction_text c.args.executed.now ++ (flat_map access_text xs ++ 10 ∷ [])) same
