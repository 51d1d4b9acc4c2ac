-- The texts of accesses, one after another.
use Rattle.std.proofs.Common.{◌≡◌, ℕ, suc, ◌+◌, ◌<◌, List, [], ◌∷◌, ◌++◌, length, take, get_or, ap, ◌∙◌, append-nil, arith}
use Rattle.std.specs.List.{flat_map}
use Rattle.std.proofs.Math.Seq.{take-suc}
use Rattle.std.proofs.lemmas.Grind.{flat_map-append}
use Rattle.std.proofs.lemmas.List.Concat.{flat_map-cons}
use Rattle.vcs_machine.specs.declared.executed.DataAccess.{DataAccess}
use Rattle.trace_text.specs.TraceLines.{access_text}

-- With one more.
pub one_more : (items : List DataAccess) (i : ℕ) (d : DataAccess) → i < length items
    → flat_map access_text (take (i + 1) items) ≡ flat_map access_text (take i items) ++ access_text (get_or items i d)
one_more items i d fits =
    let next : i + 1 ≡ suc i = omega arith in
    ap (λ (n : ℕ). flat_map access_text (take n items)) next
    ∙ ap (flat_map access_text) (take-suc items i d fits)
    ∙ flat_map-append access_text (take i items) (get_or items i d ∷ [])
    ∙ ap (λ (bytes : List ℕ). flat_map access_text (take i items) ++ bytes)
    (flat_map-cons access_text (get_or items i d) [] ∙ append-nil (access_text (get_or items i d)))
