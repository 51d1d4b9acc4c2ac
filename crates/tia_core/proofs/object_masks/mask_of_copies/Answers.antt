use Rattle.std.proofs.Common.{◌∙◌, refl, ap, ℕ, Bool, slice_index_or, List}
use Rattle.std.specs.List.{list_any}
use Rattle.std.proofs.lemmas.List.{take_all}
use Rattle.std.proofs.lemmas.List.Folds.{list_any_more}
use Rattle.tia_core.specs.Bits.{has_bit}
use Rattle.tia_core.specs.Coverage.{distance_of}
use Rattle.tia_core.proofs.ObjectMaskLemmas.{distance_of-moved}
use Rattle.tia_core.proofs.object_masks.mask_of_copies.Goals as goal

pub loop-copy-preserved : goal.loop-copy-preserved
loop-copy-preserved c = λ x h.
    let test : ℕ → Bool = λ k. has_bit c.args.row (distance_of x c.args.position k) in
    let items : List ℕ = c.copies-copy-items.result.now in
    let i : ℕ = c.loop-copy.copy-index in
    rw (
      c.place.ensures x h,
      c.loop-copy.invariant x h,
      c.right_of.ensures.value,
      distance_of-moved x c.args.position (slice_index_or items i 0) h c.requires,
      list_any_more test items i 0 c.loop-copy-test.true,
    ) refl

pub returns : goal.returns
returns c = λ x h.
    let test : ℕ → Bool = λ k. has_bit c.args.row (distance_of x c.args.position k) in
    c.loop-copy.invariant x h
    ∙ ap (list_any test)
    (take_all c.loop-copy.copy-index c.copies-copy-items.result.now c.loop-copy-test.false
    ∙ c.copies-copy-items.ensures)
