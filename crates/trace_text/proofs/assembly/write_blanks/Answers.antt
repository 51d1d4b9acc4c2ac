use Rattle.std.proofs.Common.{◌≡◌, ℕ, zero, suc, List, [], ◌∷◌, ◌++◌, refl, ap, add-one}
use Rattle.std.proofs.Output.{has_written_append, has_written_of_eq}
use Rattle.trace_text.specs.Columns.{blanks}
use Rattle.trace_text.proofs.assembly.write_blanks.Goals as goal

blanks-more : (n : ℕ) → blanks n ++ (32 ∷ []) ≡ blanks (suc n)
blanks-more zero = refl
blanks-more (suc n) = ap (λ (text : List ℕ). 32 ∷ text) (blanks-more n)

pub loop-preserved : goal.loop-preserved
loop-preserved g c =
    λ plain.
    let now = c.loop.invariant plain in
    rw (add-one c.loop.counter) (has_written_of_eq _ _ _ _ _ (blanks-more c.loop.counter)
    (has_written_append _ _ _ _ _ _ now (c.in_ok-write_str.ensures.writes now.plain refl)))
