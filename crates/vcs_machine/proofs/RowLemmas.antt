-- A run of pixels of one colour in a picture.
use Rattle.std.proofs.Common.{◌≡◌, ℕ, zero, suc, ◌+◌, ◌<◌, ◌≤◌, List, []}
use Rattle.std.proofs.Common.{length, slice_set, slice_index_or, refl, sym, ap, ◌∙◌, arith}
use Rattle.std.proofs.lemmas.Bool.Decides.{nat_tests}
use Rattle.std.proofs.lemmas.List.{set-get_or, set-set, get_or-set_same, length-set}
use Rattle.tia_core.specs.Runs.{run_drawn}
use Rattle.vcs_machine.specs.Pictures.{Rows, with_pixel}
use Rattle.vcs_machine.specs.Private.Rows.{with_pixels}

pixel-inside : (rows : Rows) (line x colour : ℕ) → line < length rows → x < 160
    → with_pixel rows line x colour ≡ slice_set rows line (slice_set (slice_index_or rows line []) x colour)
pixel-inside rows line x colour h lt = grind (arith, nat_tests)

pixel-outside : (rows : Rows) (line x colour : ℕ) → length rows ≤ line → with_pixel rows line x colour ≡ rows
pixel-outside rows line x colour h = grind (arith, nat_tests)

pub run-inside : (rows : Rows) (line x k colour : ℕ) → line < length rows → x + k ≤ 160
    → run_drawn with_pixel rows line x k colour ≡ slice_set rows line (with_pixels (slice_index_or rows line []) x k colour)
run-inside rows line x zero colour h most = sym (set-get_or rows line [])
run-inside rows line x (suc k) colour h most =
    let row : List ℕ = slice_index_or rows line [] in
    let next : Rows = slice_set rows line (slice_set row x colour) in
    ap (λ (r : Rows). run_drawn with_pixel r line (x + 1) k colour) (pixel-inside rows line x colour h (omega arith))
    ∙ run-inside next line (x + 1) k colour (omega (arith, length-set rows line (slice_set row x colour))) (omega arith)
    ∙ set-set rows line (slice_set row x colour) _
    ∙ ap (λ (r : List ℕ). slice_set rows line (with_pixels r (x + 1) k colour)) (get_or-set_same rows line (slice_set row x colour) [] h)

pub run-outside : (rows : Rows) (line x k colour : ℕ) → length rows ≤ line → run_drawn with_pixel rows line x k colour ≡ rows
run-outside rows line x zero colour h = refl
run-outside rows line x (suc k) colour h =
    ap (λ (r : Rows). run_drawn with_pixel r line (x + 1) k colour) (pixel-outside rows line x colour h) ∙ run-outside rows line (x + 1) k colour h
