-- Rows that pixels are drawn on are the table of the colours last put.
use Rattle.std.proofs.Common.{◌≡◌, ℕ, ◌<◌, ◌≤◌, ◌==◌, ◌&&◌}
use Rattle.std.proofs.Common.{List, [], ◌∷◌, length, map, take, replicate, get_or, ap}
use Rattle.std.proofs.Common.{◌∙◌, arith}
use Rattle.std.specs.Prelude.{if◌then◌else◌}
use Rattle.std.specs.List.{range_with_len}
use Rattle.std.proofs.lemmas.Grind.{common_steps}
use Rattle.std.proofs.lemmas.List.{get_or-replicate}
use Rattle.std.proofs.lemmas.List.FromFn.{fill_by_all, take-map-range_with_len}
use Rattle.tia_core.specs.Clock.{Pixel, sink_after_pixels}
use Rattle.vcs_machine.specs.Pictures.{Rows, colour_after, picture_of, with_pixel, blank}

-- So many rows of 160 colours, which are those of the table.
record IsTable (n : ℕ) (rows : Rows) (colour : ℕ → ℕ → ℕ) : Type 0 where
  count : length rows ≡ n
  widths : (line : ℕ) → line < n → length (get_or rows line []) ≡ 160
  colours : (line x : ℕ) → line < n → x < 160 → get_or (get_or rows line []) x 0 ≡ colour line x

-- One pixel.
with_pixel-table : (n : ℕ) (rows : Rows) (colour : ℕ → ℕ → ℕ) (p : Pixel) → IsTable n rows colour
    → IsTable n (with_pixel rows p.line p.x p.colour) (λ line x. if (p.line == line) && (p.x == x) then p.colour else colour line x)
with_pixel-table n rows colour p table = grind (arith, common_steps)

-- All pixels.
painted-table : (n : ℕ) (rows : Rows) (colour : ℕ → ℕ → ℕ) (ps : List Pixel) → IsTable n rows colour
    → IsTable n (sink_after_pixels with_pixel rows ps) (λ line x. colour_after (colour line x) ps line x)
painted-table n rows colour [] table = table
painted-table n rows colour (p ∷ ps) table =
    painted-table n (with_pixel rows p.line p.x p.colour) _ ps (with_pixel-table n rows colour p table)

blank-table : (n : ℕ) → IsTable n (blank n) (λ line x. 0)
blank-table n = record {
  count = grind (arith, common_steps);
  widths = λ line below. grind (arith, common_steps);
  colours = λ line x below lx. rw (get_or-replicate n line (replicate {A = ℕ} 160 0) [] below) (get_or-replicate {A = ℕ} 160 x 0 0 lx);
}

table-rows : (n : ℕ) (rows : Rows) (colour : ℕ → ℕ → ℕ) → IsTable n rows colour
    → rows ≡ map (λ line. map (λ x. colour line x) (range_with_len 0 160)) (range_with_len 0 n)
table-rows n rows colour table =
    fill_by_all (λ line. map (λ x. colour line x) (range_with_len 0 160)) rows n [] table.count
    (λ line below. fill_by_all (colour line) (get_or rows line []) 160 0 (table.widths line below) (λ x lx. table.colours line x below lx))

-- The first rows of those that a frame's pixels were drawn on are its picture.
pub take-painted : (n most : ℕ) (ps : List Pixel) → n ≤ most → take n (sink_after_pixels with_pixel (blank most) ps) ≡ picture_of n ps
unfolding picture_of
take-painted n most ps h =
    ap (take n) (table-rows most (sink_after_pixels with_pixel (blank most) ps)
    (λ line x. colour_after 0 ps line x)
    (painted-table most (blank most) (λ line x. 0) ps (blank-table most)))
    ∙ take-map-range_with_len (λ line. map (λ x. colour_after 0 ps line x) (range_with_len 0 160)) 0 most n h
