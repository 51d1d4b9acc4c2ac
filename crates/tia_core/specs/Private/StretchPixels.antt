-- The pixels of a stretch of a line. This project's own.
use Rattle.std.specs.Prelude.{ℕ, List, map}
use Rattle.std.specs.List.{range_with_len}
use Rattle.tia_core.specs.Clock.{Pixel}
use Rattle.tia_core.specs.Colour.{colour_at}
use Rattle.tia_core.specs.Objects.{objects_at}
use Rattle.tia_core.specs.declared.fields.TiaFields.{TiaFields}

-- a pixel of a line
abbrev pub pixel_at : TiaFields → ℕ → ℕ → Pixel
pixel_at t line x = record { line = line; x = x; colour = colour_at t (objects_at t x) x }

-- the k pixels of a line from x on
abbrev pub stretch_pixels : TiaFields → ℕ → ℕ → ℕ → List Pixel
stretch_pixels t line x k = map (pixel_at t line) (range_with_len x k)
