-- Many colour clocks: what a sink is once it has the pixel of each in order. This project's own.
use Rattle.std.specs.Prelude.{ℕ, zero, suc, Option, Some, None}
use Rattle.tia_chip.specs.Clock.{after_clock, at_pixel}
use Rattle.tia_chip.specs.Colour.{pixel_of}
use Rattle.tia_chip.specs.declared.pixel.Pixel.{Pixel}
use Rattle.tia_chip.specs.declared.state.TiaState.{TiaState}

-- a sink after the pixel of a clock, where `drawn` is what it says of one pixel
abbrev pub with_pixel : {S : Type 0} → (S → ℕ → ℕ → ℕ → S) → S → Option Pixel → S
with_pixel drawn sink None = sink
with_pixel drawn sink (Some pixel) = drawn sink pixel.line pixel.x pixel.colour

-- a sink after n clocks of a TIA
abbrev pub sink_after_clocks : {S : Type 0} → (S → ℕ → ℕ → ℕ → S) → S → ℕ → TiaState → S
sink_after_clocks drawn sink zero t = sink
sink_after_clocks drawn sink (suc n) t = sink_after_clocks drawn (with_pixel drawn sink (pixel_of (at_pixel t))) n (after_clock t)
