-- The colour of a pixel, by the priority of the objects that are lit. Stella Programmer's Guide:
-- object priorities, CTRLPF D1 and D2, VBLANK, the colour registers. Measured in Stella 6.7: black
-- while VSYNC D1 is set, and the order of the objects with D1.
use Rattle.std.specs.Prelude.{ℕ, ◌-◌, ◌||◌, nat_lt, Bool, if◌then◌else◌, List, [], ◌∷◌, Option, Some, None}
use Rattle.tia_chip.specs.Bits.{has_bit}
use Rattle.tia_chip.specs.Blank.{is_in_blank}
use Rattle.tia_chip.specs.Objects.{lit_objects}
use Rattle.tia_chip.specs.declared.objects.Objects.{Objects}
use Rattle.tia_chip.specs.declared.pixel.Pixel.{Pixel}
use Rattle.tia_chip.specs.declared.state.TiaState.{TiaState}

-- the colour of the first layer that is there, else the background's
abbrev pub front_colour : List (Bool × ℕ) → ℕ → ℕ
front_colour [] background = background
front_colour (layer ∷ layers) background = if layer.0 then layer.1 else front_colour layers background

-- the layers, front first: whether one of its objects is lit, and its colour. With CTRLPF D1 and
-- without D2 the playfield has at pixel x the colour of the player whose half of the line it is.
abbrev pub layers_of : TiaState → Objects → ℕ → List (Bool × ℕ)
layers_of t o x =
    if has_bit t.ctrlpf 2
    then (o.ball || o.playfield, t.colupf) ∷ (o.player0 || o.missile0, t.colup0) ∷ (o.player1 || o.missile1, t.colup1) ∷ []
    else if has_bit t.ctrlpf 1
    then (o.player0 || o.missile0, t.colup0) ∷ (o.playfield, if nat_lt x 80 then t.colup0 else t.colup1)
    ∷ (o.player1 || o.missile1, t.colup1) ∷ (o.ball, t.colupf) ∷ []
    else (o.player0 || o.missile0, t.colup0) ∷ (o.player1 || o.missile1, t.colup1) ∷ (o.ball || o.playfield, t.colupf) ∷ []

-- whether a pixel is black whatever is lit
abbrev pub is_black : TiaState → Bool
is_black t = is_in_blank t || has_bit t.vblank 1 || has_bit t.vsync 1

-- the colour byte of pixel x; a colour register keeps bit 0 clear
abbrev pub colour_at : TiaState → ℕ → ℕ
colour_at t x = if is_black t then 0 else front_colour (layers_of t (lit_objects t) x) t.colubk

-- The pixel that a clock puts: none left of the picture. A pixel that no clock puts is black.
abbrev pub pixel_of : TiaState → Option Pixel
pixel_of t =
    if nat_lt t.beam 68 then None
    else Some (record { line = t.line; x = t.beam - 68; colour = colour_at t (t.beam - 68) })
