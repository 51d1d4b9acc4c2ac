-- The colour of a pixel, by the priority of the objects that cover it. Stella Programmer's Guide:
-- object priorities, CTRLPF D1 and D2, VBLANK, the colour registers. This project's own: score mode
-- only without D2, the ball's colour in it, black while VSYNC is on, and the comb of 8 pixels after
-- HMOVE.
use Rattle.std.specs.Prelude.{ℕ, ◌&&◌, ◌||◌, not, nat_lt, Bool, if◌then◌else◌, List, [], ◌∷◌}
use Rattle.tia_core.specs.Bits.{has_bit}
use Rattle.tia_core.specs.declared.fields.TiaFields.{TiaFields}
use Rattle.tia_core.specs.declared.objects.Objects.{Objects}

-- the colour of the first layer that is there, else the background's
abbrev pub front_colour : List (Bool × ℕ) → ℕ → ℕ
front_colour [] background = background
front_colour (layer ∷ layers) background = if layer.0 then layer.1 else front_colour layers background

-- the playfield's colour at pixel x: in score mode that of the player whose half of the line it is
abbrev pub playfield_colour : TiaFields → ℕ → ℕ
playfield_colour t x =
    if has_bit t.ctrlpf 1 && not (has_bit t.ctrlpf 2) then (if nat_lt x 80 then t.colup0 else t.colup1) else t.colupf

-- the layers, front first: whether one of its objects is there, and its colour
abbrev pub layers_of : TiaFields → Objects → ℕ → List (Bool × ℕ)
layers_of t o x =
    if has_bit t.ctrlpf 2
    then (o.ball, t.colupf) ∷ (o.playfield, playfield_colour t x) ∷ (o.player0 || o.missile0, t.colup0) ∷ (o.player1 || o.missile1, t.colup1) ∷ []
    else (o.player0 || o.missile0, t.colup0) ∷ (o.player1 || o.missile1, t.colup1) ∷ (o.ball, t.colupf) ∷ (o.playfield, playfield_colour t x) ∷ []

-- whether pixel x is black whatever covers it
abbrev pub is_blanked : TiaFields → ℕ → Bool
is_blanked t x = has_bit t.vblank 1 || has_bit t.vsync 1 || (has_bit t.comb 0 && nat_lt x 8)

-- the colour byte of pixel x, which these objects cover; a colour register keeps bit 0 clear
unfoldable pub colour_at : TiaFields → Objects → ℕ → ℕ
colour_at t o x = if is_blanked t x then 0 else front_colour (layers_of t o x) t.colubk
