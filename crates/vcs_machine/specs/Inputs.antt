-- The pins and buttons of one frame.
use Rattle.std.specs.Prelude.{ℕ, Bool, ◌==◌, ◌&&◌, nat_lt, bit_and, List, [], ◌∷◌}
use Rattle.record_table.specs.Bits.{has_bit}

-- The pins of the two ports, and the buttons. The ports' bits are those of the Stella Programmer's
-- Guide.
pub record InputData : Type 0 where
  pub swcha : ℕ
  pub swchb : ℕ
  pub buttons : ℕ

-- Bits 2, 4 and 5 of SWCHB's pins are 1, and the buttons have bits 0 and 1 alone: this project's
-- own rule.
abbrev pub is_input : InputData → Bool
is_input c = (bit_and c.swchb 0x34 == 0x34) && nat_lt c.buttons 4

-- Whether a button is pressed, by its number.
abbrev pub is_pressed : ℕ → InputData → Bool
is_pressed button c = has_bit c.buttons button

-- The three bytes of an input in a movie file.
abbrev pub input_bytes : InputData → List ℕ
input_bytes c = c.swcha ∷ c.swchb ∷ c.buttons ∷ []
