-- What can be held in a frame: fifteen names, each of one bit of an input. The bits are those of
-- the Stella Programmer's Guide, the names this project's own.
use Rattle.std.specs.Prelude.{ℕ, ◌^◌, ◌<◌, Bool, not, ◌==◌, ◌&&◌, List, [], ◌∷◌}
use Rattle.std.specs.Prelude.{codes}
use Rattle.std.specs.Prelude.{bit_xor, filter, fold, IsTrue, if◌then◌else◌}
use Rattle.std.specs.Int.{bit_at}
use Rattle.vcs_machine.specs.Inputs.{InputData, is_input}
use Rattle.input_text.specs.declared.name.Port.{Port}
use Rattle.input_text.specs.declared.name.Port.TheVariants.{Swcha, Swchb, Buttons}
use Rattle.input_text.specs.declared.name.Name.{Name}
use Rattle.input_text.specs.declared.name.Name.TheVariants.{Up0, Down0, Left0, Right0, Fire0, Up1}
use Rattle.input_text.specs.declared.name.Name.TheVariants.{Down1, Left1, Right1, Fire1, Reset}
use Rattle.input_text.specs.declared.name.Name.TheVariants.{Select, Monochrome, Pro0, Pro1}

-- A name as it is written, and its bit: the port, which is a byte of an input, and the bit's number
-- there. The buttons are a port like the others.
pub record NamedBit : Type 0 where
  pub word : List ℕ
  pub port : Port
  pub bit : ℕ

abbrev pub named_bit : List ℕ → Port → ℕ → NamedBit
named_bit word port bit = record { word = word; port = port; bit = bit }

abbrev pub bit_of_name : Name → NamedBit
bit_of_name Up0 = named_bit (codes "up0") Swcha 4
bit_of_name Down0 = named_bit (codes "down0") Swcha 5
bit_of_name Left0 = named_bit (codes "left0") Swcha 6
bit_of_name Right0 = named_bit (codes "right0") Swcha 7
bit_of_name Fire0 = named_bit (codes "fire0") Buttons 0
bit_of_name Up1 = named_bit (codes "up1") Swcha 0
bit_of_name Down1 = named_bit (codes "down1") Swcha 1
bit_of_name Left1 = named_bit (codes "left1") Swcha 2
bit_of_name Right1 = named_bit (codes "right1") Swcha 3
bit_of_name Fire1 = named_bit (codes "fire1") Buttons 1
bit_of_name Reset = named_bit (codes "reset") Swchb 0
bit_of_name Select = named_bit (codes "select") Swchb 1
bit_of_name Monochrome = named_bit (codes "monochrome") Swchb 3
bit_of_name Pro0 = named_bit (codes "pro0") Swchb 6
bit_of_name Pro1 = named_bit (codes "pro1") Swchb 7

-- all of them, in the order of printing
abbrev pub names : List Name
names =
    Up0 ∷ Down0 ∷ Left0 ∷ Right0 ∷ Fire0 ∷ Up1 ∷ Down1 ∷ Left1 ∷ Right1 ∷ Fire1
    ∷ Reset ∷ Select ∷ Monochrome ∷ Pro0 ∷ Pro1 ∷ []

-- an input in which nothing is held
abbrev pub idle : InputData
idle = record { swcha = 0xFF; swchb = 0x3F; buttons = 0 }

-- whether nothing is held in an input
abbrev pub is_idle : InputData → Bool
is_idle c = (c.swcha == idle.swcha) && (c.swchb == idle.swchb) && (c.buttons == idle.buttons)

-- the byte of a port
abbrev pub port_byte : Port → InputData → ℕ
port_byte Swcha c = c.swcha
port_byte Swchb c = c.swchb
port_byte Buttons c = c.buttons

-- whether a name is held in an input: its bit is another than in an idle one
abbrev pub is_held : InputData → Name → Bool
is_held c name =
    let port = (bit_of_name name).port in let bit = (bit_of_name name).bit in
    not (bit_at (port_byte port c) bit == bit_at (port_byte port idle) bit)

-- an input whose byte of a port is another
abbrev pub with_byte : Port → ℕ → InputData → InputData
with_byte Swcha byte c = record { swcha = byte; swchb = c.swchb; buttons = c.buttons }
with_byte Swchb byte c = record { swcha = c.swcha; swchb = byte; buttons = c.buttons }
with_byte Buttons byte c = record { swcha = c.swcha; swchb = c.swchb; buttons = byte }

-- an input in which a name is held as well: its bit is turned over, unless it is held there
abbrev pub hold : InputData → Name → InputData
hold c name =
    let port = (bit_of_name name).port in
    if is_held c name then c else with_byte port (bit_xor (port_byte port c) (2 ^ (bit_of_name name).bit)) c

-- the input in which these names are held
abbrev pub input_with : List Name → InputData
input_with held = fold hold idle held

-- the names that are held in an input, in their order
abbrev pub names_in : InputData → List Name
names_in c = filter (is_held c) names

-- an input as a movie has it: its numbers are bytes, and meet the conditions of an input
pub record IsInputOfBytes (c : InputData) : Type 0 where
  pub swcha : c.swcha < 2 ^ 8
  pub swchb : c.swchb < 2 ^ 8
  pub input : IsTrue (is_input c)
