-- The registers that are written, by number, and the bits that each keeps. Stella Programmer's
-- Guide: the summary of TIA write addresses. This project's own: the audio registers (15 to 1A) and
-- the numbers from 2D on are ignored, and VBLANK D7, which grounds the paddles' inputs, has no
-- effect.
use Rattle.std.specs.Prelude.{◌==◌, ℕ, ◌%◌, Bool, if◌then◌else◌, List, [], ◌∷◌, bit_and, slice_index_or}
use Rattle.tia_chip.specs.Bits.{has_bit}
use Rattle.tia_chip.specs.declared.register.Register.{Register}
use Rattle.tia_chip.specs.declared.register.Register.TheVariants.{Vsync, Vblank, Wsync, Rsync}
use Rattle.tia_chip.specs.declared.register.Register.TheVariants.{Nusiz0, Nusiz1, Colup0, Colup1}
use Rattle.tia_chip.specs.declared.register.Register.TheVariants.{Colupf, Colubk, Ctrlpf, Refp0, Refp1}
use Rattle.tia_chip.specs.declared.register.Register.TheVariants.{Pf0, Pf1, Pf2, Resp0, Resp1, Resm0}
use Rattle.tia_chip.specs.declared.register.Register.TheVariants.{Resm1, Resbl, Grp0, Grp1, Enam0}
use Rattle.tia_chip.specs.declared.register.Register.TheVariants.{Enam1, Enabl, Hmp0, Hmp1, Hmm0}
use Rattle.tia_chip.specs.declared.register.Register.TheVariants.{Hmm1, Hmbl, Vdelp0, Vdelp1}
use Rattle.tia_chip.specs.declared.register.Register.TheVariants.{Vdelbl, Resmp0, Resmp1, Hmove}
use Rattle.tia_chip.specs.declared.register.Register.TheVariants.{Hmclr, Cxclr, Ignored}

-- the registers from 00 to 2C
abbrev pub registers_list : List Register
registers_list =
    Vsync ∷ Vblank ∷ Wsync ∷ Rsync ∷ Nusiz0 ∷ Nusiz1 ∷ Colup0 ∷ Colup1 ∷ Colupf ∷ Colubk ∷ Ctrlpf ∷ Refp0 ∷ Refp1
    ∷ Pf0 ∷ Pf1 ∷ Pf2 ∷ Resp0 ∷ Resp1 ∷ Resm0 ∷ Resm1 ∷ Resbl ∷ Ignored ∷ Ignored ∷ Ignored ∷ Ignored ∷ Ignored ∷ Ignored
    ∷ Grp0 ∷ Grp1 ∷ Enam0 ∷ Enam1 ∷ Enabl ∷ Hmp0 ∷ Hmp1 ∷ Hmm0 ∷ Hmm1 ∷ Hmbl ∷ Vdelp0 ∷ Vdelp1 ∷ Vdelbl
    ∷ Resmp0 ∷ Resmp1 ∷ Hmove ∷ Hmclr ∷ Cxclr ∷ []

-- the register of a number, of which the low six bits count; those past the list are ignored
abbrev pub register_of : ℕ → Register
register_of number = slice_index_or registers_list (number % 64) Ignored

-- the bits that a register keeps; a strobe keeps none
abbrev pub mask_of : Register → ℕ
mask_of Vsync = 0x02
mask_of Vblank = 0x42
mask_of Nusiz0 = 0x37
mask_of Nusiz1 = 0x37
mask_of Colup0 = 0xFE
mask_of Colup1 = 0xFE
mask_of Colupf = 0xFE
mask_of Colubk = 0xFE
mask_of Ctrlpf = 0x37
mask_of Refp0 = 0x08
mask_of Refp1 = 0x08
mask_of Pf0 = 0xF0
mask_of Pf1 = 0xFF
mask_of Pf2 = 0xFF
mask_of Grp0 = 0xFF
mask_of Grp1 = 0xFF
mask_of Enam0 = 0x02
mask_of Enam1 = 0x02
mask_of Enabl = 0x02
mask_of Hmp0 = 0xF0
mask_of Hmp1 = 0xF0
mask_of Hmm0 = 0xF0
mask_of Hmm1 = 0xF0
mask_of Hmbl = 0xF0
mask_of Vdelp0 = 0x01
mask_of Vdelp1 = 0x01
mask_of Vdelbl = 0x01
mask_of Resmp0 = 0x02
mask_of Resmp1 = 0x02
mask_of _ = 0

-- the bits of a written value that a register keeps
abbrev pub register_bits : Register → ℕ → ℕ
register_bits register value = bit_and value (mask_of register)

-- whether a number has no other bits than those that a register keeps
abbrev pub fits_register : Register → ℕ → Bool
fits_register register number = register_bits register number == number

-- what is shown of a graphic, or of the ball's enable: the old value if bit 0 of its delay register
-- is set. Stella Programmer's Guide: VDELP0, VDELP1 and VDELBL.
abbrev pub value_by_delay : ℕ → ℕ → ℕ → ℕ
value_by_delay delay old new = if has_bit delay 0 then old else new

-- After how many clocks a write acts: that many pass which don't know it. Andrew Towers' notes: HMOVE
-- is late. Measured in Stella 6.7: the numbers. VBLANK D6 acts at once, and D1 a clock later.
abbrev pub delay_of : Register → ℕ
delay_of Vblank = 1
delay_of Refp0 = 1
delay_of Refp1 = 1
delay_of Grp0 = 1
delay_of Grp1 = 1
delay_of Enam0 = 1
delay_of Enam1 = 1
delay_of Enabl = 1
delay_of Pf0 = 2
delay_of Pf1 = 2
delay_of Pf2 = 2
delay_of Hmp0 = 2
delay_of Hmp1 = 2
delay_of Hmm0 = 2
delay_of Hmm1 = 2
delay_of Hmbl = 2
delay_of Hmclr = 2
delay_of Hmove = 6
delay_of _ = 0
