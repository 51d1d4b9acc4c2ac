-- The numbers of a TIA, in a record's order: a register has no other bits than those that it keeps.
-- The ranges are this project's own.
use Rattle.std.specs.Prelude.{List, [], ◌∷◌, ◌++◌, ◌/◌, codes}
use Rattle.record_table.specs.Numbers.{Number, byte, word, anything, below}
use Rattle.tia_core.specs.Registers.{fits_register}
use Rattle.tia_core.specs.declared.fields.TiaFields.{TiaFields}
use Rattle.tia_core.specs.declared.register.Register.TheVariants.{Vsync, Vblank, Nusiz0, Nusiz1}
use Rattle.tia_core.specs.declared.register.Register.TheVariants.{Colup0, Colup1, Colupf, Colubk}
use Rattle.tia_core.specs.declared.register.Register.TheVariants.{Ctrlpf, Refp0, Refp1, Pf0, Enam0}
use Rattle.tia_core.specs.declared.register.Register.TheVariants.{Enam1, Enabl, Hmp0, Hmp1, Hmm0}
use Rattle.tia_core.specs.declared.register.Register.TheVariants.{Hmm1, Hmbl, Vdelp0, Vdelp1}
use Rattle.tia_core.specs.declared.register.Register.TheVariants.{Vdelbl, Resmp0, Resmp1}

-- the registers that time and colour the picture
abbrev pub colour_numbers : List (Number TiaFields)
colour_numbers =
    byte (codes "VSYNC") (fits_register Vsync) (λ t. t.vsync)
    ∷ byte (codes "VBLANK") (fits_register Vblank) (λ t. t.vblank)
    ∷ byte (codes "NUSIZ0") (fits_register Nusiz0) (λ t. t.nusiz0)
    ∷ byte (codes "NUSIZ1") (fits_register Nusiz1) (λ t. t.nusiz1)
    ∷ byte (codes "COLUP0") (fits_register Colup0) (λ t. t.colup0)
    ∷ byte (codes "COLUP1") (fits_register Colup1) (λ t. t.colup1)
    ∷ byte (codes "COLUPF") (fits_register Colupf) (λ t. t.colupf)
    ∷ byte (codes "COLUBK") (fits_register Colubk) (λ t. t.colubk)
    ∷ []

-- those that draw the objects. GRP0, GRP1 and ENABL each have two registers, which the program
-- knows as new and old
abbrev pub object_numbers : List (Number TiaFields)
object_numbers =
    byte (codes "CTRLPF") (fits_register Ctrlpf) (λ t. t.ctrlpf)
    ∷ byte (codes "REFP0") (fits_register Refp0) (λ t. t.refp0)
    ∷ byte (codes "REFP1") (fits_register Refp1) (λ t. t.refp1)
    ∷ byte (codes "PF0") (fits_register Pf0) (λ t. t.pf0)
    ∷ byte (codes "PF1") anything (λ t. t.pf1)
    ∷ byte (codes "PF2") anything (λ t. t.pf2)
    ∷ byte (codes "GRP0 new") anything (λ t. t.grp0_new)
    ∷ byte (codes "GRP0 old") anything (λ t. t.grp0_old)
    ∷ byte (codes "GRP1 new") anything (λ t. t.grp1_new)
    ∷ byte (codes "GRP1 old") anything (λ t. t.grp1_old)
    ∷ byte (codes "ENAM0") (fits_register Enam0) (λ t. t.enam0)
    ∷ byte (codes "ENAM1") (fits_register Enam1) (λ t. t.enam1)
    ∷ byte (codes "ENABL new") (fits_register Enabl) (λ t. t.enabl_new)
    ∷ byte (codes "ENABL old") (fits_register Enabl) (λ t. t.enabl_old)
    ∷ []

-- those that move the objects and delay them
abbrev pub motion_numbers : List (Number TiaFields)
motion_numbers =
    byte (codes "HMP0") (fits_register Hmp0) (λ t. t.hmp0)
    ∷ byte (codes "HMP1") (fits_register Hmp1) (λ t. t.hmp1)
    ∷ byte (codes "HMM0") (fits_register Hmm0) (λ t. t.hmm0)
    ∷ byte (codes "HMM1") (fits_register Hmm1) (λ t. t.hmm1)
    ∷ byte (codes "HMBL") (fits_register Hmbl) (λ t. t.hmbl)
    ∷ byte (codes "VDELP0") (fits_register Vdelp0) (λ t. t.vdelp0)
    ∷ byte (codes "VDELP1") (fits_register Vdelp1) (λ t. t.vdelp1)
    ∷ byte (codes "VDELBL") (fits_register Vdelbl) (λ t. t.vdelbl)
    ∷ []

-- those that lock the missiles, and at which of the 160 pixels each object begins
abbrev pub position_numbers : List (Number TiaFields)
position_numbers =
    byte (codes "RESMP0") (fits_register Resmp0) (λ t. t.resmp0)
    ∷ byte (codes "RESMP1") (fits_register Resmp1) (λ t. t.resmp1)
    ∷ byte (codes "position of player 0") (below 160) (λ t. t.position_p0)
    ∷ byte (codes "position of player 1") (below 160) (λ t. t.position_p1)
    ∷ byte (codes "position of missile 0") (below 160) (λ t. t.position_m0)
    ∷ byte (codes "position of missile 1") (below 160) (λ t. t.position_m1)
    ∷ byte (codes "position of the ball") (below 160) (λ t. t.position_bl)
    ∷ []

-- fifteen collision bits, two latches, the beam's place in its line, in cycles of three colour
-- clocks, and a comb or none
abbrev pub beam_numbers : List (Number TiaFields)
beam_numbers =
    word (codes "collisions") (below 32768) (λ t. t.collisions)
    ∷ byte (codes "button latches") (below 4) (λ t. t.latches)
    ∷ byte (codes "line cycle") (below 76) (λ t. t.clock / 3)
    ∷ byte (codes "comb") (below 2) (λ t. t.comb)
    ∷ []

-- all of them
abbrev pub tia_numbers : List (Number TiaFields)
tia_numbers = colour_numbers ++ object_numbers ++ motion_numbers ++ position_numbers ++ beam_numbers
