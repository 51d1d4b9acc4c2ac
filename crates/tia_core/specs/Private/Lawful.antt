-- What is true of the numbers of every TIA, number by number, as proofs use it.
use Rattle.std.specs.Prelude.{◌≡◌, ◌<◌, ◌^◌, false}
use Rattle.tia_core.specs.Bits.{has_bit}
use Rattle.tia_core.specs.Registers.{FitsRegister}
use Rattle.tia_core.specs.declared.fields.TiaFields.{TiaFields}
use Rattle.tia_core.specs.declared.register.Register.TheVariants.{Vsync, Vblank, Nusiz0, Nusiz1}
use Rattle.tia_core.specs.declared.register.Register.TheVariants.{Colup0, Colup1, Colupf, Colubk}
use Rattle.tia_core.specs.declared.register.Register.TheVariants.{Ctrlpf, Refp0, Refp1, Pf0, Enam0}
use Rattle.tia_core.specs.declared.register.Register.TheVariants.{Enam1, Enabl, Hmp0, Hmp1, Hmm0}
use Rattle.tia_core.specs.declared.register.Register.TheVariants.{Hmm1, Hmbl, Vdelp0, Vdelp1}
use Rattle.tia_core.specs.declared.register.Register.TheVariants.{Vdelbl, Resmp0, Resmp1}

pub record IsLawfulTia (t : TiaFields) : Type 0 where
  pub vsync : FitsRegister Vsync t.vsync
  pub vblank : FitsRegister Vblank t.vblank
  pub nusiz0 : FitsRegister Nusiz0 t.nusiz0
  pub nusiz1 : FitsRegister Nusiz1 t.nusiz1
  pub colup0 : FitsRegister Colup0 t.colup0
  pub colup1 : FitsRegister Colup1 t.colup1
  pub colupf : FitsRegister Colupf t.colupf
  pub colubk : FitsRegister Colubk t.colubk
  pub ctrlpf : FitsRegister Ctrlpf t.ctrlpf
  pub refp0 : FitsRegister Refp0 t.refp0
  pub refp1 : FitsRegister Refp1 t.refp1
  pub pf0 : FitsRegister Pf0 t.pf0
  pub enam0 : FitsRegister Enam0 t.enam0
  pub enam1 : FitsRegister Enam1 t.enam1
  pub enabl_new : FitsRegister Enabl t.enabl_new
  pub enabl_old : FitsRegister Enabl t.enabl_old
  pub hmp0 : FitsRegister Hmp0 t.hmp0
  pub hmp1 : FitsRegister Hmp1 t.hmp1
  pub hmm0 : FitsRegister Hmm0 t.hmm0
  pub hmm1 : FitsRegister Hmm1 t.hmm1
  pub hmbl : FitsRegister Hmbl t.hmbl
  pub vdelp0 : FitsRegister Vdelp0 t.vdelp0
  pub vdelp1 : FitsRegister Vdelp1 t.vdelp1
  pub vdelbl : FitsRegister Vdelbl t.vdelbl
  pub resmp0 : FitsRegister Resmp0 t.resmp0
  pub resmp1 : FitsRegister Resmp1 t.resmp1
  pub position_p0 : t.position_p0 < 160
  pub position_p1 : t.position_p1 < 160
  pub position_m0 : t.position_m0 < 160
  pub position_m1 : t.position_m1 < 160
  pub position_bl : t.position_bl < 160
  pub collisions : t.collisions < 2 ^ 15
  pub latches : t.latches < 4
  -- no latch is set if VBLANK has bit 6 clear
  pub unlatched : has_bit t.vblank 6 ≡ false → t.latches ≡ 0
  pub clock : t.clock < 228
  pub comb : t.comb < 2
