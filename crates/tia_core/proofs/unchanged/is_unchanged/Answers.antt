use Rattle.std.proofs.Common.{◌≡◌, refl, arith}
use Rattle.std.proofs.lemmas.Bool.Decides.{nat_tests}
use Rattle.tia_core.specs.Registers.{register_bits}
use Rattle.tia_core.specs.declared.register.Register.TheVariants.{Resmp0, Resmp1}
use Rattle.tia_core.proofs.KeptBits.{unreleased}
use Rattle.tia_core.proofs.unchanged.is_unchanged.Goals as goal

pub returns-in-40-clause-fields : goal.returns-in-40-clause-fields
returns-in-40-clause-fields c = λ same fire0 fire1 collisions clock comb.
    let t = c.args.fields.now in
    let kept : register_bits Resmp0 c.args.value ≡ t.resmp0 = grind (arith, nat_tests, c.keep-in-40.ensures.value) in
    rw (c.in-40.is, unreleased t.resmp0 c.args.value t.nusiz0 t.position_p0 t.position_m0 kept, kept) refl

pub returns-in-41-clause-fields : goal.returns-in-41-clause-fields
returns-in-41-clause-fields c = λ same fire0 fire1 collisions clock comb.
    let t = c.args.fields.now in
    let kept : register_bits Resmp1 c.args.value ≡ t.resmp1 = grind (arith, nat_tests, c.keep-in-41.ensures.value) in
    rw (c.in-41.is, unreleased t.resmp1 c.args.value t.nusiz1 t.position_p1 t.position_m1 kept, kept) refl
