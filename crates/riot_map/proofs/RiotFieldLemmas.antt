-- What lawful numbers keep to.
use Rattle.std.proofs.Common.{◌≡◌, ◌<◌, true, arith, ◌==◌}
use Rattle.std.proofs.lemmas.Bool.Decides.{nat_tests}
use Rattle.riot_map.specs.Timer.{interval_of}
use Rattle.riot_map.specs.RiotFields.{is_riot}
use Rattle.riot_map.specs.Private.Parts.{ArePartsLawful}
use Rattle.riot_map.specs.declared.fields.RiotFields.{RiotFields}

pub lawful_codes : (f : RiotFields) → is_riot f ≡ true → (f.interval < 4) × (f.past_zero < 2) × (f.flag < 2)
unfolding is_riot
lawful_codes f h = (grind (arith, nat_tests), grind (arith, nat_tests), grind (arith, nat_tests))

pub lawful_parts : (f : RiotFields) → f.timer < 256 → is_riot f ≡ true → ArePartsLawful f.timer f.part (interval_of f.interval) (f.past_zero == 1)
unfolding is_riot
lawful_parts f k h = record { byte = k; some = grind (arith, nat_tests); most = grind (arith, nat_tests); past = λ e. grind (arith, nat_tests) }
