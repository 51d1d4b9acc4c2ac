use Rattle.std.proofs.Common.{◌≡◌, true, arith}
use Rattle.std.specs.Prelude.{nat_lt}
use Rattle.std.proofs.lemmas.Bool.Decides.{nat_tests}
use Rattle.tia_core.proofs.PairLemmas.{collision_byte-met}
use Rattle.tia_core.proofs.laws.law_of_collision_registers.Goals as goal

pub returns : goal.returns
returns c t fire0 fire1 o register h =
    let is_one : nat_lt register 8 ≡ true = grind (arith, nat_tests) in
    rw is_one (collision_byte-met o register h)
