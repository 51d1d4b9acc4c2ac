-- What the numbers of a state say of its parts, and back.
use Rattle.std.proofs.Common.{◌≡◌, ◌*◌, ◌%◌, ◌<◌, IsTrue, arith}
use Rattle.std.proofs.lemmas.Bool.Decides.{nat_tests}
use Rattle.mos_cpu.specs.Registers.{IsStatus}
use Rattle.riot_map.specs.RiotFields.{is_riot}
use Rattle.tia_core.proofs.LawfulNumbers.{lawful_of}
use Rattle.tia_core.specs.TiaState.{is_tia}
use Rattle.vcs_machine.specs.States.{is_state, line_cycle_of}
use Rattle.vcs_machine.specs.declared.fields.StateFields.{StateFields}

-- The conditions of a state, one by one.
pub record HasLawfulParts (f : StateFields) : Type 0 where
  pub status : IsStatus f.cpu.p
  pub riot : IsTrue (is_riot f.riot)
  pub tia : IsTrue (is_tia f.tia)
  pub aligned : f.tia.clock % 3 ≡ 0
  pub bank : f.bank < 2

pub parts_of : (f : StateFields) → IsTrue (is_state f) → HasLawfulParts f
unfolding is_state
parts_of f h = record {
  status = grind (arith, nat_tests);
  riot = grind (arith, nat_tests);
  tia = grind (arith, nat_tests);
  aligned = grind (arith, nat_tests);
  bank = grind (arith, nat_tests);
}

pub clock_of : (f : StateFields) → IsTrue (is_state f) → f.tia.clock < 228
clock_of f h = (lawful_of f.tia (parts_of f h).tia).clock

pub line_cycle-lt : (f : StateFields) → IsTrue (is_state f) → line_cycle_of f < 76
line_cycle-lt f h = let small = clock_of f h in omega arith

pub clock-thirds : (f : StateFields) → IsTrue (is_state f) → f.tia.clock ≡ 3 * line_cycle_of f
clock-thirds f h = let aligned = (parts_of f h).aligned in omega arith

pub state_of_parts : (f : StateFields) → HasLawfulParts f → IsTrue (is_state f)
unfolding is_state
state_of_parts f h = grind (arith, nat_tests)
