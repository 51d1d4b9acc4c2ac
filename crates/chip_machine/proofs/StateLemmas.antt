-- What the numbers of a state say of its parts, and back.
use Rattle.std.proofs.Common.{◌≡◌, ℕ, ◌%◌, ◌^◌, ◌<◌, Bool, true, refl, ap, arith}
use Rattle.std.specs.Prelude.{◌&&◌, ◌==◌, IsTrue}
use Rattle.std.proofs.lemmas.Bool.{and_parts, and_from, eqb-true}
use Rattle.std.proofs.lemmas.Bool.Decides.{nat_tests}
use Rattle.record_table.specs.Numbers.{are_lawful}
use Rattle.mos_cpu.specs.Registers.{IsStatus, is_status, processor_numbers}
use Rattle.riot_chip.specs.Riot.{is_riot}
use Rattle.tia_chip.specs.Numbers.{is_settled, is_tia}
use Rattle.chip_machine.specs.States.{is_state}
use Rattle.chip_machine.specs.declared.fields.StateFields.{StateFields}

pub record StateParts (f : StateFields) : Type 0 where
  pub status : is_status f.cpu.p ≡ true
  pub part : f.riot.timer.part < 2 ^ 16
  pub tia : is_tia f.tia ≡ true
  pub settled : is_settled f.tia ≡ true
  pub aligned : f.tia.clock % 3 ≡ 0

module _ (f : StateFields) where
  abbrev cpu : Bool
  cpu = are_lawful processor_numbers f.cpu

  abbrev riot : Bool
  riot = is_riot f.riot

  abbrev tia : Bool
  tia = is_tia f.tia && is_settled f.tia

  abbrev aligned : Bool
  aligned = f.tia.clock % 3 == 0

  status_of : cpu ≡ true → is_status f.cpu.p ≡ true
  status_of h = (and_parts (is_status f.cpu.p) true h).0

  part_of : riot ≡ true → f.riot.timer.part < 2 ^ 16
  part_of h = grind (arith, nat_tests)

  pub state_parts : is_state f ≡ true → StateParts f
  unfolding is_state
  state_parts h =
      let a = and_parts (cpu && riot && tia) aligned h in
      let b = and_parts (cpu && riot) tia a.0 in
      let c = and_parts cpu riot b.0 in
      let d = and_parts (is_tia f.tia) (is_settled f.tia) b.1 in
      record { status = status_of c.0; part = part_of c.1; tia = d.0; settled = d.1; aligned = eqb-true (f.tia.clock % 3) 0 a.1 }

  pub state_tia : is_state f ≡ true → IsTrue (is_tia f.tia)
  state_tia h = (state_parts h).tia

  pub state_of_parts : IsStatus f.cpu.p → is_riot f.riot ≡ true → is_tia f.tia ≡ true → is_settled f.tia ≡ true → f.tia.clock % 3 ≡ 0
      → IsTrue (is_state f)
  unfolding is_state
  state_of_parts status numbers lawful settled whole =
      and_from (cpu && riot && tia) aligned
      (and_from (cpu && riot) tia
      (and_from cpu riot (and_from (is_status f.cpu.p) true (ap (λ (n : ℕ). n == 0) status) refl) numbers)
      (and_from (is_tia f.tia) (is_settled f.tia) lawful settled))
      (ap (λ (n : ℕ). n == 0) whole)
