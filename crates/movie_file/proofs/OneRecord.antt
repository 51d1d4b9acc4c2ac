-- Two states of a cartridge that have one record are one.
use Rattle.std.proofs.Common.{◌≡◌, ◌∙◌, Bool, true, false, List, ℕ, drop, length, refl, sym, ap, inl, inr, arith}
use Rattle.std.specs.Prelude.{◌↔◌, IsTrue}
use Rattle.std.specs.Str.{bytes_eq}
use Rattle.std.proofs.lemmas.Bool.{cases_Bool, false≢true}
use Rattle.std.proofs.lemmas.Slice.Eq.{bytes_eq-Decides}
use Rattle.cart_board.specs.Boards.{IsBoard}
use Rattle.cart_board.specs.CartState.{Cartridge}
use Rattle.chip_machine.specs.Record.{IsStateOf, record_of}
use Rattle.chip_machine.specs.RecordNumbers.{cart_part, fields_at}
use Rattle.chip_machine.specs.States.{StateData}
use Rattle.chip_machine.proofs.RecordLaws.{IsRead, read_again}

same_data : (a b : StateData) → a.fields ≡ b.fields → a.ram ≡ b.ram → a ≡ b
same_data a b fields ram = grind arith

module _ (cartridge : Cartridge) (a b : StateData) (board : IsBoard cartridge.row) (one : IsStateOf cartridge a) (other : IsStateOf cartridge b) where
  abbrev records : Bool
  records = bytes_eq (record_of cartridge.row a) (record_of cartridge.row b)

  same_state : record_of cartridge.row a ≡ record_of cartridge.row b → a ≡ b
  same_state is =
      let first : IsRead cartridge a (record_of cartridge.row a) = read_again cartridge a board one in
      let second : IsRead cartridge b (record_of cartridge.row b) = read_again cartridge b board other in
      same_data a b (sym first.fields ∙ ap (fields_at cartridge.row) is ∙ second.fields)
      (sym first.ram ∙ ap (λ (w : List ℕ). drop (length cartridge.row.banks) (cart_part w)) is ∙ second.ram)

  pub one_record : (answer : Bool) → (IsTrue answer ↔ (a ≡ b)) → answer ≡ records
  one_record true equal = sym ((bytes_eq-Decides _ _).1 (ap (record_of cartridge.row) (equal.0 refl)))
  one_record false equal = elim (cases_Bool records) [
    | inl e ↦ absurd (false≢true (equal.1 (same_state ((bytes_eq-Decides _ _).0 e))))
    | inr e ↦ sym e
  ]
