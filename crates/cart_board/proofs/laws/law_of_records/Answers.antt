use Rattle.std.proofs.Common.{◌==◌, length}
use Rattle.std.proofs.lemmas.Bool.{and_parts, eqb-true}
use Rattle.cart_board.specs.CartState.{are_banks}
use Rattle.cart_board.proofs.RecordLemmas.{is_spelled}
use Rattle.cart_board.proofs.SoundLemmas.{board_is_sound, few_banks}
use Rattle.cart_board.proofs.laws.law_of_records.Goals as goal

pub returns : goal.returns
returns g = λ c board size long fit.
    let row = c.cartridge.row in
    let bytes = length c.cartridge.bytes in
    let parts = and_parts (are_banks row bytes c.banks) (length c.ram == row.ram) fit in
    is_spelled row c.cartridge.bytes c.banks c.ram (few_banks row bytes (board_is_sound row bytes board size)) long parts.0
    (eqb-true (length c.ram) row.ram parts.1)
