use Rattle.std.proofs.Common.{◌≡◌, ◌∙◌, ℕ, List, length, true, ap, sym, subst}
use Rattle.std.proofs.lemmas.Bool.{and_from, eq-eqb}
use Rattle.std.proofs.lemmas.List.{length-replicate}
use Rattle.cart_board.specs.Board.{Row}
use Rattle.cart_board.specs.CartState.{are_banks, banks_at_power_on}
use Rattle.cart_board.proofs.SoundLemmas.{power_on_banks}
use Rattle.cart_board.proofs.mapped_cart.MappedCart.power_on.Goals as goal

pub with-requires : goal.with-requires
with-requires c =
    let row = c.args.cart.now.row in
    let bytes = length c.args.cart.now.bytes in
    let same = c.banks_at_power_on.ensures ∙ ap banks_at_power_on c.board-board.ensures.value in
    let are = subst (λ (banks : List ℕ). are_banks row bytes banks ≡ true) (sym same) (power_on_banks row bytes c.board-board.ensures.known) in
    let whole = ap (λ (ram : List ℕ). length ram) c.in_ok-ram.ensures.value ∙ length-replicate c.board-board.result.now.ram 0
    ∙ ap (λ (r : Row). r.ram) c.board-board.ensures.value in
    and_from _ _ are (eq-eqb _ _ whole)
