use Rattle.std.proofs.Common.{ap, refl}
use Rattle.cart_board.specs.Board.{Row}
use Rattle.cart_board.specs.CartState.{CartState}
use Rattle.cart_board.proofs.PlainLemmas.{plain-shows}
use Rattle.cart_board.proofs.mapped_cart.MappedCart.plain_rom.Goals as goal

pub returns : goal.returns
returns c =
    let inside = c.self.inside in
    let here : CartState = record { cartridge = inside.cart.now; banks = inside.banks; ram = inside.ram.items } in
    let mask = ap (λ (row : Row). row.rest.mask) c.board.ensures.value in
    rw (← c.self.view_is)
    (plain-shows here c.args.address _ (rw (← c.self.view_is) at c.requires)
    (rw (c.bytes.ensures.value, mask, c.self.invariant.begins) refl))
