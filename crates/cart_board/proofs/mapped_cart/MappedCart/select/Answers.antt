use Rattle.std.proofs.Common.{◌≡◌, ◌∙◌, ℕ, List, length, true, ap, sym, subst, rules}
use Rattle.cart_board.specs.Access.{banks_selected, start_of}
use Rattle.cart_board.specs.Board.{Row}
use Rattle.cart_board.specs.CartState.{are_banks}
use Rattle.cart_board.proofs.SoundLemmas.{board_is_sound, select_keeps}
use Rattle.cart_board.proofs.mapped_cart.MappedCart.select.Goals as goal

pub invariant_of-self : goal.invariant_of-self
invariant_of-self c =
    let row = c.self.inside.cart.now.row in
    let bytes = length c.self.inside.cart.now.bytes in
    let before = c.self.inside.banks in
    let same : c.select.new.banks ≡ banks_selected row bytes before c.args.address c.args.written =
    c.select.ensures
    ∙ ap (λ (r : Row). banks_selected r (length c.bytes-bytes.result.now) before c.args.address c.args.written) c.board-board.ensures.value
    ∙ ap (λ (all : List ℕ). banks_selected row (length all) before c.args.address c.args.written) c.bytes-bytes.ensures.value in
    record {
      board = c.self.invariant.board;
      size = c.self.invariant.size;
      lawful = subst (λ (banks : List ℕ). are_banks row bytes banks ≡ true) (sym same)
          (select_keeps row bytes before c.args.address c.args.written (board_is_sound row bytes c.self.invariant.board c.self.invariant.size) (search rules) c.self.invariant.lawful);
      whole = c.self.invariant.whole;
      begins = c.start-self-inside.ensures.value
          ∙ ap (λ (r : Row). start_of r.rest (length c.bytes-bytes.result.now) c.select.new.banks) c.board-board.ensures.value
          ∙ ap (λ (all : List ℕ). start_of row.rest (length all) c.select.new.banks) c.bytes-bytes.ensures.value;
      small = search rules;
      plain = c.self.invariant.plain;
      most_plain = c.self.invariant.most_plain;
      paired = c.self.invariant.paired;
    }
