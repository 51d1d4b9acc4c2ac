use Rattle.std.proofs.Common.{◌≡◌, ◌∙◌, arith, false, inl, inr, length, sym, true}
use Rattle.std.proofs.lemmas.Bool.{false≢true}
use Rattle.cart_board.specs.Known.{known_row}
use Rattle.movie_file.specs.Format.{is_length}
use Rattle.picture_file.proofs.BytesWritten.{keeps_same}
use Rattle.commands.proofs.make.make.Goals as goal

pub returns-then-not-is_length-clause-makes : goal.returns-then-not-is_length-clause-makes
returns-then-not-is_length-clause-makes g c =
    let count : c.len.result ≡ length c.args.rom.items = omega (arith, c.len.ensures, c.args.rom.ok.0) in
    let other : is_length (known_row c.args.board) (length c.args.rom.items) ≡ false = rw (← count) (sym c.is_length.ensures ∙ c.if-not-is_length.true) in
    inr ((λ is. absurd (false≢true (sym other ∙ is))), keeps_same _, rw c.deref.ensures.value at c.in_ok-rom_refusal.ensures)

pub returns-clause-makes : goal.returns-clause-makes
returns-clause-makes g c =
    let count : c.len.result ≡ length c.args.rom.items = omega (arith, c.len.ensures, c.args.rom.ok.0) in
    let fits : is_length (known_row c.args.board) (length c.args.rom.items) ≡ true = rw (← count) (sym c.is_length.ensures ∙ c.if-not-is_length.false) in
    let read = c.in_ok-bytes in
    inl (fits, (read.bytes.items, read.ensures.all, rw c.in-Ok.ensures.value at c.in_ok-of_bytes.ensures))
