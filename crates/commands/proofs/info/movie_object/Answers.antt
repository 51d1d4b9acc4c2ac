use Rattle.std.proofs.Common.{◌≡◌, length, string_bytes}
use Rattle.movie_machine.specs.Carts.{board_of, bytes_of}
use Rattle.replay_plan.specs.declared.notation.Notation.TheVariants.{Json}
use Rattle.commands.specs.Info.{board_text}
use Rattle.commands.proofs.info.movie_object.Goals as goal

pub returns : goal.returns
returns c =
    let m = c.args.movie.now in
    let board : string_bytes c.in_ok-board.board ≡ board_text Json (board_of m.cartridge) = rw c.cart.ensures at c.in_ok-board.ensures in
    let bytes : c.len-cartridge.result ≡ length (bytes_of m.cartridge) = rw c.cart-2.ensures at c.len-cartridge.ensures.value in
    rw (← c.version-version.ensures.value, ← board, ← bytes, ← c.frames-frames.ensures.value, ← c.checkpoints-checkpoints.ensures.value)
    c.format.ensures.ok
