use Rattle.std.proofs.Common.{◌<◌, arith}
use Rattle.cart_board.specs.declared.window.Kind.TheVariants.{Rom, ReadPort, WritePort}
use Rattle.cart_board.proofs.SoundLemmas.{room_of_kind}
use Rattle.cart_board.proofs.mapped_cart.MappedCart.target.Goals as goal

pub returns-clause-rom : goal.returns-clause-rom
returns-clause-rom c = λ kind.
    room_of_kind c.args.self.now c.args.address c.found.result Rom c.found.ensures.value c.found.ensures.board c.found.ensures.size c.found.ensures.banks kind

pub returns-clause-read_port : goal.returns-clause-read_port
returns-clause-read_port c = λ kind.
    let room : c.found.result.offset < c.args.self.now.cartridge.row.ram =
    room_of_kind c.args.self.now c.args.address c.found.result ReadPort c.found.ensures.value c.found.ensures.board c.found.ensures.size c.found.ensures.banks kind in
    omega arith

pub returns-clause-write_port : goal.returns-clause-write_port
returns-clause-write_port c = λ kind.
    let room : c.found.result.offset < c.args.self.now.cartridge.row.ram =
    room_of_kind c.args.self.now c.args.address c.found.result WritePort c.found.ensures.value c.found.ensures.board c.found.ensures.size c.found.ensures.banks kind in
    omega arith
