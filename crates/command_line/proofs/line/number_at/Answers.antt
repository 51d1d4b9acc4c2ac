use Rattle.std.proofs.Common.{arith}
use Rattle.command_line.proofs.ClapGetters.{nothing_read, number_read, one_read}
use Rattle.command_line.proofs.line.number_at.Goals as goal

pub unreachable-requires : goal.unreachable-requires
unreachable-requires c =
    let read = number_read 32 c.args.matches.now c.args.name.now c.get_one.result c.get_one.ensures.none c.get_one.ensures.value in
    nothing_read 32 _ _ read c.in_default.is 0 4294967295 (omega arith) c.requires

pub returns : goal.returns
returns c =
    let read = number_read 32 c.args.matches.now c.args.name.now c.get_one.result c.get_one.ensures.none c.get_one.ensures.value in
    one_read 32 _ _ _ read c.in-Some.is
