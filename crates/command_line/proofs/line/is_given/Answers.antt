use Rattle.command_line.proofs.ClapGetters.{flag_read}
use Rattle.command_line.proofs.line.is_given.Goals as goal

pub returns : goal.returns
returns c =
    let read = flag_read c.args.matches.now c.args.name.now c.get_one.result c.get_one.ensures.none c.get_one.ensures.value in
    rw c.unwrap_or.ensures read
