use Rattle.std.proofs.Common.{lit<}
use Rattle.std.proofs.lemmas.Str.Pattern.{strip_prefix_char}
use Rattle.command_line.proofs.Addresses.{undollared}
use Rattle.command_line.proofs.frames.without_dollar.Goals as goal

pub returns : goal.returns
returns c = rw c.unwrap_or.ensures (undollared c.args.word c.strip_prefix.result (strip_prefix_char 36 c.args.word.now c.strip_prefix.result c.strip_prefix.ensures.cases (lit< tt)))
