use Rattle.std.proofs.Common.{map, take}
use Rattle.command_line.specs.Meanings.{AreAddresses}
use Rattle.command_line.proofs.frames.addresses_in.Given as goal

abbrev pub invariant-loop-word : goal.invariant-loop-word
invariant-loop-word l = AreAddresses (map (λ word. word.now) (take l.word-index l.words)) l.watches
