use Rattle.std.proofs.Common.{length}
use Rattle.std.specs.String.{string_bytes}
use Rattle.input_text.proofs.Printed.{PrintedUpTo}
use Rattle.input_text.proofs.writing.write_text.Given as goal

abbrev pub invariant-loop-stretch : goal.invariant-loop-stretch
invariant-loop-stretch l = PrintedUpTo l.inputs l.rest (string_bytes l.text)

abbrev pub decreases-loop-stretch : goal.decreases-loop-stretch
decreases-loop-stretch l = length l.rest
