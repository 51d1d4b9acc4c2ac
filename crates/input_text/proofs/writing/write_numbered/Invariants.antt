use Rattle.std.proofs.Common.{length}
use Rattle.std.specs.NonZero.{non_zero_u32_get}
use Rattle.std.specs.String.{string_bytes}
use Rattle.input_text.proofs.Printed.{NumberedUpTo}
use Rattle.input_text.proofs.writing.write_numbered.Given as goal

abbrev pub invariant-loop-stretch : goal.invariant-loop-stretch
invariant-loop-stretch l = NumberedUpTo (non_zero_u32_get l.fn.first) l.inputs l.frame l.rest (string_bytes l.listing)

abbrev pub decreases-loop-stretch : goal.decreases-loop-stretch
decreases-loop-stretch l = length l.rest
