use Rattle.std.proofs.Common.{length, ◌+◌, ◌≤◌}
use Rattle.input_text.proofs.GoodLines.{ReadSoFar, bytes_left}
use Rattle.input_text.proofs.reading.read_text.Given as goal

abbrev pub invariant-loop-rest : goal.invariant-loop-rest
invariant-loop-rest l = record {
  read : ReadSoFar l.text l.number l.inputs.items l.rest;
  left : l.number + bytes_left l.rest ≤ length l.text + 1;
}

abbrev pub decreases-loop-rest : goal.decreases-loop-rest
decreases-loop-rest l = bytes_left l.rest
