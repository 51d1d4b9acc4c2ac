use Rattle.std.proofs.Common.{◌≡◌, take, replicate}
use Rattle.input_text.proofs.writing.equal_inputs.Given as goal

abbrev pub invariant-loop-input : goal.invariant-loop-input
invariant-loop-input l = (l.count ≡ l.input-index) × (take l.count l.inputs ≡ replicate l.count l.first)
