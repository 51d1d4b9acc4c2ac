use Rattle.std.proofs.Common.{◌≡◌, ◌++◌, take}
use Rattle.std.specs.List.{flat_map}
use Rattle.vcs_machine.specs.Inputs.{input_bytes}
use Rattle.movie_file.proofs.writing.put_inputs.Given as goal

abbrev pub invariant-loop-input : goal.invariant-loop-input
invariant-loop-input l = l.out.items ≡ l.fn.out.items ++ flat_map input_bytes (take l.input-index l.inputs)
