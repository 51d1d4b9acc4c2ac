use Rattle.std.proofs.Common.{arith, rules}
use Rattle.movie_file.specs.InputLists.{all_inputs_at}
use Rattle.movie_file.proofs.InputLists.{inputs_are_spelled, spelled_inputs_are_read}
use Rattle.movie_file.proofs.reading.inputs.read_inputs.Goals as goal

pub returns-then-bytes-ne0-clause-only : goal.returns-then-bytes-ne0-clause-only
unfolding all_inputs_at
returns-then-bytes-ne0-clause-only c = λ inputs h. rw (← spelled_inputs_are_read c.args.bytes.now inputs h) (search rules)

pub returns-in_err-inputs-2-clause-only : goal.returns-in_err-inputs-2-clause-only
unfolding all_inputs_at
returns-in_err-inputs-2-clause-only c = λ inputs h. rw (← spelled_inputs_are_read c.args.bytes.now inputs h) (search rules)

pub returns-clause-found : goal.returns-clause-found
unfolding all_inputs_at
returns-clause-found c =
    inputs_are_spelled c.args.bytes.now c.in_ok-inputs-2.inputs.items (λ i. omega (arith, c.type_inv.bytes i)) (search rules)

pub returns-clause-only : goal.returns-clause-only
unfolding all_inputs_at
returns-clause-only c = λ inputs h. rw (← spelled_inputs_are_read c.args.bytes.now inputs h) (search rules)
