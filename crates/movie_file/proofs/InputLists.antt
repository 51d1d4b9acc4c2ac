-- Inputs by themselves: what is read is spelled so, and what is spelled so is read.
use Rattle.std.proofs.Common.{◌≡◌, ℕ, ◌*◌, ◌/◌, ◌%◌, eqb, List, [], length, Ok}
use Rattle.std.proofs.Common.{refl, ap, ◌∙◌, arith}
use Rattle.std.proofs.lemmas.Bool.{eqb-true}
use Rattle.std.proofs.lemmas.List.{append-nil, nil_from_length}
use Rattle.vcs_machine.specs.Inputs.{InputData}
use Rattle.movie_file.specs.Format.{input_length}
use Rattle.movie_file.specs.InputLists.{SpellsInputs, all_inputs_at}
use Rattle.movie_file.specs.Reading.{inputs_at}
use Rattle.movie_file.specs.declared.error.MovieError.TheVariants.{Short}
use Rattle.movie_file.proofs.ByteLemmas.{IsBytes}
use Rattle.movie_file.proofs.ReadLemmas.{bind_ok, guard_then, ok_is}
use Rattle.movie_file.proofs.InputLemmas.{inputs_take, inputs_again, length-inputs}

pub inputs_are_spelled : (bytes : List ℕ) (inputs : List InputData) → IsBytes bytes → all_inputs_at bytes ≡ Ok inputs → SpellsInputs bytes inputs
unfolding all_inputs_at
inputs_are_spelled bytes inputs fits e =
    let n = length bytes / input_length in
    let whole = guard_then (eqb (length bytes % input_length) 0) Short _ inputs e in
    let even = eqb-true _ _ whole.0 in
    let read = bind_ok (inputs_at n 1 bytes) _ inputs whole.1 in
    let taken = inputs_take n 1 bytes read.0 (omega arith) fits read.1 in
    let none : read.0.1 ≡ [] = nil_from_length read.0.1 (omega (arith, taken.left, even)) in
    rw (← ok_is read.0.0 inputs read.2) (record { lawful = taken.each; spelled = rw (none, append-nil) at taken.takes.parts })

pub spelled_inputs_are_read : (bytes : List ℕ) (inputs : List InputData) → SpellsInputs bytes inputs → all_inputs_at bytes ≡ Ok inputs
unfolding all_inputs_at
spelled_inputs_are_read bytes inputs h =
    let long : length bytes ≡ input_length * length inputs = ap length h.spelled ∙ length-inputs inputs in
    let even : length bytes % input_length ≡ 0 = omega (arith, long) in
    let n : length bytes / input_length ≡ length inputs = omega (arith, long) in
    let read = rw (append-nil, ← h.spelled) at (inputs_again 1 inputs [] h.lawful) in
    rw (even, n, read) refl
