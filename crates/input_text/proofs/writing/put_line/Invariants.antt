use Rattle.std.proofs.Common.{◌≡◌, ◌++◌}
use Rattle.std.specs.String.{string_bytes}
use Rattle.input_text.specs.Stretches.{line_of}
use Rattle.input_text.proofs.Printed.{left_of_line}
use Rattle.input_text.proofs.writing.put_line.Given as goal

abbrev pub invariant-loop-name : goal.invariant-loop-name
invariant-loop-name l =
    string_bytes l.text ++ left_of_line l.fn.stretch.input l.name-index ≡ string_bytes l.fn.text ++ line_of l.fn.stretch
