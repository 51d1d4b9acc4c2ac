use Rattle.std.proofs.Common.{◌≡◌, ◌++◌, take}
use Rattle.std.specs.List.{flat_map}
use Rattle.std.specs.String.{string_bytes}
use Rattle.trace_text.specs.TraceLines.{access_text}
use Rattle.trace_text.proofs.line.trace_line.Given as goal

abbrev pub invariant-loop-access : goal.invariant-loop-access
invariant-loop-access l =
    string_bytes l.line ≡ string_bytes l.initial.line ++ flat_map access_text (take l.access-index l.access-items)
