use Rattle.std.proofs.Common.{◌≡◌, string_bytes}
use Rattle.std.specs.List.{flat_map, range_with_len}
use Rattle.movie_report.specs.Segments.{signs_line}
use Rattle.movie_report.proofs.segments.lines.Given as goal

abbrev pub invariant-loop-line : goal.invariant-loop-line
invariant-loop-line l = string_bytes l.text ≡ flat_map (signs_line l.name l.signs) (range_with_len 0 l.line)
