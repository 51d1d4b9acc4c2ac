use Rattle.movie_report.specs.Private.FoundSigns.{IsRow}
use Rattle.movie_report.proofs.later_signs.draw_signs.Given as goal

abbrev pub invariant-loop : goal.invariant-loop
invariant-loop g l = IsRow l.movie l.cuts l.from l.count l.row
