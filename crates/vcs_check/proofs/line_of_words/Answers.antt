use Rattle.std.proofs.Common.{inr, refl, rules}
use Rattle.vcs_check.specs.Commands.{ReadsFirst, ReadsSecond}
use Rattle.vcs_check.proofs.line_of_words.Goals as goal

pub returns-then-reads_second-clause-err : goal.returns-then-reads_second-clause-err
returns-then-reads_second-clause-err c =
    let first : ReadsFirst c.in_ok-line.line = search rules in
    let second : ReadsSecond c.in_ok-line.line = search rules in
    inr (c.in_ok-line.line, c.in_ok-line.ensures.ok, (first, second), refl)
