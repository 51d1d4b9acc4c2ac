use Rattle.std.proofs.Common.{◌≡◌, ◌≤◌, take}
use Rattle.movie_report.specs.Reasons.{broken}
use Rattle.movie_report.proofs.reason.broken.Given as goal

abbrev pub invariant-loop-sign : goal.invariant-loop-sign
invariant-loop-sign l = record { value : l.count ≡ broken (take l.sign-index l.signs); few : l.count ≤ l.sign-index }
