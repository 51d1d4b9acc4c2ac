use Rattle.std.proofs.Common.{◌≡◌, ◌+◌, ◌++◌, drop, string_bytes}
use Rattle.movie_report.specs.Reasons.{broken, more_numbers}
use Rattle.movie_report.proofs.reason.more_numbers.Given as goal

abbrev pub invariant-loop-sign : goal.invariant-loop-sign
invariant-loop-sign l = record {
  left : l.left ≡ broken (drop l.sign-index l.claims);
  last : l.last ≡ l.number + l.sign-index;
  text : string_bytes l.text ++ more_numbers l.last (drop l.sign-index l.claims) ≡ more_numbers l.number l.claims;
}
