use Rattle.std.proofs.Common.{ℕ, nat_lt, ap}
use Rattle.tia_core.specs.Coverage.{copies_of, is_shown_at, width_of}
use Rattle.tia_core.proofs.RoundTheLine.{distance_of-round, list_any-same}
use Rattle.tia_core.proofs.laws.law_of_coverage.Goals as goal

pub returns-clause-players : goal.returns-clause-players
returns-clause-players c mode reflected graphic position x k h p =
    list_any-same _ _ (copies_of mode) (λ copy. ap (is_shown_at (width_of mode) reflected graphic) (distance_of-round x position copy k h p))

pub returns-clause-missiles : goal.returns-clause-missiles
returns-clause-missiles c mode size position x k h p =
    list_any-same _ _ (copies_of mode) (λ copy. ap (λ (d : ℕ). nat_lt d size) (distance_of-round x position copy k h p))

pub returns-clause-ball : goal.returns-clause-ball
returns-clause-ball c size position x k h p = ap (λ (d : ℕ). nat_lt d size) (distance_of-round x position 0 k h p)
