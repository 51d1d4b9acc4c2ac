-- How many frames are kept.
use Rattle.std.proofs.Common.{◌≡◌, ℕ, ◌+◌, arith, if◌then◌else◌}
use Rattle.std.proofs.lemmas.Bool.Decides.{nat_tests}
use Rattle.replay_plan.specs.declared.keep.Keep.{Keep}
use Rattle.replay_plan.specs.Keeping.{is_kept, kept_count}

pub kept_count-zero : (keep : Keep) (from : ℕ) → kept_count keep from 0 ≡ 0
kept_count-zero keep from = grind (arith, nat_tests)

pub kept_count-next : (keep : Keep) (from k : ℕ) → kept_count keep from (k + 1) ≡ kept_count keep from k + (if is_kept keep (from + k + 1) then 1 else 0)
kept_count-next keep from k = grind (arith, nat_tests)
