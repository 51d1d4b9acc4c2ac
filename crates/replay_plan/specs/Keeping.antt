-- Which frames' pictures are kept. This project's own.
use Rattle.std.specs.Prelude.{ℕ, ◌+◌, ◌-◌, Bool, ◌&&◌, nat_le, nat_lt}
use Rattle.std.proofs.Common.{min, max}
use Rattle.replay_plan.specs.declared.keep.Keep.{Keep}

-- Whether the picture of a frame is kept: of `count` frames from `first` on.
abbrev pub is_kept : Keep → ℕ → Bool
is_kept keep frame = nat_le keep.first frame && nat_lt frame (keep.first + keep.count)

-- How many of the frames from + 1 .. from + len are kept.
abbrev pub kept_count : Keep → ℕ → ℕ → ℕ
kept_count keep from len = min (keep.first + keep.count) (from + len + 1) - max keep.first (from + 1)
