use Rattle.std.proofs.Common.{◌≡◌, ℕ, List, ◌++◌}
use Rattle.std.specs.Fmt.{HasWritten, IsPlainFormatter}
use Rattle.movie_hints.specs.HintTexts.{lengths_text}
use Rattle.movie_hints.proofs.LengthTexts.{left_text}
use Rattle.movie_hints.proofs.mismatch.write_lengths.Given as goal

abbrev pub invariant-loop-i : goal.invariant-loop-i
invariant-loop-i g l =
    IsPlainFormatter l.initial.f
    → (done : List ℕ) × HasWritten g.W.Write.write_str_gives l.initial.f done l.f × (done ++ left_text l.i l.lengths ≡ lengths_text l.lengths)
