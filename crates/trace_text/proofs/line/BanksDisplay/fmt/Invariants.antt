use Rattle.std.proofs.Common.{true, ◌++◌, codes, take}
use Rattle.std.specs.Fmt.{HasWritten, IsPlainFormatter, digits}
use Rattle.std.specs.List.{flat_map}
use Rattle.trace_text.proofs.line.BanksDisplay.fmt.Given as goal

abbrev pub invariant-loop-bank : goal.invariant-loop-bank
invariant-loop-bank g l =
    IsPlainFormatter l.initial.f
    → HasWritten g.W.Write.write_str_gives l.initial.f (flat_map (λ next. codes "." ++ digits 16 true next) (take l.bank-index l.more)) l.f
