-- A line is no longer than what wipes it.
use Rattle.std.proofs.Common.{◌≤◌, ◌<◌, ◌++◌, ℕ, length, codes, arith}
use Rattle.std.specs.Fmt.{decimal}
use Rattle.std.proofs.lemmas.Fmt.{length-decimal-le}
use Rattle.std.proofs.lemmas.List.{length-append}
use Rattle.terminal_text.specs.Progress.{most_of, notice_text}
use Rattle.terminal_text.specs.declared.stage.Notice.TheVariants.{Done, Wiped}
use Rattle.terminal_text.specs.declared.stage.Unit.{Unit as CountedIn}
use Rattle.terminal_text.specs.declared.stage.Unit.TheVariants.{Frames, Segments}

pub line_is_short : (d n : ℕ) (unit : CountedIn) → d ≤ n → n ≤ most_of unit → length (notice_text (Done d n unit)) < length (notice_text Wiped)
line_is_short d n Segments fits few =
    let a = length-decimal-le 4 d (omega arith) (omega arith) (omega arith) in
    let b = length-decimal-le 4 n (omega arith) (omega arith) (omega arith) in
    let p = length-append (decimal d) (codes " of " ++ (decimal n ++ codes " segments")) in
    let q = length-append (decimal n) (codes " segments") in
    omega (arith, a, b, p, q)
line_is_short d n Frames fits few =
    let a = length-decimal-le 6 d (omega arith) (omega arith) (omega arith) in
    let b = length-decimal-le 6 n (omega arith) (omega arith) (omega arith) in
    let p = length-append (decimal d) (codes " of " ++ (decimal n ++ codes " frames")) in
    let q = length-append (decimal n) (codes " frames") in
    omega (arith, a, b, p, q)
