use Rattle.std.proofs.Common.{◌≡◌, arith, inr, length}
use Rattle.std.proofs.lemmas.Result.{IfOk-weaker}
use Rattle.std.specs.NonZero.{non_zero_u32_get}
use Rattle.commands.proofs.MadeAnswers.{of_run}
use Rattle.commands.proofs.make.of_inputs.Goals as goal

pub returns-in-Ok : goal.returns-in-Ok
returns-in-Ok g c =
    let made = c.in-Ok.made in
    let run = rw c.get.ensures.value at c.in-Ok.ensures in
    IfOk-weaker c.of_made.result _ _
    (λ answer is. of_run c.args.cart c.args.inputs.items c.args.stored (non_zero_u32_get c.args.making.every) c.args.making.to_the_end c.args.making.to_the_fault answer run.fits
    made.movie made.fault run.made is)
    c.of_made.ensures

pub returns-in-Err-Of-BadCounts : goal.returns-in-Err-Of-BadCounts
returns-in-Err-Of-BadCounts g c =
    let refused = rw (c.get.ensures.value, c.in-Err-Of-BadCounts.field-0-is, c.in-Err-Of-BadCounts.field-0-0-is) at c.in-Err-Of-BadCounts.ensures.refused in
    let count : c.len-frames.result ≡ length c.args.inputs.items = omega (arith, c.len-frames.ensures, c.args.inputs.ok.0) in
    let hint = rw count at c.hint_of_counts.ensures in
    IfOk-weaker c.counts_refusal.result _ _ (λ answer is. inr (refused, c.hint_of_counts.result, hint, is)) (rw c.or-hint.ensures at c.counts_refusal.ensures)
