use Rattle.std.proofs.Common.{◌<◌, ℕ, sym, subst, inr}
use Rattle.segment_desk.specs.Desk.{times}
use Rattle.segment_desk.specs.declared.part.Part.{Part}
use Rattle.segment_desk.proofs.PartLemmas.{with_number-here}
use Rattle.verify_pool.proofs.worker.report_unless_passed.Goals as goal

-- What was reported stands among the reported numbers.
pub returns-then-not-passed-clause-reported : goal.returns-then-not-passed-clause-reported
returns-then-not-passed-clause-reported c =
    let after : Part = c.report_bad.new.ticket.part in
    let here = with_number-here c.number-number.result c.args.ticket.now.part.reported in
    let told = subst (λ (v : Part). 0 < times c.number-number.result v.reported) (sym c.report_bad.ensures.event.1) here in
    inr (subst (λ (n : ℕ). 0 < times n after.reported) c.number-number.ensures.value told)
