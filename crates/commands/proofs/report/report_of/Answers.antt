use Rattle.std.proofs.Common.{refl, string_bytes}
use Rattle.commands.proofs.report.report_of.Goals as goal

pub report-requires-after_bounds : goal.report-requires-after_bounds
report-requires-after_bounds g c κs within = (c.without_pictures-plan.result.keep, c.in_ok-verdict.ensures.verdict)

pub returns-clause-answer : goal.returns-clause-answer
returns-clause-answer g c =
    rw (c.of_text.ensures, c.status_with-status.ensures, c.status.ensures, c.of_verdict.ensures, c.in_ok-agreement.ensures.value, c.in_ok-text.ensures) (
      c.in_ok-verdict.verdict,
      string_bytes c.in_ok-facts.facts,
      (c.without_pictures-plan.result.keep, c.in_ok-verdict.ensures.verdict),
      rw (c.program_name.ensures, c.in_ok-agreement.ensures.value) at c.in_ok-facts.ensures,
      refl,
    )
