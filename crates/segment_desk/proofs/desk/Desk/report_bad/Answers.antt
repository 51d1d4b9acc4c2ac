use Rattle.std.proofs.Common.{ap, sym, subst, ◌∙◌, ◌≡◌, arith}
use Rattle.segment_desk.proofs.StepLemmas.{allows_report}
use Rattle.segment_desk.specs.Desk.{times, report_at, StandsIn}
use Rattle.segment_desk.specs.Views.{TicketView, IsBelowSeen}
use Rattle.segment_desk.proofs.desk.Desk.report_bad.Goals as goal

pub fetch_min-requires : goal.fetch_min-requires
fetch_min-requires c = let own = c.ticket.invariant in let two = c.self.invariant.0 in (
  ap (λ t. t.desk) c.ticket.view_is ∙ (c.requires.own.0 ∙ sym (ap (λ d. d.id) c.self.view_is)),
  omega arith,
  allows_report _ _ _ _ _ c.args.number own.0 own.2
      (ap (λ t. t.part.last) c.ticket.view_is ∙ c.requires.last.0) (ap (λ t. times c.args.number t.part.passed_over) c.ticket.view_is ∙ c.requires.last.1),
)

pub returns-clause-event : goal.returns-clause-event
returns-clause-event c = let told = c.fetch_min.ensures.2 in let same = c.ticket.view_is in let x = c.fetch_min.result in (
  x,
  told.0.1 ∙ ap (λ t. report_at x c.args.number t.part) same,
  omega (arith, told.1, ap (λ t. t.part.segments) same ∙ c.requires.own.1),
  subst (λ (t : TicketView). IsBelowSeen x t.part) same told.2,
  subst (λ (t : TicketView). StandsIn (λ s. s.least ≡ x) t.part) same told.3,
)
