use Rattle.std.proofs.Common.{ap, sym, subst, ◌∙◌, arith}
use Rattle.segment_desk.proofs.StepLemmas.{allows_look}
use Rattle.segment_desk.specs.Views.{TicketView, IsBelowSeen}
use Rattle.segment_desk.proofs.desk.Desk.least_bad.Goals as goal

pub load-requires : goal.load-requires
load-requires c = let own = c.ticket.invariant in let two = c.self.invariant.0 in (
  ap (λ t. t.desk) c.ticket.view_is ∙ (c.requires.0 ∙ sym (ap (λ d. d.id) c.self.view_is)),
  omega arith,
  allows_look _ _ _ _ _ own.0 own.2,
)

pub returns-clause-least : goal.returns-clause-least
returns-clause-least c = let told = c.load.ensures.2 in (
  omega (arith, told.1, ap (λ t. t.part.segments) c.ticket.view_is ∙ c.requires.1),
  subst (λ (t : TicketView). IsBelowSeen c.load.result t.part) c.ticket.view_is told.2,
)
