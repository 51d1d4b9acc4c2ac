use Rattle.std.proofs.Common.{ap, sym, subst, ◌∙◌, ◌<◌, arith}
use Rattle.segment_desk.specs.Desk.{times}
use Rattle.segment_desk.specs.Views.{TicketView}
use Rattle.segment_desk.proofs.PartLemmas.{end_again}
use Rattle.segment_desk.proofs.StepLemmas.{allows_draw, drawn_fresh}
use Rattle.segment_desk.proofs.desk.Desk.draw.Goals as goal

pub returns-then-ticket-clause-event : goal.returns-then-ticket-clause-event
returns-then-ticket-clause-event c = let flag = c.ticket.invariant.1 in
    end_again c.args.ticket.now.part (ap (λ t. t.part.ended) (sym c.ticket.view_is) ∙ (sym flag ∙ c.if-ticket.true))

pub fetch_add-found-requires : goal.fetch_add-found-requires
fetch_add-found-requires c = let own = c.ticket.invariant in let two = c.self.invariant.0 in (
  ap (λ t. t.desk) c.ticket.view_is ∙ (c.requires.0 ∙ sym (ap (λ d. d.id) c.self.view_is)),
  omega arith,
  allows_draw _ _ _ _ _ own.0 own.2 (sym own.1 ∙ c.if-ticket.false),
)

pub returns-then-found-self-clause-after_last : goal.returns-then-found-self-clause-after_last
returns-then-found-self-clause-after_last c = λ j e. c.fetch_add-found.ensures.2.1 j
    (c.ticket.invariant.3.last_drawn j (ap (λ t. t.part.last) c.ticket.view_is ∙ e))

pub returns-then-found-self-clause-not_passed : goal.returns-then-found-self-clause-not_passed
returns-then-found-self-clause-not_passed c = let told = c.fetch_add-found.ensures.2 in drawn_fresh _ _ _ told.0.1 c.ticket.invariant.3 told.1

pub returns-then-found-self-clause-rising : goal.returns-then-found-self-clause-rising
returns-then-found-self-clause-rising c = λ j some. c.fetch_add-found.ensures.2.1 j
    (subst (λ (t : TicketView). 0 < times j t.part.drawn) (sym c.ticket.view_is) some)
