use Rattle.std.proofs.Common.{ap, sym, ◌∙◌, ◌≡◌, ◌+◌, arith}
use Rattle.segment_desk.proofs.StepLemmas.{joins_seat, allows_settle, apart_of}
use Rattle.segment_desk.specs.Desk.{with_handed_in}
use Rattle.segment_desk.proofs.desk.Desk.hand_in.Goals as goal

pub join_seat-requires : goal.join_seat-requires
join_seat-requires c = grind (arith, joins_seat)

pub load-requires : goal.load-requires
load-requires c = let two = c.self.invariant.0 in let me = c.join_seat.ensures.2 in (
  c.join_seat.ensures.0 ∙ (ap (λ t. t.desk) c.into.view_is ∙ (c.requires.into.0 ∙ sym (ap (λ d. d.id) c.self.view_is))),
  omega arith,
  allows_settle _ _ _ _ _ (ap (λ m. m.1) me ∙ c.into.invariant.0)
      (let pos = c.into.invariant.2 in let share : c.join_seat.new.seat.me.0.share
      ≡ c.into.inside.seat.me.0.share + c.from.inside.seat.me.0.share = ap (λ m. m.0.share) me
      in omega arith),
)

pub returns-clause-apart : goal.returns-clause-apart
returns-clause-apart c = apart_of c.args.into.now.part c.args.from.part c.join_seat.new.seat.me.0
    (ap (λ m. m.0) c.join_seat.ensures.2 ∙ (λ i. with_handed_in (c.into.view_is i).part (c.from.view_is i).part)) c.load.ensures.2.2
