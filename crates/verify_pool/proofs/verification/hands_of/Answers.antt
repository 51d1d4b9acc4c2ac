use Rattle.std.proofs.Common.{rules, ◌≡◌, ℕ, ◌+◌, ◌-◌, ◌*◌, ◌≤◌, All, List, ◌++◌, ◌∷◌, [], length}
use Rattle.std.proofs.Common.{replicate, take, get_or, vec_len, ap, sym, subst, refl, ◌∙◌, arith}
use Rattle.std.proofs.lemmas.List.{take-replicate, get_or-replicate}
use Rattle.std.proofs.lemmas.List.Elements.{All-push}
use Rattle.verify_pool.specs.declared.hand.Hand.{Hand}
use Rattle.verify_pool.specs.Crew.{IsReady, shares, first_room}
use Rattle.segment_desk.specs.Views.{TicketView, IsOf, first_ticket}
use Rattle.verify_pool.proofs.CrewLemmas.{shares-append, first_room-more}
use Rattle.verify_pool.proofs.verification.hands_of.Goals as goal

pub loop-ticket-preserved : goal.loop-ticket-preserved
loop-ticket-preserved c =
    let before = c.loop-ticket.invariant in let desk = c.args.desk.now in let ft : TicketView = first_ticket desk in let t : TicketView = c.in-Some.ticket in
    let pop = c.in-Some.ensures in let n : ℕ = vec_len c.loop-ticket.tickets in let m : ℕ = vec_len c.pop.new.self in let less : m + 1 ≡ n = pop.cases in
    let left : c.pop.new.self.items ≡ replicate m ft =
    pop.rest ∙ (ap (take (n - 1)) before.left
    ∙ (take-replicate (n - 1) n ft (omega arith)
    ∙ (let e : n - 1 ≡ m = omega arith in ap (λ (k : ℕ). replicate k ft) e))) in
    let found = pop.value ft (omega arith) in
    let is : t ≡ ft =
    (let e : t ≡ get_or c.loop-ticket.tickets.items (n - 1) ft = cc in e
    ∙ (ap (λ (ts : List TicketView). get_or ts (n - 1) ft) before.left
    ∙ get_or-replicate n (n - 1) ft ft (omega arith))) in
    let hands : List Hand = c.loop-ticket.hands.items in let made = c.in_ok-pieces.ensures in
    let hand : Hand = record { ticket = t; pieces = c.in_ok-pieces.pieces } in
    let items : c.push_reserved.new.self.items ≡ hands ++ hand ∷ [] = c.push_reserved.ensures.items in
    let len = c.push_reserved.ensures.len in let long : vec_len c.loop-ticket.hands ≡ length hands = search rules in
    let segments = c.requires.segments in let enough = before.enough in let cap = made.capacity in
    let ready : IsReady desk hand = record {
      own = subst (λ (u : TicketView). IsOf desk u) (sym is) (refl, refl, refl);
      none_drawn = ap (λ (u : TicketView). u.part.drawn) is;
      empty = made.items;
      room = omega arith;
    } in record {
      left = left;
      count = let before-count = before.count in omega arith;
      space = c.push_reserved.ensures.capacity ∙ before.space;
      each = subst (All (IsReady desk)) (sym items) (All-push (IsReady desk) hands hand before.each ready);
      sum = let share : t.part.share ≡ 1 = ap (λ (u : TicketView). u.part.share) is in omega (arith, ap shares items, shares-append hands hand, before.sum);
      first = λ z. absurd (omega arith);
      later = λ some_hand. subst (λ (hs : List Hand). desk.segments * desk.workers ≤ first_room hs) (sym items)
          (first_room-more (desk.segments * desk.workers) hands hand
          (λ z. let r = before.first (omega arith) in omega arith)
          (λ more. before.later (omega arith)));
      enough = omega arith;
    }
