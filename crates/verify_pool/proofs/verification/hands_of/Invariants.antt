use Rattle.std.proofs.Common.{◌≡◌, ◌+◌, ◌*◌, ◌<◌, ◌≤◌, All, replicate, vec_len, vec_capacity}
use Rattle.verify_pool.specs.Crew.{IsReady, shares, first_room}
use Rattle.segment_desk.specs.Views.{first_ticket}
use Rattle.verify_pool.proofs.verification.hands_of.Given as goal

abbrev pub invariant-loop-ticket : goal.invariant-loop-ticket
invariant-loop-ticket l = record {
  left : l.tickets.items ≡ replicate (vec_len l.tickets) (first_ticket l.desk);
  count : vec_len l.hands + vec_len l.tickets ≡ l.desk.workers;
  space : vec_capacity l.hands ≡ l.desk.workers;
  each : All (IsReady l.desk) l.hands.items;
  sum : shares l.hands.items ≡ vec_len l.hands;
  first : vec_len l.hands ≡ 0 → l.room ≡ l.desk.segments * l.desk.workers;
  later : 0 < vec_len l.hands → l.desk.segments * l.desk.workers ≤ first_room l.hands.items;
  enough : l.desk.segments ≤ l.room;
}

abbrev pub decreases-loop-ticket : goal.decreases-loop-ticket
decreases-loop-ticket l = vec_len l.tickets
