use Rattle.std.proofs.Common.{◌≡◌, ◌-◌, replicate, vec_len, vec_capacity}
use Rattle.segment_desk.specs.Views.{first_ticket, shared_ticket}
use Rattle.segment_desk.proofs.desk.Desk.new.Given as goal

abbrev pub invariant-loop-taken : goal.invariant-loop-taken
invariant-loop-taken l = record {
  given : l.tickets.items ≡ replicate l.taken (first_ticket l.desk);
  left : l.first ≡ shared_ticket l.desk (l.workers - l.taken);
  count : vec_len l.tickets ≡ l.taken;
  room : vec_capacity l.tickets ≡ l.workers;
}
