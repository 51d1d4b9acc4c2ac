use Rattle.std.proofs.Common.{◌≡◌, replicate, vec_len, vec_capacity}
use Rattle.vcs_machine.proofs.picture.blank_rows.Given as goal

abbrev pub invariant-loop-row : goal.invariant-loop-row
invariant-loop-row l = record {
  items : l.rows.items ≡ replicate l._row (replicate 160 0);
  len : vec_len l.rows ≡ l._row;
  room : vec_capacity l.rows ≡ 322;
}
