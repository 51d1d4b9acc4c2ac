use Rattle.std.proofs.Common.{◌≡◌, ◌+◌, ◌≤◌}
use Rattle.cart_board.specs.Known.{known_row}
use Rattle.movie_report.specs.Differences.{difference_count}
use Rattle.movie_report.specs.Numbers.{bytes_in, state_names}
use Rattle.movie_report.proofs.DifferenceLemmas.{rest_count, bytes_from}
use Rattle.movie_report.proofs.differences.difference_count.Given as goal

abbrev pub invariant-loop-place : goal.invariant-loop-place
invariant-loop-place l = record {
  count : l.count + rest_count (known_row l.board) l.first l.second l.place l.at ≡ difference_count (known_row l.board) l.first l.second;
  bytes : l.at + bytes_from (known_row l.board) l.place ≡ bytes_in (state_names (known_row l.board));
  few : l.count ≤ l.place;
}
