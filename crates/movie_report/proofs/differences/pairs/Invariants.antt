use Rattle.std.proofs.Common.{◌≡◌, ◌+◌, ◌++◌, string_bytes}
use Rattle.cart_board.specs.Known.{known_row}
use Rattle.movie_report.specs.Differences.{pairs_text}
use Rattle.movie_report.specs.Numbers.{bytes_in, state_names}
use Rattle.movie_report.proofs.DifferenceLemmas.{rest_text, bytes_from}
use Rattle.movie_report.proofs.differences.pairs.Given as goal

abbrev pub invariant-loop-place : goal.invariant-loop-place
invariant-loop-place l = record {
  text : string_bytes l.text ++ rest_text l.notation l.comparison (known_row l.board) l.first l.second l.place l.at
      ≡ pairs_text l.notation l.comparison (known_row l.board) l.first l.second;
  bytes : l.at + bytes_from (known_row l.board) l.place ≡ bytes_in (state_names (known_row l.board));
}
