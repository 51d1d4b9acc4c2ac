use Rattle.std.proofs.Common.{◌≡◌, ◌+◌, ◌++◌, string_bytes}
use Rattle.cart_board.specs.Known.{known_row}
use Rattle.movie_report.specs.Claims.{values_text}
use Rattle.movie_report.specs.Numbers.{bytes_in, state_names}
use Rattle.movie_report.proofs.ClaimLemmas.{rest_text}
use Rattle.movie_report.proofs.DifferenceLemmas.{bytes_from}
use Rattle.movie_report.proofs.claim_facts.values.Given as goal

abbrev pub invariant-loop-place : goal.invariant-loop-place
invariant-loop-place l = record {
  text : string_bytes l.text ++ rest_text l.notation (known_row l.board) l.bytes l.place l.at ≡ values_text l.notation (known_row l.board) l.bytes;
  bytes : l.at + bytes_from (known_row l.board) l.place ≡ bytes_in (state_names (known_row l.board));
}
