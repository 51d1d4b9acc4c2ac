use Rattle.std.proofs.Common.{◌≡◌, ◌≤◌, length}
use Rattle.input_text.specs.Words.{words_in}
use Rattle.input_text.proofs.words.first_word.Given as goal

abbrev pub invariant-loop-rest : goal.invariant-loop-rest
invariant-loop-rest l = record { words : words_in l.bytes ≡ words_in l.rest; left : length l.rest ≤ length l.bytes }

abbrev pub decreases-loop-rest : goal.decreases-loop-rest
decreases-loop-rest l = length l.rest
