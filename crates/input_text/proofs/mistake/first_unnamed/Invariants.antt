use Rattle.std.proofs.Common.{◌≡◌, length}
use Rattle.std.specs.Prelude.{find, is_some, not}
use Rattle.input_text.specs.Texts.{name_of}
use Rattle.input_text.specs.Words.{words_in}
use Rattle.input_text.proofs.mistake.first_unnamed.Given as goal

abbrev pub invariant-loop-word : goal.invariant-loop-word
invariant-loop-word l = record {
  first : find (λ word. not (is_some (name_of word))) (words_in l.fn.bytes) ≡ find (λ word. not (is_some (name_of word))) (words_in l.rest);
}

abbrev pub decreases-loop-word : goal.decreases-loop-word
decreases-loop-word l = length l.rest
