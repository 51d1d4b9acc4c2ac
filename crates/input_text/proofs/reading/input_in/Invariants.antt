use Rattle.std.proofs.Common.{◌≡◌, length, fold}
use Rattle.std.specs.Prelude.{is_some}
use Rattle.std.specs.List.{list_all, filter_map}
use Rattle.input_text.specs.Names.{hold, input_with}
use Rattle.input_text.specs.Texts.{name_of}
use Rattle.input_text.specs.Words.{words_in}
use Rattle.input_text.proofs.reading.input_in.Given as goal

abbrev pub invariant-loop-word : goal.invariant-loop-word
invariant-loop-word l = record {
  readable : list_all (λ word. is_some (name_of word)) (words_in l.fn.bytes) ≡ list_all (λ word. is_some (name_of word)) (words_in l.rest);
  held : input_with (filter_map name_of (words_in l.fn.bytes)) ≡ fold hold l.input (filter_map name_of (words_in l.rest));
}

abbrev pub decreases-loop-word : goal.decreases-loop-word
decreases-loop-word l = length l.rest
