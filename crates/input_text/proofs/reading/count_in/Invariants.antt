use Rattle.std.proofs.Common.{◌≡◌, true, take, min}
use Rattle.std.specs.Str.{all_ascii_digits}
use Rattle.input_text.specs.Texts.{number_of}
use Rattle.input_text.proofs.reading.count_in.Given as goal

abbrev pub invariant-loop-byte : goal.invariant-loop-byte
invariant-loop-byte l = record {
  digits : all_ascii_digits (take l.byte-index l.word) ≡ true;
  value : l.count ≡ min (number_of (take l.byte-index l.word)) 262144;
}
