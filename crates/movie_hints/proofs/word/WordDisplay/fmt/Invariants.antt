use Rattle.std.proofs.Common.{◌≡◌, ◌≤◌, ℕ, List, ◌++◌, length, take}
use Rattle.std.specs.Fmt.{HasWritten, IsPlainFormatter}
use Rattle.std.specs.Str.Chunks.{utf8_chunks_rest}
use Rattle.movie_hints.specs.Words.{shown_bytes, pieces_text}
use Rattle.movie_hints.proofs.word.WordDisplay.fmt.Given as goal

abbrev pub invariant-loop-chunk : goal.invariant-loop-chunk
invariant-loop-chunk g l =
    IsPlainFormatter l.initial.f → (done : List ℕ) × (most : ℕ) × HasWritten g.W.Write.write_str_gives l.initial.f done l.f
    × (length (utf8_chunks_rest l.chunk-iterator) ≤ most)
    × (done ++ pieces_text most (utf8_chunks_rest l.chunk-iterator) ≡ shown_bytes (take 40 l.self.bytes.now))
