use Rattle.std.proofs.Common.{◌≡◌, ◌++◌, ◌∙◌, [], append_assoc, append-nil, ap, arith, refl, sym, length, rules, take}
use Rattle.std.proofs.Output.{has_written_append, has_written_of_eq}
use Rattle.std.proofs.lemmas.Bool.{le-ltb, lt-ltb}
use Rattle.std.specs.Str.Chunks.{utf8_chunk_invalid, utf8_chunk_valid, utf8_chunks_rest}
use Rattle.movie_hints.specs.Words.{escaped, letters_text}
use Rattle.movie_hints.proofs.WordLemmas.{shown_bytes-pieces, pieces_text-end, pieces_text-next}
use Rattle.movie_hints.proofs.word.WordDisplay.fmt.Goals as goal

pub loop-chunk-init : goal.loop-chunk-init
loop-chunk-init g c =
    λ plain.
    let rest : utf8_chunks_rest c.into_iter-chunk-iterator.result ≡ take 40 c.args.self.now.bytes.now =
    rw c.into_iter-chunk-iterator.ensures.into_iter_gives (c.utf8_chunks-chunk-items.ensures.rest ∙ c.shown_part.ensures) in
    rw rest ([], length (take 40 c.args.self.now.bytes.now), search rules, omega arith, shown_bytes-pieces _)

pub loop-chunk-preserved : goal.loop-chunk-preserved
loop-chunk-preserved g c =
    λ plain.
    let now = c.loop-chunk.invariant plain in
    let steps = c.in-Some.ensures.steps in
    let bytes = utf8_chunks_rest c.loop-chunk.chunk-iterator in
    let valid = utf8_chunk_valid c.in-Some.chunk in
    let invalid = utf8_chunk_invalid c.in-Some.chunk in
    let next = pieces_text-next now.1 bytes valid invalid (utf8_chunks_rest c.next.new.self) now.3 steps.0 steps.1 steps.3.0 steps.3.1 in
    let first = has_written_append _ _ _ _ _ _ now.2 (rw c.valid.ensures at (c.in_ok-write_letters.ensures now.2.plain refl)) in
    let both = has_written_append _ _ _ _ _ _ first (rw c.invalid.ensures at (c.in_ok-write_escaped.ensures first.plain refl)) in (
      now.0 ++ letters_text valid ++ escaped invalid,
      next.0,
      both,
      next.1,
      simp append_assoc (ap (λ l. now.0 ++ l) (sym next.2) ∙ now.4),
    )

pub returns-in_ok-write_str-clause-writes : goal.returns-in_ok-write_str-clause-writes
returns-in_ok-write_str-clause-writes g c =
    λ plain _.
    let now = c.loop-chunk.invariant plain in
    let done = pieces_text-end now.0 now.1 _ _ c.in-None.ensures.steps.0 now.4 in
    rw (lt-ltb _ _ c.if-self-gt-MOST_SHOWN.true)
    (has_written_append _ _ _ _ _ _ (has_written_of_eq _ _ _ _ _ done now.2) (c.in_ok-write_str.ensures.writes now.2.plain refl))

pub returns-else-self-gt-MOST_SHOWN-clause-writes : goal.returns-else-self-gt-MOST_SHOWN-clause-writes
returns-else-self-gt-MOST_SHOWN-clause-writes g c =
    λ plain _.
    let now = c.loop-chunk.invariant plain in
    let done = pieces_text-end now.0 now.1 _ _ c.in-None.ensures.steps.0 now.4 in
    rw (le-ltb _ _ c.if-self-gt-MOST_SHOWN.false, append-nil) (has_written_of_eq _ _ _ _ _ done now.2)
