use Rattle.std.proofs.Common.{◌++◌, encode_utf8, encode_utf8_all, refl, sym, ap, ◌∙◌, append_assoc}
use Rattle.std.proofs.Output.{has_written_append}
use Rattle.movie_hints.proofs.word.write_escaped_byte.Goals as goal

pub loop-character-preserved : goal.loop-character-preserved
loop-character-preserved g c =
    λ plain.
    let now = c.loop-character.invariant plain in
    let x = c.in-Some.character in (
      now.0 ++ encode_utf8 x,
      has_written_append _ _ _ _ _ _ now.1 (rw c.from.ensures at (c.in_ok-write_char.ensures.writes now.1.plain refl)),
      append_assoc now.0 (encode_utf8 x) _ ∙ ap (λ l. now.0 ++ encode_utf8_all l) (sym c.in-Some.ensures.steps.1.0) ∙ now.2,
    )
