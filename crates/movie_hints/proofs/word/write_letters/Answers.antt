use Rattle.std.proofs.Common.{◌++◌, flat_map, sym, ap, ◌∙◌, append_assoc, append-nil, rules}
use Rattle.std.proofs.Output.{has_written_append, has_written_of_eq}
use Rattle.std.proofs.lemmas.Str.{IsUtf8-past_char, chars_past_char}
use Rattle.std.proofs.StrCases.{chars_of_empty}
use Rattle.movie_hints.specs.Words.{letter_text}
use Rattle.movie_hints.proofs.word.write_letters.Goals as goal

pub loop-c-preserved : goal.loop-c-preserved
loop-c-preserved g c =
    let held = c.loop-c.invariant in
    let x = c.in-Some.c in
    let parts = c.in-Some.ensures.steps.0 in (
      IsUtf8-past_char _ _ x held.0 parts,
      λ plain.
          let now = held.1 plain in (
            now.0 ++ letter_text x,
            has_written_append _ _ _ _ _ _ now.1 (search rules),
            append_assoc now.0 (letter_text x) _
                ∙ ap (λ l. now.0 ++ flat_map letter_text l) (sym (chars_past_char _ _ x held.0 parts)) ∙ now.2,
          ),
    )

pub returns : goal.returns
returns g c =
    λ plain _.
    let now = c.loop-c.invariant.1 plain in
    has_written_of_eq _ _ _ _ _
    (sym (append-nil now.0)
    ∙ ap (λ l. now.0 ++ flat_map letter_text l) (sym (chars_of_empty _ c.in-None.ensures.steps.0.0))
    ∙ now.2)
    now.1
