use Rattle.std.proofs.Common.{◌∙◌}
use Rattle.movie_hints.proofs.TextLemmas.{utf8_by_reading}
use Rattle.movie_hints.proofs.plain_text.is_utf8.Goals as goal

pub returns : goal.returns
returns c = c.is_ok.ensures.value ∙ utf8_by_reading _ _ _ _ c.from_utf8.ensures.cases
