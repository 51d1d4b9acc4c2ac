use Rattle.std.proofs.Common.{◌<◌, inl, inr, arith, length, refl, get_or}
use Rattle.std.specs.Str.{IsCharBoundary}
use Rattle.std.proofs.lemmas.Str.{IsCharBoundary-after_ascii}
use Rattle.movie_report.proofs.differences.without_comma.Goals as goal

pub returns-in-None : goal.returns-in-None
returns-in-None c =
    elim c.requires [
      | inl none ↦ rw none refl
      | inr some ↦
          let within : 0 < length c.args.text.now = rw some.1 (omega arith) in
          let comma : get_or c.args.text.now 0 0 < 128 = rw some.1 (omega arith) in
          let boundary : IsCharBoundary c.args.text.now 1 = IsCharBoundary-after_ascii c.args.text.now 0 c.utf8.text within comma in
          let no = c.in-None.ensures.variant.1 boundary in absurd cc
    ]
