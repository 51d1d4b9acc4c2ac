use Rattle.std.proofs.Common.{◌≡◌, replicate, rules, sym}
use Rattle.movie_report.specs.declared.segments.Sign.TheVariants.{Passes}
use Rattle.movie_report.proofs.ClaimSignLemmas.{claim_signs-parts, length-claim_signs}
use Rattle.movie_report.proofs.claim_signs.claim_signs.Goals as goal

pub returns-clause-signs : goal.returns-clause-signs
returns-clause-signs g c =
    let passed : c.in_ok-signs.signs.items ≡ replicate c.from.result Passes = c.in_ok-signs.ensures.items_if_clones_equal (search rules) in
    rw (c.in_ok-append.ensures.items, passed, c.from.ensures, c.in_ok-later.ensures, c.in_ok-cursor.ensures.at.movie_is)
    (sym (claim_signs-parts c.args.movie.now c.args.number c.args.frame c.frames.ensures.lawful c.requires.verdict))

pub returns-clause-len : goal.returns-clause-len
returns-clause-len g c = rw (returns-clause-signs g c) (length-claim_signs c.args.movie.now)
