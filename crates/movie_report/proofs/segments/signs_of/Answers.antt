use Rattle.std.proofs.Common.{◌≡◌, replicate, append_assoc, refl, rules}
use Rattle.movie_report.proofs.SignLemmas.{AreSigns-parts, AreSigns-least}
use Rattle.movie_report.specs.declared.segments.Sign.TheVariants.{Passes}
use Rattle.movie_report.proofs.segments.signs_of.Goals as goal

pub returns-clause-signs : goal.returns-clause-signs
returns-clause-signs g c =
    let passed : c.in_ok-signs.signs.items ≡ replicate c.args.before Passes = c.in_ok-signs.ensures.items_if_clones_equal (search rules) in
    AreSigns-parts c.args.movie.now c.in_ok-cuts.cuts c.args.before c.args.sign c.in_ok-later.later.items c.append.new.self.items
    c.in_ok-cuts.ensures.fit c.in_ok-cuts.ensures.every c.requires
    (rw (c.in_ok-later.ensures.len, c.segments_in-segments.ensures) refl)
    c.in_ok-later.ensures.each
    (rw (c.in_ok-append.ensures.items, c.in_ok-push.ensures.items, passed, append_assoc) refl)

pub returns-clause-len : goal.returns-clause-len
returns-clause-len g c = AreSigns-least c.args.movie.now c.append.new.self.items (returns-clause-signs g c)
