use Rattle.std.proofs.Common.{◌≡◌, ◌++◌, ◌∷◌, [], None, length, replicate, rules, arith}
use Rattle.std.proofs.lemmas.List.Elements.{All-push}
use Rattle.movie_report.specs.Private.FoundSigns.{IsRow}
use Rattle.movie_report.proofs.FoundSignLemmas.{blank_row}
use Rattle.movie_report.proofs.later_signs.rows_of.Goals as goal

pub loop-preserved : goal.loop-preserved
loop-preserved c =
    let pushed : c.push.new.self.items ≡ c.loop.rows.items ++ c.in_ok-vec.field-0 ∷ [] = c.in_ok-push.ensures.items in
    let blank : c.in_ok-vec.field-0.items ≡ replicate c.args.count None = c.in_ok-vec.ensures.items_if_clones_equal (search rules) in
    let counted : length c.loop.rows.items ≡ c.loop.counter = c.loop.invariant.0 in (
      grind arith,
      λ m cuts from. rw pushed (
          All-push (λ row. IsRow m cuts from c.args.count row.items) c.loop.rows.items c.in_ok-vec.field-0
          (c.loop.invariant.1 m cuts from) (rw blank (blank_row m cuts from c.args.count))),
    )
