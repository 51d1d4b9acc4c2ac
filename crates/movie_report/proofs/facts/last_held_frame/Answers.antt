use Rattle.std.proofs.Common.{◌≡◌, ◌+◌, Bool, true, false, drop, subst}
use Rattle.std.specs.Prelude.{if◌then◌else◌}
use Rattle.input_text.specs.Names.{is_idle}
use Rattle.movie_report.specs.Facts.{last_held}
use Rattle.movie_report.proofs.ListLemmas.{drop_at}
use Rattle.movie_report.proofs.facts.last_held_frame.Goals.{then-not-is_idle, else-not-is_idle}
use Rattle.movie_report.proofs.facts.last_held_frame.Goals as goal

pub loop-before-preserved : goal.loop-before-preserved
loop-before-preserved c =
    let inputs = c.args.movie.now.inputs in
    let next = c.loop-before.before + 1 in
    let rest = λ (idle : Bool). last_held (if idle then c.loop-before.last else next) next (drop next inputs) ≡ last_held 0 0 inputs in
    let left : rest (is_idle c.input.result) = rw (drop_at _ _ _ c.input.ensures) at c.loop-before.invariant in
    elim c.if-not-is_idle.branch [
      | then-not-is_idle w ↦ let held : is_idle c.input.result ≡ false = cc in rw w.last-is (subst rest held left)
      | else-not-is_idle w ↦ let held : is_idle c.input.result ≡ true = cc in rw w.last-is (subst rest held left)
    ]
