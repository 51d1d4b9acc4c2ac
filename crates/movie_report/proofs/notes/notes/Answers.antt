use Rattle.std.proofs.Common.{◌≡◌, ◌∙◌, ap, drop}
use Rattle.movie_report.specs.Notes.{note_texts, notes_of}
use Rattle.movie_report.proofs.NoteLemmas.{note_texts-both}
use Rattle.movie_report.proofs.notes.notes.Goals as goal
use Rattle.replay_plan.specs.declared.notation.Notation.TheVariants.{Json}

pub returns-in-Lines : goal.returns-in-Lines
returns-in-Lines c =
    let texts =
    note_texts-both c.args.notation c.args.movie.now _ c.args.start.now c.args.power_on.now _ _ _ (rw c.cart.ensures at c.board-board.ensures.value)
    c.in_ok-start.ensures c.in_ok-claim.ensures c.in_ok-texts.ensures.ok in
    rw c.in-Lines.is (rw c.in-Lines.is at texts)

pub returns : goal.returns
returns c =
    let texts =
    note_texts-both c.args.notation c.args.movie.now _ c.args.start.now c.args.power_on.now _ _ _ (rw c.cart.ensures at c.board-board.ensures.value)
    c.in_ok-start.ensures c.in_ok-claim.ensures c.in_ok-texts.ensures.ok in
    let elements : c.without_comma-elements.result.now ≡ drop 1 (note_texts Json (notes_of c.args.movie.now c.args.start.now c.args.power_on.now)) =
    c.without_comma-elements.ensures ∙ ap (drop 1) (c.deref.ensures ∙ rw c.in-Json.is at texts) in
    rw (c.in-Json.is, ← elements) c.format-in-Json.ensures.ok
