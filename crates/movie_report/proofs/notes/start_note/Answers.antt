use Rattle.std.proofs.Common.{◌≡◌}
use Rattle.std.specs.Prelude.{false}
use Rattle.std.specs.Str.{bytes_eq}
use Rattle.movie_report.proofs.NoteLemmas.{note_texts-one}
use Rattle.movie_report.proofs.notes.start_note.Goals as goal

pub returns : goal.returns
returns c =
    let other : bytes_eq c.args.start.now c.args.power_on.now ≡ false = cc in
    rw (other, note_texts-one, ← c.difference_count-count.ensures, ← c.in_ok-text.ensures.ok, ← c.deref.ensures) c.note.ensures
