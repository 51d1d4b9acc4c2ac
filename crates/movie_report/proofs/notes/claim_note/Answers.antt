use Rattle.std.proofs.Common.{◌≡◌, ◌-◌, arith, length, Some, slice_get}
use Rattle.replay_segments.proofs.SegmentLemmas.{checkpoint_within}
use Rattle.movie_report.proofs.NoteLemmas.{claim_notes-none, claim_notes-some, note_texts-one}
use Rattle.movie_report.proofs.notes.claim_note.Goals as goal

pub overflow_sub-rest : goal.overflow_sub-rest
overflow_sub-rest c =
    let within = checkpoint_within c.args.movie.now _ c.checkpoint.result.now c.frames-frames.ensures.lawful c.checkpoint.ensures in
    omega (arith, within, c.frames-frames.ensures.value)

pub returns-then-rest-eq0 : goal.returns-then-rest-eq0
returns-then-rest-eq0 c =
    let within = checkpoint_within c.args.movie.now _ c.checkpoint.result.now c.frames-frames.ensures.lawful c.checkpoint.ensures in
    let last : slice_get c.args.movie.now.checkpoints (length c.args.movie.now.checkpoints - 1) ≡ Some c.checkpoint.result.now =
    rw c.checkpoints-count.ensures.value at c.checkpoint.ensures in
    rw (last, claim_notes-none (length c.args.movie.now.inputs) c.checkpoint.result.now within (omega (arith, c.frames-frames.ensures.value, c.if-rest-eq0.true)))
    c.new.ensures.bytes

pub returns : goal.returns
returns c =
    let within = checkpoint_within c.args.movie.now _ c.checkpoint.result.now c.frames-frames.ensures.lawful c.checkpoint.ensures in
    let last : slice_get c.args.movie.now.checkpoints (length c.args.movie.now.checkpoints - 1) ≡ Some c.checkpoint.result.now =
    rw c.checkpoints-count.ensures.value at c.checkpoint.ensures in
    rw (
      last,
      claim_notes-some (length c.args.movie.now.inputs) c.checkpoint.result.now within (omega (arith, c.frames-frames.ensures.value, c.if-rest-eq0.false)),
      note_texts-one,
      ← c.frames-frames.ensures.value,
      ← c.in_ok-text.ensures.ok,
      ← c.deref.ensures,
    )
    c.note-2.ensures
