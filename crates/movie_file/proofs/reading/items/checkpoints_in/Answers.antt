use Rattle.std.proofs.Common.{◌≡◌, ◌∙◌, ◌+◌, ap, sym, arith}
use Rattle.std.proofs.lemmas.Result.{err_from_is_err_and}
use Rattle.std.proofs.lemmas.List.{length-drop}
use Rattle.movie_machine.specs.Carts.{board_of}
use Rattle.movie_file.specs.Format.{checkpoint_length, record_length}
use Rattle.movie_file.proofs.CheckpointReads.{reads_checkpoints}
use Rattle.movie_file.proofs.ItemLemmas.{go_on, stops, done}
use Rattle.movie_file.proofs.reading.items.checkpoints_in.Goals as goal

pub returns-in_err-checkpoint-clause-gives : goal.returns-in_err-checkpoint-clause-gives
returns-in_err-checkpoint-clause-gives c =
    let p = err_from_is_err_and c.from_residual.result c.from_residual.ensures.1 in
    rw (p.1, p.2, ← c.loop-i.invariant.so_far)
    (stops (reads_checkpoints c.args.sizes.version c.args.cart.now c.args.sizes.frames) _ c.loop-i.checkpoints.items c.args.sizes.checkpoints c.loop-i.i
    (c.loop-i.i + 1, c.loop-i.last) c.loop-i.rest.now c.loop-i-test.true c.in_err-checkpoint.ensures.gives)

pub loop-i-preserved : goal.loop-i-preserved
loop-i-preserved c =
    let step = go_on (reads_checkpoints c.args.sizes.version c.args.cart.now c.args.sizes.frames) c.loop-i.checkpoints.items c.args.sizes.checkpoints c.loop-i.i
    (c.loop-i.i + 1, c.loop-i.last) _ _ c.loop-i-test.true c.in_ok-checkpoint.ensures.gives in
    let size : c.record_length-length.result ≡ record_length c.args.sizes.version (board_of c.args.cart.now) =
    c.record_length-length.ensures.value ∙ ap (record_length c.args.sizes.version) c.board.ensures.value in
    record {
      so_far = rw (c.push_reserved.ensures.items, c.split_at.ensures.back, size) (sym step ∙ c.loop-i.invariant.so_far);
      read = omega (arith, c.push_reserved.ensures.len, c.loop-i.invariant.read);
      room = omega (arith, c.push_reserved.ensures.capacity, c.loop-i.invariant.room);
      long = omega (arith, length-drop (checkpoint_length c.args.sizes.version (board_of c.args.cart.now)) c.loop-i.rest.now);
    }

pub returns-clause-gives : goal.returns-clause-gives
returns-clause-gives c =
    let gives = done (reads_checkpoints c.args.sizes.version c.args.cart.now c.args.sizes.frames) c.loop-i.checkpoints.items c.args.sizes.checkpoints c.loop-i.i
    (c.loop-i.i + 1, c.loop-i.last) c.loop-i.rest.now c.loop-i-test.false in
    sym c.loop-i.invariant.so_far ∙ gives
