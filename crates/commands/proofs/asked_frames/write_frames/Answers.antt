use Rattle.std.proofs.Common.{◌≡◌, ◌+◌, add-zero, arith}
use Rattle.std.proofs.lemmas.Result.{err_from_is_err_and}
use Rattle.picture_file.proofs.BytesWritten.{appends_nothing}
use Rattle.commands.specs.Private.Views.{bytes_shown}
use Rattle.replay_segments.proofs.CheckpointLemmas.{none_before}
use Rattle.frame_text.proofs.StandingCheckpoints.{stand_before}
use Rattle.commands.proofs.RunFrames.{nothing_shown}
use Rattle.commands.proofs.WrittenFrames.{faults_here, one_more, part_of_one}
use Rattle.commands.proofs.asked_frames.write_frames.Goals as goal

pub loop-k-init : goal.loop-k-init
loop-k-init g c = record {
  at = rw add-zero c.frame-from.ensures.at;
  written = appends_nothing (g.W.Write.contents c.args.writer.now);
  passed = none_before _ _;
}

pub checkpoints_before-next-requires : goal.checkpoints_before-next-requires
checkpoints_before-next-requires g c = rw (c.movie-movie.ensures.value, c.frame-from.ensures.value) c.loop-k.invariant.passed

pub play-requires-clause-next : goal.play-requires-clause-next
play-requires-clause-next g c =
    rw (c.loop-k.invariant.at.movie_is, c.loop-k.invariant.at.frame_is)
    (rw (c.movie-movie.ensures.value, c.frame-from.ensures.value) at c.checkpoints_before-next.ensures.next)

pub returns-in_err-write-in-Ok-clause-err : goal.returns-in_err-write-in-Ok-clause-err
returns-in_err-write-in-Ok-clause-err g c =
    let p = err_from_is_err_and c.from_residual.result c.from_residual.ensures.1 in
    let line = rw (c.loop-k.invariant.at.movie_is, c.loop-k.invariant.at.frame_is) at c.in-Ok.ensures.shown in
    rw (p.1, p.2)
    (part_of_one (bytes_shown c.args.cursor.now.movie c.args.view) _ _ _ _ _ _
    line c.loop-k.invariant.written _ c.loop-k-test.true
    c.in_err-write-in-Ok.ensures.err)

pub returns-in-Err-Of-clause-faults : goal.returns-in-Err-Of-clause-faults
returns-in-Err-Of-clause-faults g c =
    rw (c.frame-from.ensures.value, c.in-Err-Of.field-0-is)
    (faults_here c.args.cursor.now.movie (bytes_shown c.args.cursor.now.movie c.args.view) (nothing_shown c.args.cursor.now.movie c.args.view)
    _ _ _ c.in-Err-Of.kind _ _ c.loop-k-test.true
    (rw (c.loop-k.invariant.at.movie_is, c.loop-k.invariant.at.frame_is, c.in-Err-Of.field-0-is) at c.in-Err-Of.ensures.err) c.loop-k.invariant.written).0

pub returns-in-Err-Of-clause-ok : goal.returns-in-Err-Of-clause-ok
returns-in-Err-Of-clause-ok g c =
    (faults_here c.args.cursor.now.movie (bytes_shown c.args.cursor.now.movie c.args.view) (nothing_shown c.args.cursor.now.movie c.args.view)
    _ _ _ c.in-Err-Of.kind _ _ c.loop-k-test.true
    (rw (c.loop-k.invariant.at.movie_is, c.loop-k.invariant.at.frame_is, c.in-Err-Of.field-0-is) at c.in-Err-Of.ensures.err) c.loop-k.invariant.written).1

pub returns-in-Err-NoMemory-clause-err : goal.returns-in-Err-NoMemory-clause-err
returns-in-Err-NoMemory-clause-err g c = (c.loop-k.k, omega (arith, c.loop-k-test.true), c.loop-k.invariant.written)

pub loop-k-preserved : goal.loop-k-preserved
loop-k-preserved g c =
    let here = c.args.cursor.now.frame in
    let next : here + c.loop-k.k + 1 ≡ here + (c.loop-k.k + 1) = omega arith in
    let line = rw (c.loop-k.invariant.at.movie_is, c.loop-k.invariant.at.frame_is) at c.in-Ok.ensures.shown in
    record {
      at = rw (c.loop-k.invariant.at.movie_is, c.loop-k.invariant.at.frame_is, next) at c.in-Ok.ensures.ok;
      written = one_more (bytes_shown c.args.cursor.now.movie c.args.view) here c.loop-k.k _ _ _ _
          line c.loop-k.invariant.written c.in_ok-write-in-Ok.ensures.ok;
      passed = stand_before _ _ _ _ (rw (c.movie-movie.ensures.value, c.frame-from.ensures.value) at c.checkpoints_before-next.ensures.next) (omega arith);
    }

pub returns-clause-ends : goal.returns-clause-ends
returns-clause-ends g c = λ is. let all : c.loop-k.k ≡ c.args.frames = omega arith in (c.loop-k.cursor.state, rw all at c.loop-k.invariant.at.ran)
