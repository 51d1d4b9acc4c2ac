use Rattle.std.proofs.Common.{◌-◌}
use Rattle.std.specs.NonZero.{non_zero_u32_get}
use Rattle.commands.specs.Private.Views.{bytes_shown}
use Rattle.commands.proofs.RunFrames.{nothing_shown}
use Rattle.commands.proofs.WrittenFrames.{faults_before, last_is, none_asked}
use Rattle.commands.proofs.asked_frames.write_asked.Goals as goal

pub returns-then-frames-eq0-clause-ends : goal.returns-then-frames-eq0-clause-ends
returns-then-frames-eq0-clause-ends g c = λ is.
    none_asked c.args.movie.now (non_zero_u32_get c.args.first) c.args.count _ c.frames_asked-frames.ensures.value c.if-frames-eq0.true

pub returns-in-Err-clause-faults : goal.returns-in-Err-clause-faults
returns-in-Err-clause-faults g c =
    let first = c.get.ensures.value in
    let frames = c.frames_asked-frames.ensures.value in
    let last = last_is c.args.movie.now _ c.args.count _ _ first frames c.if-frames-eq0.false in
    let faults = faults_before c.args.movie.now (bytes_shown c.args.movie.now c.args.view)
    (nothing_shown c.args.movie.now c.args.view) (c.get.result - 1) c.frames_asked-frames.result
    _ _ (g.W.Write.contents c.args.writer.now) (rw c.in-Err.is at c.in_ok-cursor.ensures.faults) in
    rw last at faults.0

pub returns-in-Err-clause-ok : goal.returns-in-Err-clause-ok
returns-in-Err-clause-ok g c =
    let first = c.get.ensures.value in
    let frames = c.frames_asked-frames.ensures.value in
    let faults = faults_before c.args.movie.now (bytes_shown c.args.movie.now c.args.view)
    (nothing_shown c.args.movie.now c.args.view) (c.get.result - 1) c.frames_asked-frames.result
    _ _ (g.W.Write.contents c.args.writer.now) (rw c.in-Err.is at c.in_ok-cursor.ensures.faults) in
    rw (first, frames) at faults.1

pub returns-clause-err : goal.returns-clause-err
returns-clause-err g c =
    let at = rw c.in-Ok.is at c.in_ok-cursor.ensures.at in
    rw (at.movie_is, at.frame_is, c.get.ensures.value, c.frames_asked-frames.ensures.value) at c.write_frames-written.ensures.err

pub returns-clause-ends : goal.returns-clause-ends
returns-clause-ends g c =
    let at = rw c.in-Ok.is at c.in_ok-cursor.ensures.at in
    let last = last_is c.args.movie.now _ c.args.count _ _ c.get.ensures.value c.frames_asked-frames.ensures.value c.if-frames-eq0.false in
    rw (at.movie_is, at.frame_is, last) at c.write_frames-written.ensures.ends

pub returns-clause-faults : goal.returns-clause-faults
returns-clause-faults g c =
    let at = rw c.in-Ok.is at c.in_ok-cursor.ensures.at in
    let last = last_is c.args.movie.now _ c.args.count _ _ c.get.ensures.value c.frames_asked-frames.ensures.value c.if-frames-eq0.false in
    rw (at.movie_is, at.frame_is, last) at c.write_frames-written.ensures.faults

pub returns-clause-ok : goal.returns-clause-ok
returns-clause-ok g c =
    let at = rw c.in-Ok.is at c.in_ok-cursor.ensures.at in
    rw (at.movie_is, at.frame_is, c.get.ensures.value, c.frames_asked-frames.ensures.value) at c.write_frames-written.ensures.ok
