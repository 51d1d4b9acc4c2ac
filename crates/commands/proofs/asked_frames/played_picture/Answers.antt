use Rattle.std.proofs.Common.{◌≡◌}
use Rattle.commands.proofs.WrittenPictures.{drawn_by}
use Rattle.commands.proofs.asked_frames.played_picture.Goals as goal

pub returns-clause-picture : goal.returns-clause-picture
returns-clause-picture c =
    let t = c.in_ok-timed.ensures.timed in
    let same : c.unwrap.result ≡ t.1 = cc (t.5) in
    rw same (drawn_by c.args.cursor.now.movie c.args.cursor.now.frame c.args.cursor.now t.0 t.1 _ _ c.in_ok-timed.ensures.at t.2 t.3)
