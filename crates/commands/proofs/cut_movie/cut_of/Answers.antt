use Rattle.std.proofs.Common.{◌≡◌, ◌∙◌, ◌-◌, Some}
use Rattle.std.specs.Prelude.{IsTrue}
use Rattle.movie_file.specs.Making.{counts_fit}
use Rattle.movie_file.specs.Run.{run}
use Rattle.commands.proofs.CutParts.{IsCutOf-parts, IsMovie-cut}
use Rattle.commands.proofs.cut_movie.cut_of.Goals as goal

pub movie_of-requires : goal.movie_of-requires
movie_of-requires g c =
    let m = c.args.movie.now in
    let at = rw c.in-Ok.is at c.in_ok-cursor.ensures.at in
    let claims = rw c.in-Ok-2.is at c.in_ok-checkpoints.ensures.claims in
    let same = c.in_ok-cart.ensures ∙ c.cart.ensures in
    let state = c.in_ok-start.ensures.lawful m.cartridge (rw c.state.ensures.value at.cartridge) in
    let fits : IsTrue (counts_fit c.frames_asked-frames.result c.args.every) = rw c.frames_asked-frames.ensures.value c.requires in
    let ran : run m m.start 0 (c.get-from.result - 1) ≡ Some c.in_ok-start.start = rw (c.in_ok-start.ensures.value, c.state.ensures.value) at.ran in
    IsMovie-cut m _ c.args.count c.get-from.ensures.value c.frames_asked-frames.ensures.value c.inputs.ensures c.in_ok-inputs.ensures.items
    same c.version_made-version.ensures.value ran (rw (at.movie_is, at.frame_is) at claims)
    c.frames_asked-frames.ensures.lawful fits (rw (c.in_ok-start.ensures.value, same) state)

pub returns-clause-cut : goal.returns-clause-cut
returns-clause-cut g c =
    let m = c.args.movie.now in
    let at = rw c.in-Ok.is at c.in_ok-cursor.ensures.at in
    let claims = rw c.in-Ok-2.is at c.in_ok-checkpoints.ensures.claims in
    let ends = rw c.in-Ok-2.is at c.in_ok-checkpoints.ensures.ends in
    let ran : run m m.start 0 (c.get-from.result - 1) ≡ Some c.in_ok-start.start = rw (c.in_ok-start.ensures.value, c.state.ensures.value) at.ran in
    rw c.movie_of.ensures
    (IsCutOf-parts m _ c.args.count c.get-from.ensures.value c.frames_asked-frames.ensures.value c.inputs.ensures c.in_ok-inputs.ensures.items
    (c.in_ok-cart.ensures ∙ c.cart.ensures) c.version_made-version.ensures.value ran (rw (at.movie_is, at.frame_is) at claims)
    (rw (at.movie_is, at.frame_is) at ends))

pub returns-in-Err-2-clause-faults : goal.returns-in-Err-2-clause-faults
returns-in-Err-2-clause-faults g c =
    let at = rw c.in-Ok.is at c.in_ok-cursor.ensures.at in
    rw (at.movie_is, at.frame_is, c.get-from.ensures.value, c.frames_asked-frames.ensures.value)
    at (rw c.in-Err-2.is at c.in_ok-checkpoints.ensures.faults)
