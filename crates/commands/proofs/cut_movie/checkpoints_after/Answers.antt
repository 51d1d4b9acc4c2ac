use Rattle.std.proofs.Common.{◌≡◌, ◌+◌, ◌/◌, add-zero, arith}
use Rattle.std.specs.Prelude.{vec_len}
use Rattle.movie_file.proofs.MakingRuns.{Claims-next, Claims-none, has_room}
use Rattle.commands.proofs.cut_movie.checkpoints_after.Goals as goal

pub loop-k-init : goal.loop-k-init
loop-k-init g c = record {
  made = rw c.requires.empty (Claims-none _ _ _);
  at = rw add-zero c.frame-from.ensures.at;
  room = c.requires.room;
}

pub claim-requires-clause-room : goal.claim-requires-clause-room
claim-requires-clause-room g c = λ h.
    let count : vec_len c.loop-k.checkpoints ≡ c.loop-k.k / c.args.every = omega (arith, c.loop-k.invariant.made.count, c.loop-k.checkpoints.ok.0) in
    has_room _ _ _ _ _ c.requires.every count c.loop-k-test.true c.loop-k.invariant.room h

pub loop-k-preserved : goal.loop-k-preserved
loop-k-preserved g c =
    let here = c.args.cursor.now.frame in
    let next : here + c.loop-k.k + 1 ≡ here + (c.loop-k.k + 1) = omega arith in
    let at = rw (c.loop-k.invariant.at.movie_is, c.loop-k.invariant.at.frame_is, next) at c.in-Ok.ensures.ok in
    let can = rw c.state.ensures.value at c.in_ok-claim.ensures.lawful in
    record {
      made = Claims-next _ _ _ _ _ _ _ c.requires.every c.loop-k.invariant.made at.ran (rw c.state.ensures.value at c.in_ok-claim.ensures.items)
          (λ h. can h c.args.cursor.now.movie.cartridge at.cartridge);
      at = at;
      room = rw c.claim.ensures.capacity c.loop-k.invariant.room;
    }

pub returns-clause-ends : goal.returns-clause-ends
returns-clause-ends g c = let all : c.loop-k.k ≡ c.args.frames = omega arith in (c.loop-k.cursor.state, rw all at c.loop-k.invariant.at.ran)
