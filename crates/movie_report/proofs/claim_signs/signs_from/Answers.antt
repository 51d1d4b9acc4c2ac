use Rattle.std.proofs.Common.{◌≡◌, ◌+◌, ◌-◌, Some, slice_get, arith, append_assoc}
use Rattle.movie_file.proofs.StateLemmas.{claim_of}
use Rattle.replay_segments.proofs.CheckpointLemmas.{frame_in_range}
use Rattle.movie_report.specs.ClaimSigns.{claim_sign}
use Rattle.movie_report.proofs.ClaimSignLemmas.{stands_at, stands_next}
use Rattle.movie_report.proofs.ListLemmas.{drop_at}
use Rattle.movie_report.proofs.claim_signs.signs_from.Goals as goal

pub sign_at-requires : goal.sign_at-requires
sign_at-requires g c =
    let m = c.movie-movie.result.now in
    let claim = c.checkpoint-claim.result.now in
    let movie = c.checkpoints-index-end.ensures.lawful in
    let stands = stands_at m c.loop-index.index claim _ c.loop-index.invariant.at c.checkpoint-claim.ensures in
    record {
      later = rw stands.2.frame_is stands.1;
      within = rw stands.2.movie_is (frame_in_range m movie (c.loop-index.index + 1 - 1) claim c.checkpoint-claim.ensures).1;
      cartridge = rw stands.2.movie_is (claim_of m movie (c.loop-index.index + 1 - 1) claim c.checkpoint-claim.ensures);
    }

pub loop-index-preserved : goal.loop-index-preserved
loop-index-preserved g c =
    let m = c.movie-movie.result.now in
    let claim = c.checkpoint-claim.result.now in
    let same : c.loop-index.index + 1 - 1 ≡ c.loop-index.index = omega arith in
    let here : slice_get m.checkpoints c.loop-index.index ≡ Some claim = rw same at c.checkpoint-claim.ensures in
    let stands = stands_at m c.loop-index.index claim _ c.loop-index.invariant.at c.checkpoint-claim.ensures in
    let sign : c.in_ok-sign.sign ≡ claim_sign m claim = rw stands.2.movie_is at c.in_ok-sign.ensures.sign in
    let left = rw (drop_at m.checkpoints c.loop-index.index claim c.checkpoint-claim.ensures) at c.loop-index.invariant.signs in
    record {
      at = stands_next m c.loop-index.index claim _ c.checkpoints-index-end.ensures.lawful here (rw stands.2.movie_is at c.in_ok-sign.ensures.at);
      signs = rw (c.in_ok-push.ensures.items, sign, append_assoc) left;
    }
