use Rattle.std.proofs.Common.{arith}
use Rattle.movie_file.proofs.StateLemmas.{claim_of}
use Rattle.replay_segments.proofs.run_states.resume.Goals as goal

pub at_claim-requires : goal.at_claim-requires
at_claim-requires g c =
    let claim = c.requires.claim c.checkpoint-claim.result.now (omega arith) c.checkpoint-claim.ensures in
    record {
      within = omega (arith, claim.0, c.requires.last);
      ran = claim.1;
      cartridge = claim_of _ c.frames.ensures.lawful _ _ c.checkpoint-claim.ensures;
    }
