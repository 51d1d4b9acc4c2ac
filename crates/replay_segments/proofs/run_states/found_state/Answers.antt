use Rattle.replay_segments.proofs.RunStateLemmas.{IsResumable-false}
use Rattle.replay_segments.proofs.run_states.found_state.Goals as goal

pub resume-requires : goal.resume-requires
resume-requires g c = IsResumable-false c.args.movie.now c.args.number c.args.frame c.frames.ensures.lawful c.requires
