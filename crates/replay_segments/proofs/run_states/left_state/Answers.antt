use Rattle.replay_segments.proofs.RunStateLemmas.{IsResumable-fault}
use Rattle.replay_segments.proofs.run_states.left_state.Goals as goal

pub resume-requires : goal.resume-requires
resume-requires g c =
    let is = c.checkpoints_before-next.ensures.next in
    IsResumable-fault c.args.movie.now c.args.frame c.checkpoints_before-next.result c.args.kind c.checkpoints_before-next.ensures.lawful c.requires
    is.within (λ j d less at. is.before j d at less)
