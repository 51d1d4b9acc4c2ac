use Rattle.std.proofs.Common.{◌+◌, sym, arith, inl, inr}
use Rattle.movie_file.proofs.StateLemmas.{claim_of}
use Rattle.std.proofs.lemmas.Result.{IfOk-weaker, on_err_weaker}
use Rattle.replay_segments.specs.Pieces.{job_of}
use Rattle.replay_segments.specs.Segments.{IsSegment}
use Rattle.replay_segments.proofs.SegmentLemmas.{IsStretch-found, IsNext-cut, IsSegment-cut}
use Rattle.replay_segments.proofs.SegmentLemmas.{HasKept-cut}
use Rattle.replay_segments.proofs.segment.from_cut.Goals as goal

pub overflow_sub-end : goal.overflow_sub-end
overflow_sub-end g c =
    let is = IsStretch-found _ _ _ _ _ _ c.requires.lawful c.requires.fit (sym c.in-Some.ensures) c.checkpoint-checkpoint.ensures c.requires.end in
    is.le

pub judge_frames-requires-clause-range : goal.judge_frames-requires-clause-range
judge_frames-requires-clause-range g c =
    let is = IsStretch-found _ _ _ _ _ _ c.requires.lawful c.requires.fit (sym c.in-Some.ensures) c.checkpoint-checkpoint.ensures c.requires.end in
    omega (arith, is.le, c.requires.within)

pub judge_frames-requires-clause-next : goal.judge_frames-requires-clause-next
judge_frames-requires-clause-next g c =
    let is = IsStretch-found _ _ _ _ _ _ c.requires.lawful c.requires.fit (sym c.in-Some.ensures) c.checkpoint-checkpoint.ensures c.requires.end in
    IsNext-cut c.args.movie.now c.in-Some.cut c.checkpoint-checkpoint.result.now c.requires.lawful is.at.positive is.at.checkpoint

pub returns-clause-judged : goal.returns-clause-judged
returns-clause-judged g c =
    let is = IsStretch-found _ _ _ _ _ _ c.requires.lawful c.requires.fit (sym c.in-Some.ensures) c.checkpoint-checkpoint.ensures c.requires.end in
    IfOk-weaker c.judge_frames.result _ (λ v. IsSegment c.args.movie.now c.args.cuts.now c.args.keep (c.args.i + 1) v)
    (λ v judged. IsSegment-cut c.args.movie.now c.args.cuts.now c.args.i c.in-Some.cut c.checkpoint-checkpoint.result.now is.at c.args.keep _ v is.ends judged)
    c.judge_frames.ensures.judged

pub returns-clause-refused : goal.returns-clause-refused
returns-clause-refused g c =
    let is = IsStretch-found _ _ _ _ _ _ c.requires.lawful c.requires.fit (sym c.in-Some.ensures) c.checkpoint-checkpoint.ensures c.requires.end in
    on_err_weaker c.judge_frames.result
    (λ some. elim some [ inl kept ↦ inl (HasKept-cut (job_of c.args.movie.now c.args.cuts.now c.args.keep) c.args.i c.in-Some.cut c.checkpoint-checkpoint.result.now _ is.at is.ends kept) | inr ram ↦ inr ram ])
    c.judge_frames.ensures.refused

pub judge_frames-requires-clause-cartridge : goal.judge_frames-requires-clause-cartridge
judge_frames-requires-clause-cartridge g c = claim_of c.args.movie.now c.requires.lawful _ _ c.checkpoint-checkpoint.ensures
