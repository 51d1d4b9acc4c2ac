use Rattle.std.proofs.Common.{inr}
use Rattle.replay_segments.proofs.FindLemmas.{PassedBelow-found}
use Rattle.replay_segments.proofs.GatherLemmas.{none_missing, none_refused, verdict-answer}
use Rattle.replay_segments.proofs.GatherLemmas.{missing-answer, refused-answer, memory-answer}
use Rattle.replay_segments.proofs.gathering.gather.Goals as goal

pub returns-in-Some : goal.returns-in-Some
returns-in-Some c =
    let first = rw c.as_slice-arrived.ensures.value at c.in-Some.ensures.some in
    let is = rw c.as_slice-arrived.ensures.value at c.answer_of.ensures in
    record {
      verdict = verdict-answer c.args.pieces.items c.args.n c.in-Some.number first c.answer_of.result is;
      missing = missing-answer c.args.pieces.items c.args.n c.in-Some.number first c.answer_of.result is;
      refused = refused-answer c.args.pieces.items c.args.n c.in-Some.number first c.answer_of.result is;
      memory = memory-answer c.args.pieces.items c.args.n c.in-Some.number first c.answer_of.result is;
    }

pub all_pictures-requires : goal.all_pictures-requires
all_pictures-requires c = PassedBelow-found c.args.pieces.items c.args.n (rw c.as_slice-arrived.ensures.value at c.in_default.ensures.none)

pub returns-in-Ok-clause-missing : goal.returns-in-Ok-clause-missing
returns-in-Ok-clause-missing c =
    let all = PassedBelow-found c.args.pieces.items c.args.n (rw c.as_slice-arrived.ensures.value at c.in_default.ensures.none) in
    λ k. (λ e. absurd cc, none_missing c.args.pieces.items c.args.n k all)

pub returns-in-Ok-clause-refused : goal.returns-in-Ok-clause-refused
returns-in-Ok-clause-refused c =
    let all = PassedBelow-found c.args.pieces.items c.args.n (rw c.as_slice-arrived.ensures.value at c.in_default.ensures.none) in
    λ k. none_refused c.args.pieces.items c.args.n k all

pub returns-in-Err-clause-missing : goal.returns-in-Err-clause-missing
returns-in-Err-clause-missing c =
    let all = PassedBelow-found c.args.pieces.items c.args.n (rw c.as_slice-arrived.ensures.value at c.in_default.ensures.none) in
    λ k. (λ e. absurd cc, none_missing c.args.pieces.items c.args.n k all)

pub returns-in-Err-clause-memory : goal.returns-in-Err-clause-memory
returns-in-Err-clause-memory c =
    λ e. inr (PassedBelow-found c.args.pieces.items c.args.n (rw c.as_slice-arrived.ensures.value at c.in_default.ensures.none), c.in-Err.ensures.refused)
