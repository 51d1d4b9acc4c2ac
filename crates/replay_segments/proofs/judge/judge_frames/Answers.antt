use Rattle.std.proofs.Common.{◌≡◌, ◌∙◌, ℕ, ◌+◌, refl, arith, subst}
use Rattle.replay_segments.specs.NextCheckpoint.{IsNext}
use Rattle.replay_segments.specs.Private.Steps.{SoFar}
use Rattle.replay_segments.proofs.RunLemmas.{SoFar-next, IsJudged-false}
use Rattle.replay_segments.proofs.KeepLemmas.{kept_count-next, kept_count-zero}
use Rattle.replay_segments.proofs.judge.judge_frames.Goals as goal

pub returns-in-False-clause-judged : goal.returns-in-False-clause-judged
returns-in-False-clause-judged g c =
    let a = c.in-Ok-advance.ensures.advance in
    IsJudged-false c.args.movie.now c.args.keep c.args.start.now c.args.from c.loop-k.k c.loop-k.state c.advance.new.state a.0 a.1 c.loop-k.pictures.items
    c.loop-k.invariant.far a.2 c.args.len c.loop-k.next c.in-False.number c.loop-k-test.true c.in-False.ensures

pub loop-k-preserved : goal.loop-k-preserved
loop-k-preserved g c =
    let a = c.in-Ok-advance.ensures.advance in
    let claim = c.in-Holds.ensures in
    record {
      far =
          SoFar-next c.args.movie.now c.args.keep c.args.start.now c.args.from c.loop-k.k c.loop-k.state c.advance.new.state a.0 a.1
          c.loop-k.pictures.items c.loop-k.invariant.far a.2 c.advance.new.pictures.items claim.1 a.3;
      cartridge = c.advance.ensures.cartridge;
      count = let e = kept_count-next c.args.keep c.args.from c.loop-k.k in cc (c.in-Ok-advance.ensures.len);
      room = omega arith;
      next = let e : c.args.from + c.loop-k.k + 1 + 1
          ≡ c.args.from + (c.loop-k.k + 1) + 1 = omega arith
          in subst (λ (f : ℕ). IsNext c.args.movie.now c.in-Holds.after f) e claim.0;
    }

pub loop-k-init : goal.loop-k-init
loop-k-init g c = record {
  cartridge = rw c.in-Ok-copy.ensures.value c.requires.cartridge;
  far = rw (c.in-Ok-copy.ensures.value, c.in-Ok.ensures.items) (record { state_is = refl; sound = λ i less. absurd (omega arith); kept_are = refl });
  count = let none = kept_count-zero c.args.keep c.args.from in let empty = c.in-Ok.ensures.len in omega arith;
  room = let more = c.in-Ok.ensures.capacity in let room = c.count-room.ensures in omega arith;
  next = let e : c.args.from + 1 ≡ c.args.from + 0 + 1 = omega arith in subst (λ (f : ℕ). IsNext c.args.movie.now c.args.first f) e c.requires.next;
}

pub returns-clause-judged : goal.returns-clause-judged
returns-clause-judged g c =
    let all : c.loop-k.k ≡ c.args.len = omega arith in
    let far =
    subst (λ (k : ℕ). SoFar c.args.movie.now c.args.keep c.args.start.now c.args.from k c.loop-k.state c.loop-k.pictures.items) all c.loop-k.invariant.far in
    (far.sound, c.new.ensures ∙ far.kept_are)
