use Rattle.std.proofs.Common.{◌≡◌, ◌≢◌, ◌∙◌, sym, arith, ◌+◌, ◌++◌, List, length, ap, subst}
use Rattle.std.proofs.Common.{vec_len}
use Rattle.vcs_machine.specs.Pictures.{Rows}
use Rattle.replay_segments.proofs.OneUnbrokenRun.{IsPrefix, IsPrefix-next, IsVerdict-genuine}
use Rattle.replay_segments.proofs.joining.all_pictures.Goals as goal

pub take_passed-requires : goal.take_passed-requires
take_passed-requires c = grind arith

pub loop-number-preserved : goal.loop-number-preserved
loop-number-preserved c =
    let taken = c.take_passed.ensures in
    record {
      names = λ job names. taken.names job (c.loop-number.invariant.names job names);
      left = λ k low high.
          let other : k ≢ c.loop-number.number = omega arith in
          taken.others k other (c.loop-number.invariant.left k (omega arith) high);
      prefix = λ job names whole.
          let of = taken.of job (c.loop-number.invariant.names job names) in
          let begun = c.loop-number.invariant.prefix job names whole in
          let next = IsPrefix-next job of.0 c.loop-number.number of.1 c.loop-number.all.items begun c.take_passed.result of.2 in
          let items : c.append.new.self.items ≡ c.loop-number.all.items ++ c.take_passed.result =
          c.in-Ok-append.ensures.items ∙ ap (λ (xs : List Rows). c.loop-number.all.items ++ xs) c.into_vec-part.ensures in
          subst (λ (xs : List Rows). IsPrefix job (c.loop-number.number + 1) xs) (sym items) next;
      room =
          let part : vec_len c.into_vec-part.result ≡ length c.take_passed.result = c.into_vec-part.result.ok.0 ∙ ap length c.into_vec-part.ensures in
          let rest = taken.rest in
          let len = c.in-Ok-append.ensures.len in
          let grown = c.in-Ok-append.ensures.capacity in
          omega (arith, part, rest, len, grown);
    }

pub returns-clause-pictures : goal.returns-clause-pictures
returns-clause-pictures c = λ job names whole.
    let same : c.loop-number.number ≡ c.args.n = omega arith in
    let begun = c.loop-number.invariant.prefix job names whole in
    rw (← c.new.ensures) at (IsVerdict-genuine job c.loop-number.number c.loop-number.all.items (same ∙ whole) begun)
