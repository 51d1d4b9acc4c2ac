use Rattle.std.proofs.Common.{ℕ, ◌+◌, ◌-◌, ◌*◌, get_or, take, sym, refl, ap, ◌∙◌, arith}
use Rattle.std.specs.Char.{is_ascii_digit}
use Rattle.std.specs.Str.{all_ascii_digits}
use Rattle.std.proofs.lemmas.Bool.{and_from, and_left}
use Rattle.std.proofs.lemmas.List.{take_more}
use Rattle.std.proofs.lemmas.List.Recursion.{and_push, and_fails_at}
use Rattle.std.proofs.lemmas.List.Sums.{fold_more}
use Rattle.input_text.proofs.reading.count_in.Goals as goal

pub returns-then-not-is_ascii_digit-clause-readable : goal.returns-then-not-is_ascii_digit-clause-readable
returns-then-not-is_ascii_digit-clause-readable c =
    sym (and_left _ _ (and_fails_at all_ascii_digits is_ascii_digit refl (λ _ _. refl) c.args.word.now c.loop-byte.byte-index 0
    c.loop-byte-test.true (sym c.is_ascii_digit.ensures.value ∙ c.if-not-is_ascii_digit.true)))

pub loop-byte-preserved : goal.loop-byte-preserved
loop-byte-preserved c =
    let word = c.args.word.now in
    let place : ℕ = c.loop-byte.byte-index in
    let number = fold_more (λ number digit. 10 * number + (digit - 48)) 0 word place 0 c.loop-byte-test.true in
    record {
      digits = ap all_ascii_digits (take_more word place 0 c.loop-byte-test.true)
          ∙ and_push all_ascii_digits is_ascii_digit refl (λ _ _. refl) (take place word) (get_or word place 0)
          ∙ and_from _ _ c.loop-byte.invariant.digits (sym c.is_ascii_digit.ensures.value ∙ c.if-not-is_ascii_digit.false);
      value = omega (arith, number, c.min-count.ensures, c.loop-byte.invariant.value);
    }
