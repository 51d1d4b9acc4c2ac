use Rattle.std.proofs.Common.{◌≡◌, ℕ, ◌%◌, ◌^◌, ◌*◌, ◌<◌, ◌==◌, ◌&&◌, ◌||◌, Bool, true, false, bit_or, ap, ◌∙◌, arith}
use Rattle.std.proofs.lemmas.Bool.Decides.{nat_tests}
use Rattle.std.proofs.lemmas.Nat.{one_shl}
use Rattle.std.proofs.lemmas.Nat.Bits.{bit_at-pow_other, bit_at-pow_same}
use Rattle.tia_core.proofs.MaskWordLemmas.{bit_or-is}
use Rattle.tia_chip.specs.Bits.{has_bit}
use Rattle.tia_chip.proofs.bits.with_pixel.Goals as goal

bit-pow : (i k : ℕ) → has_bit (2 ^ i) k ≡ (k == i)
bit-pow i k = grind (arith, nat_tests, bit_at-pow_same i, bit_at-pow_other i k)

bit-set : (word i k : ℕ) → i < 64 → has_bit (bit_or word (1 * 2 ^ i % 18446744073709551616)) k ≡ (has_bit word k || (true && (k == i)))
bit-set word i k h = ap (λ (n : ℕ). has_bit (bit_or word n) k) (one_shl i 64 h) ∙ bit_or-is word (2 ^ i) k ∙ ap (λ (b : Bool). has_bit word k || b) (bit-pow i k)

bit-kept : (word i k : ℕ) → has_bit word k ≡ (has_bit word k || (false && (k == i)))
bit-kept word i k = grind arith

pub returns-then-is_lit : goal.returns-then-is_lit
returns-then-is_lit c = λ k. rw c.if-is_lit.true (bit-set c.args.word c.args.index k c.requires)

pub returns-else-is_lit : goal.returns-else-is_lit
returns-else-is_lit c = λ k. rw c.if-is_lit.false (bit-kept c.args.word c.args.index k)
