-- Many steps of quiet objects, and of objects without a copy: what they make of them, and which light them.
use Rattle.std.proofs.Common.{◌≡◌, ◌∙◌, ℕ, zero, suc, ◌-◌, ◌%◌, ◌<◌, ◌≤◌, ◌&&◌, inl, inr, Bool, false, arith, ap, sym, None}
use Rattle.std.proofs.lemmas.Bool.{and_right, cases_lt}
use Rattle.std.proofs.lemmas.Bool.Decides.{nat_tests}
use Rattle.std.specs.Fn.{iterate}
use Rattle.std.specs.Prelude.{nat_lt}
use Rattle.tia_core.proofs.MaskWordLemmas.{bit-zero}
use Rattle.tia_chip.proofs.QuietBall.{ball-steps}
use Rattle.tia_chip.proofs.QuietMissiles.{missile-steps}
use Rattle.tia_chip.proofs.QuietPixels.{ball-still, keeps-still}
use Rattle.tia_chip.proofs.Strides.{NoneBegins, ball-stride, missile-stride, player-stride}
use Rattle.tia_chip.specs.Ball.{ball_after_step, is_ball_lit}
use Rattle.tia_chip.specs.Bits.{has_bit}
use Rattle.tia_chip.specs.Missile.{is_missile_lit, missile_after_step}
use Rattle.tia_chip.specs.Player.{player_after_step}
use Rattle.tia_chip.specs.Quiet.{IsQuietBall, IsQuietMissile}
use Rattle.tia_chip.specs.Quiet.{counter_after, player_copy_at, player_mask, quiet_ball_after}
use Rattle.tia_chip.specs.Quiet.{quiet_missile_after, quiet_player_after}
use Rattle.tia_chip.specs.declared.ball.Ball.{Ball}
use Rattle.tia_chip.specs.declared.missile.Missile.{Missile}
use Rattle.tia_chip.specs.declared.player.Player.{Player}

-- no step of n lights an object, whose word is 0
pub none-lit : (n k : ℕ) (lit : Bool) → lit ≡ false → has_bit 0 k ≡ (nat_lt k n && lit)
none-lit n k lit e = bit-zero k ∙ sym (and_right (nat_lt k n) lit e)

past-all : (n k : ℕ) (lit : Bool) → n ≤ k → has_bit 0 k ≡ (nat_lt k n && lit)
past-all n k lit l = bit-zero k ∙ grind (arith, nat_tests)

-- the word of n steps has the last of them
pub last-lit : (n : ℕ) (word : ℕ) (lit : ℕ → Bool) → 1 ≤ n → has_bit word (n - 1) ≡ (nat_lt (n - 1) n && lit (n - 1)) → has_bit word (n - 1) ≡ lit (n - 1)
last-lit n word lit s e = grind (arith, nat_tests)

-- ---- players
pub player-seen : (n : ℕ) (p : Player) (seen : Bool) → 1 ≤ n → seen ≡ player_mask p (counter_after (n - 1) p.counter)
    → record p { counter = counter_after n p.counter; copy = player_copy_at p (counter_after n p.counter); seen = seen } ≡ quiet_player_after n p
player-seen zero p seen s e = absurd (omega arith)
player-seen (suc n) p seen s e =
    let less : suc n - 1 ≡ n = omega arith in
    ap (λ (b : Bool). record p { counter = counter_after (suc n) p.counter; copy = player_copy_at p (counter_after (suc n) p.counter); seen = b })
    (e ∙ ap (λ (m : ℕ). player_mask p (counter_after m p.counter)) less)

pub player-bare : (n k : ℕ) (p : Player) → p.copy ≡ None → p.counter < 160 → NoneBegins (p.nusiz % 8) p.counter n
    → has_bit 0 k ≡ (nat_lt k n && (iterate player_after_step (suc k) p).seen)
player-bare n k p e c h = elim (cases_lt k n) [
  | inl l ↦ none-lit n k ((iterate player_after_step (suc k) p).seen) (ap (λ (x : Player). x.seen) (player-stride k p e c (λ j i. h j (omega arith))))
  | inr l ↦ past-all n k ((iterate player_after_step (suc k) p).seen) l
]

-- ---- missiles
pub missile-quiet_steps : (n nusiz clock : ℕ) (m : Missile) → IsQuietMissile nusiz m → m.moves ≡ false → iterate (missile_after_step nusiz clock) n m ≡ quiet_missile_after nusiz n m
missile-quiet_steps n nusiz clock m q s = missile-steps nusiz clock m n q (keeps-still clock m s)

pub missile-bare : (n k nusiz clock : ℕ) (m : Missile) → m.copy ≡ None → m.counter < 160 → NoneBegins (nusiz % 8) m.counter n
    → has_bit 0 k ≡ (nat_lt k n && is_missile_lit (iterate (missile_after_step nusiz clock) (suc k) m))
missile-bare n k nusiz clock m e c h = elim (cases_lt k n) [
  | inl l ↦ none-lit n k (is_missile_lit (iterate (missile_after_step nusiz clock) (suc k) m)) (ap (λ (x : Missile). is_missile_lit x) (missile-stride k nusiz clock m e c (λ j i. h j (omega arith))))
  | inr l ↦ past-all n k (is_missile_lit (iterate (missile_after_step nusiz clock) (suc k) m)) l
]

-- ---- the ball
pub ball-quiet_steps : (n ctrlpf : ℕ) (b : Ball) → IsQuietBall ctrlpf b → b.moves ≡ false → iterate (ball_after_step ctrlpf false) n b ≡ quiet_ball_after ctrlpf n b
ball-quiet_steps n ctrlpf b q s = ball-steps ctrlpf false b n q (ball-still b s)

pub ball-bare : (n k ctrlpf : ℕ) (b : Ball) → b.place ≡ None → b.counter < 160 → NoneBegins 0 b.counter n
    → has_bit 0 k ≡ (nat_lt k n && is_ball_lit (iterate (ball_after_step ctrlpf false) (suc k) b))
ball-bare n k ctrlpf b e c h = elim (cases_lt k n) [
  | inl l ↦ none-lit n k (is_ball_lit (iterate (ball_after_step ctrlpf false) (suc k) b)) (ap (λ (x : Ball). is_ball_lit x) (ball-stride k ctrlpf b e c (λ j i. h j (omega arith))))
  | inr l ↦ past-all n k (is_ball_lit (iterate (ball_after_step ctrlpf false) (suc k) b)) l
]
