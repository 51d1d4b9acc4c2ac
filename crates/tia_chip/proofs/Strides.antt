-- Steps of an object without a copy, up to one with which a copy may begin; and which of its steps light it.
use Rattle.std.proofs.Common.{◌≡◌, ◌∙◌, ℕ, zero, suc, ◌+◌, ◌-◌, ◌%◌, ◌<◌, ◌≤◌, ◌==◌, ◌&&◌, ◌||◌, inl, inr, not, Bool, false, arith, refl, ap, sym, Option, Some, None}
use Rattle.std.proofs.lemmas.Bool.{and_left, and_right, cases_lt, cond-false}
use Rattle.std.proofs.lemmas.Bool.Decides.{nat_tests}
use Rattle.std.specs.Fn.{iterate}
use Rattle.std.specs.Prelude.{nat_lt, is_some}
use Rattle.tia_chip.proofs.ClocksLemmas.{iterate-add}
use Rattle.tia_chip.proofs.QuietAges.{alike-three, counter-later, counter-next}
use Rattle.tia_chip.specs.Ball.{ball_after_step, ending_size, is_ball_drawn, is_ball_lit, stepped_place}
use Rattle.tia_chip.specs.Bits.{has_bit}
use Rattle.tia_chip.specs.Counter.{begins_copy, next_counter}
use Rattle.tia_chip.specs.Missile.{begins_missile, copy_before_step, is_locked, is_missile_drawn, is_missile_lit, missile_after_step, size_of, stepped_missile_copy}
use Rattle.tia_chip.specs.Player.{begins_player, copy_after_step, counts_for_change, is_drawn_next, player_after_step, shows_one, stepped_copy}
use Rattle.tia_chip.specs.Quiet.{counter_after}
use Rattle.tia_chip.specs.declared.ball.Ball.{Ball}
use Rattle.tia_chip.specs.declared.missile.Missile.{Missile}
use Rattle.tia_chip.specs.declared.missile.MissileCopy.{MissileCopy}
use Rattle.tia_chip.specs.declared.player.Player.{Player}
use Rattle.tia_chip.specs.declared.player.PlayerCopy.{PlayerCopy}

-- no copy begins with one of the next n steps
abbrev pub NoneBegins : ℕ → ℕ → ℕ → Type 0
NoneBegins mode counter n = (k : ℕ) → k < n → begins_copy mode (counter_after k counter) ≡ false

pub now-none : (mode counter n : ℕ) → counter < 160 → NoneBegins mode counter (suc n) → begins_copy mode counter ≡ false
now-none mode counter n l h =
    let e : counter_after 0 counter ≡ counter = omega arith in
    ap (begins_copy mode) (sym e) ∙ h 0 (omega arith)

pub later-none : (mode counter n : ℕ) → NoneBegins mode counter (suc n) → NoneBegins mode (counter_after 1 counter) n
later-none mode counter n h k l = ap (begins_copy mode) (counter-later k counter) ∙ h (suc k) (omega arith)

pub none-of : {A : Type 0} (o : Option A) → is_some o ≡ false → o ≡ None
none-of None e = refl
none-of (Some x) e = cc

-- ---- players
abbrev player-at : Player → ℕ → Player
player-at p counter = record p { counter = counter; seen = false }

player-skips : (p : Player) → p.copy ≡ None → p.counter < 160 → begins_copy (p.nusiz % 8) p.counter ≡ false
    → player_after_step p ≡ player-at p (counter_after 1 p.counter)
player-skips p e l b =
    let waits : counts_for_change p ≡ false = and_right (not (begins_player p)) (is_drawn_next p.width p.copy) (ap (λ (o : Option PlayerCopy). is_drawn_next p.width o) e) in
    let none : copy_after_step p ≡ p.copy = cond-false (begins_player p) _ _ b ∙ (ap (λ (o : Option PlayerCopy). stepped_copy p.width o) e ∙ sym e) in
    cond-false (counts_for_change p) _ _ waits
    ∙ alike-three (λ (counter : ℕ) (copy : Option PlayerCopy) (seen : Bool). record p { counter = counter; copy = copy; seen = seen })
    (next_counter p.counter) (counter_after 1 p.counter) (copy_after_step p) p.copy (shows_one p p.copy) false
    (counter-next p.counter l) none (ap (λ (o : Option PlayerCopy). shows_one p o) e)

pub player-stride : (n : ℕ) (p : Player) → p.copy ≡ None → p.counter < 160 → NoneBegins (p.nusiz % 8) p.counter (suc n)
    → iterate player_after_step (suc n) p ≡ player-at p (counter_after (suc n) p.counter)
player-stride zero p e l h = player-skips p e l (now-none (p.nusiz % 8) p.counter 0 l h)
player-stride (suc n) p e l h =
    ap (λ (q : Player). iterate player_after_step (suc n) q) (player-skips p e l (now-none (p.nusiz % 8) p.counter (suc n) l h))
    ∙ (player-stride n (player-at p (counter_after 1 p.counter)) e (omega arith) (later-none (p.nusiz % 8) p.counter (suc n) h)
    ∙ ap (player-at p) (counter-later (suc n) p.counter))

pub player-passes : (n : ℕ) (p : Player) → is_some p.copy ≡ false → 1 ≤ n → p.counter < 160 → NoneBegins (p.nusiz % 8) p.counter n
    → iterate player_after_step n p ≡ player-at p (counter_after n p.counter)
player-passes zero p e s l h = absurd (omega arith)
player-passes (suc n) p e s l h = player-stride n p (none-of p.copy e) l h

pub player-unlit : (n k : ℕ) (p : Player) → is_some p.copy ≡ false → p.counter < 160 → NoneBegins (p.nusiz % 8) p.counter n → suc k < n
    → (iterate player_after_step (suc k) p).seen ≡ false
player-unlit n k p e l h s = ap (λ (x : Player). x.seen) (player-stride k p (none-of p.copy e) l (λ j i. h j (omega arith)))

-- ---- missiles
abbrev missile-at : Missile → ℕ → Missile
missile-at m counter = record m { counter = counter; seen = false }

missile-skips : (nusiz clock : ℕ) (m : Missile) → m.copy ≡ None → m.counter < 160 → begins_copy (nusiz % 8) m.counter ≡ false
    → missile_after_step nusiz clock m ≡ missile-at m (counter_after 1 m.counter)
missile-skips nusiz clock m e l b =
    let found : copy_before_step (size_of nusiz) clock m.moves m.copy ≡ None = ap (λ (o : Option MissileCopy). copy_before_step (size_of nusiz) clock m.moves o) e in
    let locked : begins_missile nusiz m ≡ false = and_left (begins_copy (nusiz % 8) m.counter) (not (is_locked m)) b in
    alike-three (λ (counter : ℕ) (copy : Option MissileCopy) (seen : Bool). record m { counter = counter; copy = copy; seen = seen })
    (next_counter m.counter) (counter_after 1 m.counter) (missile_after_step nusiz clock m).copy m.copy (missile_after_step nusiz clock m).seen false
    (counter-next m.counter l)
    (cond-false (begins_missile nusiz m) _ _ locked ∙ (ap (λ (o : Option MissileCopy). stepped_missile_copy (size_of nusiz) m.moves o) found ∙ sym e))
    (ap (λ (o : Option MissileCopy). is_missile_drawn o) found)

pub missile-stride : (n nusiz clock : ℕ) (m : Missile) → m.copy ≡ None → m.counter < 160 → NoneBegins (nusiz % 8) m.counter (suc n)
    → iterate (missile_after_step nusiz clock) (suc n) m ≡ missile-at m (counter_after (suc n) m.counter)
missile-stride zero nusiz clock m e l h = missile-skips nusiz clock m e l (now-none (nusiz % 8) m.counter 0 l h)
missile-stride (suc n) nusiz clock m e l h =
    ap (λ (q : Missile). iterate (missile_after_step nusiz clock) (suc n) q) (missile-skips nusiz clock m e l (now-none (nusiz % 8) m.counter (suc n) l h))
    ∙ (missile-stride n nusiz clock (missile-at m (counter_after 1 m.counter)) e (omega arith) (later-none (nusiz % 8) m.counter (suc n) h)
    ∙ ap (missile-at m) (counter-later (suc n) m.counter))

pub missile-passes : (n nusiz clock : ℕ) (m : Missile) → is_some m.copy ≡ false → 1 ≤ n → m.counter < 160 → NoneBegins (nusiz % 8) m.counter n
    → iterate (missile_after_step nusiz clock) n m ≡ missile-at m (counter_after n m.counter)
missile-passes zero nusiz clock m e s l h = absurd (omega arith)
missile-passes (suc n) nusiz clock m e s l h = missile-stride n nusiz clock m (none-of m.copy e) l h

pub missile-unlit : (n nusiz clock k : ℕ) (m : Missile) → is_some m.copy ≡ false → m.counter < 160 → NoneBegins (nusiz % 8) m.counter n → suc k < n
    → is_missile_lit (iterate (missile_after_step nusiz clock) (suc k) m) ≡ false
missile-unlit n nusiz clock k m e l h s = ap (λ (x : Missile). is_missile_lit (x)) (missile-stride k nusiz clock m (none-of m.copy e) l (λ j i. h j (omega arith)))

-- ---- the ball
abbrev ball-at : Ball → ℕ → Ball
ball-at b counter = record b { counter = counter; seen = false }

ball-skips : (ctrlpf : ℕ) (b : Ball) → b.place ≡ None → b.counter < 160 → begins_copy 0 b.counter ≡ false
    → ball_after_step ctrlpf false b ≡ ball-at b (counter_after 1 b.counter)
ball-skips ctrlpf b e l n =
    cond-false (begins_copy 0 b.counter) _ _ n
    ∙ alike-three (λ (counter : ℕ) (place : Option ℕ) (seen : Bool). record b { counter = counter; place = place; seen = seen })
    (next_counter b.counter) (counter_after 1 b.counter) (stepped_place (ending_size ctrlpf false b) b.place) b.place (is_ball_drawn b.place) false
    (counter-next b.counter l) (ap (λ (o : Option ℕ). stepped_place (ending_size ctrlpf false b) o) e ∙ sym e) (ap (λ (o : Option ℕ). is_ball_drawn o) e)

pub ball-stride : (n ctrlpf : ℕ) (b : Ball) → b.place ≡ None → b.counter < 160 → NoneBegins 0 b.counter (suc n)
    → iterate (ball_after_step ctrlpf false) (suc n) b ≡ ball-at b (counter_after (suc n) b.counter)
ball-stride zero ctrlpf b e l h = ball-skips ctrlpf b e l (now-none 0 b.counter 0 l h)
ball-stride (suc n) ctrlpf b e l h =
    ap (λ (q : Ball). iterate (ball_after_step ctrlpf false) (suc n) q) (ball-skips ctrlpf b e l (now-none 0 b.counter (suc n) l h))
    ∙ (ball-stride n ctrlpf (ball-at b (counter_after 1 b.counter)) e (omega arith) (later-none 0 b.counter (suc n) h)
    ∙ ap (ball-at b) (counter-later (suc n) b.counter))

pub ball-passes : (n ctrlpf : ℕ) (b : Ball) → is_some b.place ≡ false → 1 ≤ n → b.counter < 160 → NoneBegins 0 b.counter n
    → iterate (ball_after_step ctrlpf false) n b ≡ ball-at b (counter_after n b.counter)
ball-passes zero ctrlpf b e s l h = absurd (omega arith)
ball-passes (suc n) ctrlpf b e s l h = ball-stride n ctrlpf b (none-of b.place e) l h

pub ball-unlit : (n ctrlpf k : ℕ) (b : Ball) → is_some b.place ≡ false → b.counter < 160 → NoneBegins 0 b.counter n → suc k < n
    → is_ball_lit (iterate (ball_after_step ctrlpf false) (suc k) b) ≡ false
ball-unlit n ctrlpf k b e l h s = ap (λ (x : Ball). is_ball_lit (x)) (ball-stride k ctrlpf b (none-of b.place e) l (λ j i. h j (omega arith)))

-- ---- which steps light an object, by a word
module _ {A : Type 0} (step : A → A) (lit : A → Bool) where
  abbrev pub Shows : ℕ → ℕ → A → Type 0
  Shows word n a = (k : ℕ) → has_bit word k ≡ (nat_lt k n && lit (iterate step (suc k) a))

  -- of r steps none but the last lights it
  abbrev pub IsUnlit : ℕ → A → Type 0
  IsUnlit r a = (k : ℕ) → suc k < r → lit (iterate step (suc k) a) ≡ false

  before : (a : A) (word n r k : ℕ) (last : Bool) → k < n → 1 ≤ r → Shows word n a
      → (has_bit word k || (last && (k == n + r - 1))) ≡ (nat_lt k (n + r) && lit (iterate step (suc k) a))
  before a word n r k last l s h = grind (arith, nat_tests, h k)

  later : (a : A) (word n r k : ℕ) (last : Bool) → n ≤ k → k < n + r - 1 → Shows word n a → lit (iterate step (suc k) a) ≡ false
      → (has_bit word k || (last && (k == n + r - 1))) ≡ (nat_lt k (n + r) && lit (iterate step (suc k) a))
  later a word n r k last l s h e = grind (arith, nat_tests, h k)

  at-last : (a : A) (word n r k : ℕ) (last : Bool) → n ≤ k → k ≡ n + r - 1 → 1 ≤ r → Shows word n a → lit (iterate step (suc k) a) ≡ last
      → (has_bit word k || (last && (k == n + r - 1))) ≡ (nat_lt k (n + r) && lit (iterate step (suc k) a))
  at-last a word n r k last l s m h e = grind (arith, nat_tests, h k)

  beyond : (a : A) (word n r k : ℕ) (last : Bool) → n + r ≤ k → 1 ≤ r → Shows word n a
      → (has_bit word k || (last && (k == n + r - 1))) ≡ (nat_lt k (n + r) && lit (iterate step (suc k) a))
  beyond a word n r k last l s h = grind (arith, nat_tests, h k)

  on-from : (a now : A) (n r k : ℕ) → now ≡ iterate step n a → n ≤ k → iterate step (suc (k - n)) now ≡ iterate step (suc k) a
  on-from a now n r k e l =
      let s : n + suc (k - n) ≡ suc k = omega arith in
      ap (iterate step (suc (k - n))) e ∙ (sym (iterate-add step n (suc (k - n)) a) ∙ ap (λ (m : ℕ). iterate step m a) s)

  pub shows-on : (a now after : A) (word n r : ℕ) (last : Bool) → 1 ≤ r → now ≡ iterate step n a → after ≡ iterate step r now → last ≡ lit after
      → IsUnlit r now → Shows word n a → (k : ℕ) → (has_bit word k || (last && (k == n + r - 1))) ≡ (nat_lt k (n + r) && lit (iterate step (suc k) a))
  shows-on a now after word n r last some e f g unlit h k = elim (cases_lt k n) [
    | inl l ↦ before a word n r k last l some h
    | inr l ↦ elim (cases_lt k (n + r - 1)) [
      | inl m ↦ later a word n r k last l m h (ap lit (sym (on-from a now n r k e l)) ∙ unlit (k - n) (omega arith))
      | inr m ↦ elim (cases_lt k (n + r)) [
        | inl o ↦ at-last a word n r k last l (omega arith) some h
            (let s : suc (k - n) ≡ r = omega arith in ap lit (sym (on-from a now n r k e l)) ∙ (ap (λ (m : ℕ). lit (iterate step m now)) s ∙ (ap lit (sym f) ∙ sym g)))
        | inr o ↦ beyond a word n r k last o some h
      ]
    ]
  ]
