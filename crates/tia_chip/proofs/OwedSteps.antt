-- Steps that an object owes.
use Rattle.std.proofs.Common.{◌≡◌, ◌∙◌, ℕ, zero, suc, ◌+◌, ◌≤◌, ◌==◌, Bool, true, false, arith, refl, ap, sym}
use Rattle.std.proofs.lemmas.Bool.{cond_both}
use Rattle.std.specs.Fn.{iterate}
use Rattle.tia_chip.proofs.ClocksLemmas.{iterate-add}
use Rattle.tia_chip.specs.Ball.{ball_after_step}
use Rattle.tia_chip.specs.Counter.{begins_copy, next_counter}
use Rattle.tia_chip.specs.Missile.{missile_after_step}
use Rattle.tia_chip.specs.Player.{copy_after_step, counts_for_change, looked_at_player, player_after_step}
use Rattle.tia_chip.specs.Private.Owed.{after_owed, ball_seen, missile_seen, player_seen}
use Rattle.tia_chip.specs.declared.ball.Ball.{Ball}
use Rattle.tia_chip.specs.declared.missile.Missile.{Missile}
use Rattle.tia_chip.specs.declared.player.Player.{Player}
use Rattle.std.specs.Prelude.{None}

pub owed-some : {A : Type 0} (step seen : A → A) (n : ℕ) (a : A) → 1 ≤ n → after_owed step seen n a ≡ seen (iterate step n a)
owed-some step seen zero a s = absurd (omega arith)
owed-some step seen (suc n) a s = refl

-- k steps more
owed-on : {A : Type 0} (step seen : A → A) (n k : ℕ) (a : A) → ((x : A) → step (seen x) ≡ step x)
    → iterate step (suc k) (after_owed step seen n a) ≡ iterate step (n + suc k) a
owed-on step seen zero k a h = let e : zero + suc k ≡ suc k = omega arith in rw e refl
owed-on step seen (suc n) k a h = ap (iterate step k) (h (iterate step (suc n) a)) ∙ sym (iterate-add step (suc n) (suc k) a)

pub owed-more : {A : Type 0} (step seen then : A → A) (n k : ℕ) (a : A) → 1 ≤ k → ((x : A) → step (seen x) ≡ step x)
    → then (iterate step k (after_owed step seen n a)) ≡ after_owed step then (n + k) a
owed-more step seen then n zero a s h = absurd (omega arith)
owed-more step seen then n (suc k) a s h = ap then (owed-on step seen n k a h) ∙ sym (owed-some step then (n + suc k) a (omega arith))

-- some steps, and then others
pub owed-add : {A : Type 0} (step seen : A → A) (n k : ℕ) (a : A) → ((x : A) → step (seen x) ≡ step x)
    → after_owed step seen k (after_owed step seen n a) ≡ after_owed step seen (n + k) a
owed-add step seen n zero a h = let e : n + zero ≡ n = omega arith in rw e refl
owed-add step seen n (suc k) a h = owed-more step seen seen n (suc k) a (omega arith) h

-- what was seen is forgotten before the steps, or after them
pub owed-forgets : {A : Type 0} (step seen forget : A → A) (n : ℕ) (a : A) → ((x : A) → step (forget x) ≡ step x) → ((x : A) → forget (seen x) ≡ forget x)
    → after_owed step forget n (forget a) ≡ forget (after_owed step seen n a)
owed-forgets step seen forget zero a h k = refl
owed-forgets step seen forget (suc n) a h k = ap (λ x. forget (iterate step n x)) (h a) ∙ sym (k (iterate step (suc n) a))

-- what steps keep
iterate-kept : {A B : Type 0} (step : A → A) (view : A → B) (n : ℕ) (a : A) → ((x : A) → view (step x) ≡ view x) → view (iterate step n a) ≡ view a
iterate-kept step view zero a h = refl
iterate-kept step view (suc n) a h = iterate-kept step view n (step a) h ∙ h a

owed-kept : {A B : Type 0} (step seen : A → A) (view : A → B) (n : ℕ) (a : A) → ((x : A) → view (step x) ≡ view x) → ((x : A) → view (seen x) ≡ view x)
    → view (after_owed step seen n a) ≡ view a
owed-kept step seen view zero a h k = refl
owed-kept step seen view (suc n) a h k = k (iterate step (suc n) a) ∙ iterate-kept step view (suc n) a h

-- ---- each object
pub player-overwrites : (looked : Bool) (p : Player) → player_after_step (player_seen looked p) ≡ player_after_step p
player-overwrites true p = refl
player-overwrites false p = refl

pub missile-overwrites : (nusiz clock : ℕ) (looked : Bool) (m : Missile) → missile_after_step nusiz clock (missile_seen looked m) ≡ missile_after_step nusiz clock m
missile-overwrites nusiz clock true m = refl
missile-overwrites nusiz clock false m = refl

pub ball-overwrites : (ctrlpf : ℕ) (looked : Bool) (b : Ball) → ball_after_step ctrlpf false (ball_seen looked b) ≡ ball_after_step ctrlpf false b
ball-overwrites ctrlpf true b = refl
ball-overwrites ctrlpf false b = refl

pub player-forgets : (looked : Bool) (p : Player) → player_seen false (player_seen looked p) ≡ player_seen false p
player-forgets true p = refl
player-forgets false p = refl

pub missile-forgets : (looked : Bool) (m : Missile) → missile_seen false (missile_seen looked m) ≡ missile_seen false m
missile-forgets true m = refl
missile-forgets false m = refl

pub ball-forgets : (looked : Bool) (b : Ball) → ball_seen false (ball_seen looked b) ≡ ball_seen false b
ball-forgets true b = refl
ball-forgets false b = refl

-- objects with their registers and motion alone, which steps keep
abbrev pub bare_player : Player → Player
bare_player p = record p { counter = 0; copy = None; width = 0; change = 0; seen = false }

abbrev pub bare_missile : Missile → Missile
bare_missile m = record m { counter = 0; copy = None; seen = false }

abbrev pub bare_ball : Ball → Ball
bare_ball b = record b { counter = 0; place = None; own_size = 0; seen = false }

player-step : (p : Player) → bare_player (player_after_step p) ≡ bare_player p
player-step p =
    let next = record (looked_at_player p) { counter = next_counter p.counter; copy = copy_after_step p } in
    cond_both (counts_for_change p) _ _ (λ (q : Player). bare_player q ≡ bare_player p)
    (λ e. cond_both (next.change == 1) _ _ (λ (q : Player). bare_player q ≡ bare_player p) (λ f. refl) (λ f. refl)) (λ e. refl)

player-look : (looked : Bool) (p : Player) → bare_player (player_seen looked p) ≡ bare_player p
player-look true p = refl
player-look false p = refl

missile-look : (looked : Bool) (m : Missile) → bare_missile (missile_seen looked m) ≡ bare_missile m
missile-look true m = refl
missile-look false m = refl

ball-step : (ctrlpf : ℕ) (b : Ball) → bare_ball (ball_after_step ctrlpf false b) ≡ bare_ball b
ball-step ctrlpf b = cond_both (begins_copy 0 b.counter) _ _ (λ (c : Ball). bare_ball c ≡ bare_ball b) (λ e. refl) (λ e. refl)

ball-look : (looked : Bool) (b : Ball) → bare_ball (ball_seen looked b) ≡ bare_ball b
ball-look true b = refl
ball-look false b = refl

pub player-kept : (looked : Bool) (n : ℕ) (p : Player) → bare_player (after_owed player_after_step (player_seen looked) n p) ≡ bare_player p
player-kept looked n p = owed-kept player_after_step (player_seen looked) bare_player n p player-step (player-look looked)

pub missile-kept : (nusiz clock : ℕ) (looked : Bool) (n : ℕ) (m : Missile)
    → bare_missile (after_owed (missile_after_step nusiz clock) (missile_seen looked) n m) ≡ bare_missile m
missile-kept nusiz clock looked n m = owed-kept (missile_after_step nusiz clock) (missile_seen looked) bare_missile n m (λ x. refl) (missile-look looked)

pub ball-kept : (ctrlpf : ℕ) (looked : Bool) (n : ℕ) (b : Ball)
    → bare_ball (after_owed (ball_after_step ctrlpf false) (ball_seen looked) n b) ≡ bare_ball b
ball-kept ctrlpf looked n b = owed-kept (ball_after_step ctrlpf false) (ball_seen looked) bare_ball n b (ball-step ctrlpf) (ball-look looked)
