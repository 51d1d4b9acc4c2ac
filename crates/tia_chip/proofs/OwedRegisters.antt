-- Registers of objects that are nothing to the steps of an object.
use Rattle.std.proofs.Common.{◌≡◌, ◌∙◌, ℕ, zero, suc, ◌==◌, Bool, true, false, refl, ap, sym, if◌then◌else◌}
use Rattle.std.specs.Fn.{iterate}
use Rattle.tia_chip.proofs.LatchedLines.{objects-alike}
use Rattle.tia_chip.specs.Ball.{ball_after_step}
use Rattle.tia_chip.specs.Counter.{begins_copy, next_counter}
use Rattle.tia_chip.specs.Missile.{missile_after_step}
use Rattle.tia_chip.specs.Player.{copy_after_step, counts_for_change, looked_at_player, player_after_step, with_awaited_step}
use Rattle.tia_chip.specs.Private.Owed.{after_owed, ball_seen, made_steps, missile_seen, player_seen}
use Rattle.tia_chip.specs.Write.{acted}
use Rattle.tia_chip.specs.declared.ball.Ball.{Ball}
use Rattle.tia_chip.specs.declared.missile.Missile.{Missile}
use Rattle.tia_chip.specs.declared.player.Player.{Player}
use Rattle.tia_chip.specs.declared.register.Register.TheVariants.{Hmclr}
use Rattle.tia_chip.specs.declared.state.TiaState.{TiaState}

-- ---- a change that steps don't look at comes before them or after them
iterate-swap : {A : Type 0} (step f : A → A) (n : ℕ) (a : A) → ((x : A) → step (f x) ≡ f (step x)) → iterate step n (f a) ≡ f (iterate step n a)
iterate-swap step f zero a h = refl
iterate-swap step f (suc n) a h = ap (iterate step n) (h a) ∙ iterate-swap step f n (step a) h

owed-swap : {A : Type 0} (step seen f : A → A) (n : ℕ) (a : A) → ((x : A) → step (f x) ≡ f (step x)) → ((x : A) → seen (f x) ≡ f (seen x))
    → f (after_owed step seen n a) ≡ after_owed step seen n (f a)
owed-swap step seen f zero a h k = refl
owed-swap step seen f (suc n) a h k = sym (ap seen (iterate-swap step f (suc n) a h) ∙ k (iterate step (suc n) a))

either-way : {A B : Type 0} (f : A → B) (b : Bool) (x y : A) → f (if b then x else y) ≡ (if b then f x else f y)
either-way f true x y = refl
either-way f false x y = refl

-- ---- each object
hmp-step : (hmp : ℕ) (p : Player) → player_after_step (record p { hmp = hmp }) ≡ record (player_after_step p) { hmp = hmp }
hmp-step hmp p =
    let next = record (looked_at_player p) { counter = next_counter p.counter; copy = copy_after_step p } in
    let f : Player → Player = λ q. record q { hmp = hmp } in
    sym (either-way f (counts_for_change p) (with_awaited_step next) next
    ∙ ap (λ (q : Player). if counts_for_change p then q else f next) (either-way f (next.change == 1) _ _))

pub hmp-owed : (hmp n : ℕ) (looked : Bool) (p : Player)
    → record (after_owed player_after_step (player_seen looked) n p) { hmp = hmp } ≡ after_owed player_after_step (player_seen looked) n (record p { hmp = hmp })
hmp-owed hmp n true p = owed-swap player_after_step (player_seen true) (λ q. record q { hmp = hmp }) n p (hmp-step hmp) (λ q. refl)
hmp-owed hmp n false p = owed-swap player_after_step (player_seen false) (λ q. record q { hmp = hmp }) n p (hmp-step hmp) (λ q. refl)

pub enam-owed : (nusiz enam n : ℕ) (looked : Bool) (m : Missile)
    → record (after_owed (missile_after_step nusiz 0) (missile_seen looked) n m) { enam = enam } ≡ after_owed (missile_after_step nusiz 0) (missile_seen looked) n (record m { enam = enam })
enam-owed nusiz enam n true m = owed-swap (missile_after_step nusiz 0) (missile_seen true) (λ q. record q { enam = enam }) n m (λ q. refl) (λ q. refl)
enam-owed nusiz enam n false m = owed-swap (missile_after_step nusiz 0) (missile_seen false) (λ q. record q { enam = enam }) n m (λ q. refl) (λ q. refl)

pub hmm-owed : (nusiz hmm n : ℕ) (looked : Bool) (m : Missile)
    → record (after_owed (missile_after_step nusiz 0) (missile_seen looked) n m) { hmm = hmm } ≡ after_owed (missile_after_step nusiz 0) (missile_seen looked) n (record m { hmm = hmm })
hmm-owed nusiz hmm n true m = owed-swap (missile_after_step nusiz 0) (missile_seen true) (λ q. record q { hmm = hmm }) n m (λ q. refl) (λ q. refl)
hmm-owed nusiz hmm n false m = owed-swap (missile_after_step nusiz 0) (missile_seen false) (λ q. record q { hmm = hmm }) n m (λ q. refl) (λ q. refl)

enabl-step : (ctrlpf enabl : ℕ) (b : Ball) → ball_after_step ctrlpf false (record b { enabl_new = enabl }) ≡ record (ball_after_step ctrlpf false b) { enabl_new = enabl }
enabl-step ctrlpf enabl b = sym (either-way (λ (q : Ball). record q { enabl_new = enabl }) (begins_copy 0 b.counter) _ _)

pub enabl-owed : (ctrlpf enabl n : ℕ) (looked : Bool) (b : Ball)
    → record (after_owed (ball_after_step ctrlpf false) (ball_seen looked) n b) { enabl_new = enabl } ≡ after_owed (ball_after_step ctrlpf false) (ball_seen looked) n (record b { enabl_new = enabl })
enabl-owed ctrlpf enabl n true b = owed-swap (ball_after_step ctrlpf false) (ball_seen true) (λ q. record q { enabl_new = enabl }) n b (enabl-step ctrlpf enabl) (λ q. refl)
enabl-owed ctrlpf enabl n false b = owed-swap (ball_after_step ctrlpf false) (ball_seen false) (λ q. record q { enabl_new = enabl }) n b (enabl-step ctrlpf enabl) (λ q. refl)

vdelbl-step : (ctrlpf vdelbl : ℕ) (b : Ball) → ball_after_step ctrlpf false (record b { vdelbl = vdelbl }) ≡ record (ball_after_step ctrlpf false b) { vdelbl = vdelbl }
vdelbl-step ctrlpf vdelbl b = sym (either-way (λ (q : Ball). record q { vdelbl = vdelbl }) (begins_copy 0 b.counter) _ _)

pub vdelbl-owed : (ctrlpf vdelbl n : ℕ) (looked : Bool) (b : Ball)
    → record (after_owed (ball_after_step ctrlpf false) (ball_seen looked) n b) { vdelbl = vdelbl } ≡ after_owed (ball_after_step ctrlpf false) (ball_seen looked) n (record b { vdelbl = vdelbl })
vdelbl-owed ctrlpf vdelbl n true b = owed-swap (ball_after_step ctrlpf false) (ball_seen true) (λ q. record q { vdelbl = vdelbl }) n b (vdelbl-step ctrlpf vdelbl) (λ q. refl)
vdelbl-owed ctrlpf vdelbl n false b = owed-swap (ball_after_step ctrlpf false) (ball_seen false) (λ q. record q { vdelbl = vdelbl }) n b (vdelbl-step ctrlpf vdelbl) (λ q. refl)

hmbl-step : (ctrlpf hmbl : ℕ) (b : Ball) → ball_after_step ctrlpf false (record b { hmbl = hmbl }) ≡ record (ball_after_step ctrlpf false b) { hmbl = hmbl }
hmbl-step ctrlpf hmbl b = sym (either-way (λ (q : Ball). record q { hmbl = hmbl }) (begins_copy 0 b.counter) _ _)

pub hmbl-owed : (ctrlpf hmbl n : ℕ) (looked : Bool) (b : Ball)
    → record (after_owed (ball_after_step ctrlpf false) (ball_seen looked) n b) { hmbl = hmbl } ≡ after_owed (ball_after_step ctrlpf false) (ball_seen looked) n (record b { hmbl = hmbl })
hmbl-owed ctrlpf hmbl n true b = owed-swap (ball_after_step ctrlpf false) (ball_seen true) (λ q. record q { hmbl = hmbl }) n b (hmbl-step ctrlpf hmbl) (λ q. refl)
hmbl-owed ctrlpf hmbl n false b = owed-swap (ball_after_step ctrlpf false) (ball_seen false) (λ q. record q { hmbl = hmbl }) n b (hmbl-step ctrlpf hmbl) (λ q. refl)

-- HMCLR
pub hmclr-made : (v n : ℕ) (looked : Bool) (t : TiaState) → acted Hmclr v (made_steps n looked t) ≡ made_steps n looked (acted Hmclr v t)
hmclr-made v n looked t =
    let s = acted Hmclr v (made_steps n looked t) in
    let u = made_steps n looked (acted Hmclr v t) in
    objects-alike t s.player0 u.player0 s.player1 u.player1 s.missile0 u.missile0 s.missile1 u.missile1 s.ball u.ball
    (hmp-owed 0 n looked t.player0) (hmp-owed 0 n looked t.player1) (hmm-owed t.player0.nusiz 0 n looked t.missile0)
    (hmm-owed t.player1.nusiz 0 n looked t.missile1) (hmbl-owed t.ctrlpf 0 n looked t.ball)
