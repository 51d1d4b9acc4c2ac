-- Writes that change nothing that an object shows.
use Rattle.std.proofs.Common.{◌≡◌, ◌∙◌, ℕ, ◌==◌, ◌&&◌, ◌||◌, not, Bool, true, false, arith, refl, sym}
use Rattle.std.proofs.lemmas.Bool.{and_right, cond-false}
use Rattle.std.proofs.lemmas.Bool.Decides.{nat_tests}
use Rattle.tia_chip.proofs.QuietAges.{alike-three}
use Rattle.tia_chip.specs.Ball.{enable_of, is_ball_changed}
use Rattle.tia_chip.specs.Blank.{is_in_blank}
use Rattle.tia_chip.specs.Missile.{is_missile_changed}
use Rattle.tia_chip.specs.Player.{graphic_of, is_drawn, is_player_changed}
use Rattle.tia_chip.specs.Private.Late.{keeps_shown}
use Rattle.tia_chip.specs.Write.{acted, after_action, is_changed, player_after_write, with_changes}
use Rattle.tia_chip.specs.declared.ball.Ball.{Ball}
use Rattle.tia_chip.specs.declared.missile.Missile.{Missile}
use Rattle.tia_chip.specs.declared.player.Player.{Player}
use Rattle.tia_chip.specs.declared.register.Register.{Register}
use Rattle.tia_chip.specs.declared.register.Register.TheVariants.{Vsync, Vblank, Wsync, Rsync, Colup0, Colup1, Colupf, Colubk}
use Rattle.tia_chip.specs.declared.register.Register.TheVariants.{Ctrlpf, Pf0, Pf1, Pf2, Resp0, Resp1, Resm0, Resm1}
use Rattle.tia_chip.specs.declared.register.Register.TheVariants.{Resbl, Hmp0, Hmp1, Hmm0, Hmm1, Hmbl, Hmove, Hmclr}
use Rattle.tia_chip.specs.declared.register.Register.TheVariants.{Cxclr, Ignored, Nusiz0, Nusiz1, Refp0, Refp1, Grp0, Grp1}
use Rattle.tia_chip.specs.declared.register.Register.TheVariants.{Enam0, Enam1, Enabl, Vdelp0, Vdelp1, Vdelbl, Resmp0, Resmp1}
use Rattle.tia_chip.specs.declared.state.TiaState.{TiaState}

pub same-player : (p q : Player) → graphic_of p ≡ graphic_of q → p.refp ≡ q.refp → p.vdelp ≡ q.vdelp → is_player_changed p q ≡ false
same-player p q e f g =
    and_right (is_drawn q.width q.copy) (not (graphic_of p == graphic_of q && p.refp == q.refp && p.vdelp == q.vdelp)) (grind (arith, nat_tests))

same-missile : (m n : Missile) → m.enam ≡ n.enam → m.resmp ≡ n.resmp → is_missile_changed m n ≡ false
same-missile m n e f = grind (arith, nat_tests)

same-ball : (b c : Ball) → enable_of b ≡ enable_of c → b.vdelbl ≡ c.vdelbl → is_ball_changed b c ≡ false
same-ball b c e f = grind (arith, nat_tests)

none-of-five : (a b c d e before : Bool) → a ≡ false → b ≡ false → c ≡ false → d ≡ false → e ≡ false → (before || (a || b || c || d || e)) ≡ before
none-of-five a b c d e true f g h i j = refl
none-of-five a b c d e false f g h i j = rw (f, g, h, i, j) refl

-- a TIA of which a write has changed nothing that is shown has no changes to be looked at
kept : (t u : TiaState) → graphic_of t.player0 ≡ graphic_of u.player0 → t.player0.refp ≡ u.player0.refp → t.player0.vdelp ≡ u.player0.vdelp
    → graphic_of t.player1 ≡ graphic_of u.player1 → t.player1.refp ≡ u.player1.refp → t.player1.vdelp ≡ u.player1.vdelp
    → t.missile0.enam ≡ u.missile0.enam → t.missile0.resmp ≡ u.missile0.resmp → t.missile1.enam ≡ u.missile1.enam → t.missile1.resmp ≡ u.missile1.resmp
    → enable_of t.ball ≡ enable_of u.ball → t.ball.vdelbl ≡ u.ball.vdelbl → t.changed ≡ u.changed → with_changes t u ≡ u
kept t u g0 r0 v0 g1 r1 v1 e0 l0 e1 l1 e v changed =
    let player0 = same-player t.player0 u.player0 g0 r0 v0 in
    let player1 = same-player t.player1 u.player1 g1 r1 v1 in
    let missile0 = same-missile t.missile0 u.missile0 e0 l0 in
    let missile1 = same-missile t.missile1 u.missile1 e1 l1 in
    let ball = same-ball t.ball u.ball e v in
    alike-three (λ (p q : Player) (c : Bool). record u { player0 = p; player1 = q; changed = c })
    (player_after_write (is_in_blank u) t.player0 u.player0) u.player0 (player_after_write (is_in_blank u) t.player1 u.player1) u.player1
    (t.changed || is_changed t u) u.changed
    (cond-false (is_in_blank u && is_player_changed t.player0 u.player0) _ _ (and_right (is_in_blank u) (is_player_changed t.player0 u.player0) player0))
    (cond-false (is_in_blank u && is_player_changed t.player1 u.player1) _ _ (and_right (is_in_blank u) (is_player_changed t.player1 u.player1) player1))
    (none-of-five (is_player_changed t.player0 u.player0) (is_player_changed t.player1 u.player1) (is_missile_changed t.missile0 u.missile0)
    (is_missile_changed t.missile1 u.missile1) (is_ball_changed t.ball u.ball) t.changed player0 player1 missile0 missile1 ball ∙ changed)

pub acts-alone : (r : Register) (v : ℕ) (t : TiaState) → keeps_shown r ≡ true → acted r v t ≡ after_action r v t
acts-alone Vsync v t e = sym (kept t (acted Vsync v t) refl refl refl refl refl refl refl refl refl refl refl refl refl)
acts-alone Vblank v t e = sym (kept t (acted Vblank v t) refl refl refl refl refl refl refl refl refl refl refl refl refl)
acts-alone Wsync v t e = sym (kept t (acted Wsync v t) refl refl refl refl refl refl refl refl refl refl refl refl refl)
acts-alone Rsync v t e = sym (kept t (acted Rsync v t) refl refl refl refl refl refl refl refl refl refl refl refl refl)
acts-alone Colup0 v t e = sym (kept t (acted Colup0 v t) refl refl refl refl refl refl refl refl refl refl refl refl refl)
acts-alone Colup1 v t e = sym (kept t (acted Colup1 v t) refl refl refl refl refl refl refl refl refl refl refl refl refl)
acts-alone Colupf v t e = sym (kept t (acted Colupf v t) refl refl refl refl refl refl refl refl refl refl refl refl refl)
acts-alone Colubk v t e = sym (kept t (acted Colubk v t) refl refl refl refl refl refl refl refl refl refl refl refl refl)
acts-alone Ctrlpf v t e = sym (kept t (acted Ctrlpf v t) refl refl refl refl refl refl refl refl refl refl refl refl refl)
acts-alone Pf0 v t e = sym (kept t (acted Pf0 v t) refl refl refl refl refl refl refl refl refl refl refl refl refl)
acts-alone Pf1 v t e = sym (kept t (acted Pf1 v t) refl refl refl refl refl refl refl refl refl refl refl refl refl)
acts-alone Pf2 v t e = sym (kept t (acted Pf2 v t) refl refl refl refl refl refl refl refl refl refl refl refl refl)
acts-alone Resp0 v t e = sym (kept t (acted Resp0 v t) refl refl refl refl refl refl refl refl refl refl refl refl refl)
acts-alone Resp1 v t e = sym (kept t (acted Resp1 v t) refl refl refl refl refl refl refl refl refl refl refl refl refl)
acts-alone Resm0 v t e = sym (kept t (acted Resm0 v t) refl refl refl refl refl refl refl refl refl refl refl refl refl)
acts-alone Resm1 v t e = sym (kept t (acted Resm1 v t) refl refl refl refl refl refl refl refl refl refl refl refl refl)
acts-alone Resbl v t e = sym (kept t (acted Resbl v t) refl refl refl refl refl refl refl refl refl refl refl refl refl)
acts-alone Hmp0 v t e = sym (kept t (acted Hmp0 v t) refl refl refl refl refl refl refl refl refl refl refl refl refl)
acts-alone Hmp1 v t e = sym (kept t (acted Hmp1 v t) refl refl refl refl refl refl refl refl refl refl refl refl refl)
acts-alone Hmm0 v t e = sym (kept t (acted Hmm0 v t) refl refl refl refl refl refl refl refl refl refl refl refl refl)
acts-alone Hmm1 v t e = sym (kept t (acted Hmm1 v t) refl refl refl refl refl refl refl refl refl refl refl refl refl)
acts-alone Hmbl v t e = sym (kept t (acted Hmbl v t) refl refl refl refl refl refl refl refl refl refl refl refl refl)
acts-alone Hmove v t e = sym (kept t (acted Hmove v t) refl refl refl refl refl refl refl refl refl refl refl refl refl)
acts-alone Hmclr v t e = sym (kept t (acted Hmclr v t) refl refl refl refl refl refl refl refl refl refl refl refl refl)
acts-alone Cxclr v t e = sym (kept t (acted Cxclr v t) refl refl refl refl refl refl refl refl refl refl refl refl refl)
acts-alone Ignored v t e = sym (kept t (acted Ignored v t) refl refl refl refl refl refl refl refl refl refl refl refl refl)
acts-alone Nusiz0 v t e = absurd cc
acts-alone Nusiz1 v t e = absurd cc
acts-alone Refp0 v t e = absurd cc
acts-alone Refp1 v t e = absurd cc
acts-alone Grp0 v t e = absurd cc
acts-alone Grp1 v t e = absurd cc
acts-alone Enam0 v t e = absurd cc
acts-alone Enam1 v t e = absurd cc
acts-alone Enabl v t e = absurd cc
acts-alone Vdelp0 v t e = absurd cc
acts-alone Vdelp1 v t e = absurd cc
acts-alone Vdelbl v t e = absurd cc
acts-alone Resmp0 v t e = absurd cc
acts-alone Resmp1 v t e = absurd cc
