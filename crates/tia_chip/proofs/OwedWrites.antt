-- Writes that need no steps, and steps that a TIA owes.
use Rattle.std.proofs.Common.{◌≡◌, ◌∙◌, ℕ, ◌≤◌, ◌&&◌, ◌||◌, inl, inr, Bool, true, false, arith, refl, ap, sym}
use Rattle.std.proofs.lemmas.Bool.{and_right, cases_Bool, cond-false}
use Rattle.tia_chip.proofs.OwedLemmas.{bare, bare-made, made-none}
use Rattle.tia_chip.proofs.OwedRegisters.{enabl-owed, enam-owed, hmbl-owed, hmclr-made, hmm-owed, hmp-owed, vdelbl-owed}
use Rattle.tia_chip.proofs.QuietAges.{alike-three}
use Rattle.tia_chip.proofs.ShownWrites.{same-player}
use Rattle.tia_chip.specs.Ball.{is_ball_changed}
use Rattle.tia_chip.specs.Blank.{is_in_blank}
use Rattle.tia_chip.specs.Missile.{is_missile_changed}
use Rattle.tia_chip.specs.Motion.{any_moves}
use Rattle.tia_chip.specs.Player.{graphic_of, is_player_changed}
use Rattle.tia_chip.specs.Private.Owed.{made_steps, needs_steps}
use Rattle.tia_chip.specs.Registers.{register_bits}
use Rattle.tia_chip.specs.Write.{acted, after_action, is_changed, player_after_write, with_changes}
use Rattle.tia_chip.specs.declared.ball.Ball.{Ball}
use Rattle.tia_chip.specs.declared.missile.Missile.{Missile}
use Rattle.tia_chip.specs.declared.player.Player.{Player}
use Rattle.tia_chip.specs.declared.register.Register.{Register}
use Rattle.tia_chip.specs.declared.register.Register.TheVariants.{Vsync, Vblank, Wsync, Rsync, Nusiz0, Nusiz1, Colup0, Colup1, Colupf, Colubk, Ctrlpf, Refp0, Refp1, Pf0, Pf1, Pf2}
use Rattle.tia_chip.specs.declared.register.Register.TheVariants.{Resp0, Resp1, Resm0, Resm1, Resbl, Grp0, Grp1, Enam0, Enam1, Enabl, Hmp0, Hmp1}
use Rattle.tia_chip.specs.declared.register.Register.TheVariants.{Hmm0, Hmm1, Hmbl, Vdelp0, Vdelp1, Vdelbl, Resmp0, Resmp1, Hmove, Hmclr, Cxclr, Ignored}
use Rattle.tia_chip.specs.declared.state.TiaState.{TiaState}

-- ---- what a write changes, if it changes nothing that a player shows
dots_changed : TiaState → TiaState → Bool
dots_changed t u = is_missile_changed t.missile0 u.missile0 || is_missile_changed t.missile1 u.missile1 || is_ball_changed t.ball u.ball

noted : TiaState → TiaState → TiaState
noted t u = record u { changed = t.changed || dots_changed t u }

no-players : (a b c d e : Bool) → a ≡ false → b ≡ false → (a || b || c || d || e) ≡ (c || d || e)
no-players a b c d e i j = rw (i, j) refl

kept : (t u : TiaState) → graphic_of t.player0 ≡ graphic_of u.player0 → t.player0.refp ≡ u.player0.refp → t.player0.vdelp ≡ u.player0.vdelp
    → graphic_of t.player1 ≡ graphic_of u.player1 → t.player1.refp ≡ u.player1.refp → t.player1.vdelp ≡ u.player1.vdelp → with_changes t u ≡ noted t u
unfolding noted dots_changed
kept t u g0 r0 v0 g1 r1 v1 =
    let player0 = same-player t.player0 u.player0 g0 r0 v0 in
    let player1 = same-player t.player1 u.player1 g1 r1 v1 in
    alike-three (λ (p q : Player) (c : Bool). record u { player0 = p; player1 = q; changed = t.changed || c })
    (player_after_write (is_in_blank u) t.player0 u.player0) u.player0 (player_after_write (is_in_blank u) t.player1 u.player1) u.player1
    (is_changed t u) (dots_changed t u)
    (cond-false (is_in_blank u && is_player_changed t.player0 u.player0) _ _ (and_right (is_in_blank u) (is_player_changed t.player0 u.player0) player0))
    (cond-false (is_in_blank u && is_player_changed t.player1 u.player1) _ _ (and_right (is_in_blank u) (is_player_changed t.player1 u.player1) player1))
    (no-players (is_player_changed t.player0 u.player0) (is_player_changed t.player1 u.player1) (is_missile_changed t.missile0 u.missile0)
    (is_missile_changed t.missile1 u.missile1) (is_ball_changed t.ball u.ball) player0 player1)

-- the steps are nothing to that
same-dots : (n : ℕ) (looked : Bool) (t u : TiaState) → dots_changed (made_steps n looked t) (made_steps n looked u) ≡ dots_changed t u
unfolding dots_changed bare
same-dots n looked t u =
    ap (λ (x : TiaState). dots_changed x (made_steps n looked u)) (bare-made n looked t) ∙ ap (λ (x : TiaState). dots_changed (bare t) x) (bare-made n looked u)

-- ---- such a write
record IsFree (r : Register) (v : ℕ) : Type 0 where
  pub steps : (n : ℕ) (looked : Bool) (t : TiaState) → acted r v (made_steps n looked t) ≡ made_steps n looked (acted r v t)
  pub moves : (t : TiaState) → any_moves (acted r v t) ≡ any_moves t
  pub notes : (t : TiaState) → after_action r v t ≡ noted t (acted r v t)

free : (r : Register) (v : ℕ) → needs_steps r ≡ false → IsFree r v
free Vsync v e = record { steps = λ n looked t. refl; moves = λ t. refl; notes = λ t. kept t (acted Vsync v t) refl refl refl refl refl refl }
free Vblank v e = record { steps = λ n looked t. refl; moves = λ t. refl; notes = λ t. kept t (acted Vblank v t) refl refl refl refl refl refl }
free Wsync v e = record { steps = λ n looked t. refl; moves = λ t. refl; notes = λ t. kept t (acted Wsync v t) refl refl refl refl refl refl }
free Rsync v e = record { steps = λ n looked t. refl; moves = λ t. refl; notes = λ t. kept t (acted Rsync v t) refl refl refl refl refl refl }
free Colup0 v e = record { steps = λ n looked t. refl; moves = λ t. refl; notes = λ t. kept t (acted Colup0 v t) refl refl refl refl refl refl }
free Colup1 v e = record { steps = λ n looked t. refl; moves = λ t. refl; notes = λ t. kept t (acted Colup1 v t) refl refl refl refl refl refl }
free Colupf v e = record { steps = λ n looked t. refl; moves = λ t. refl; notes = λ t. kept t (acted Colupf v t) refl refl refl refl refl refl }
free Colubk v e = record { steps = λ n looked t. refl; moves = λ t. refl; notes = λ t. kept t (acted Colubk v t) refl refl refl refl refl refl }
free Pf0 v e = record { steps = λ n looked t. refl; moves = λ t. refl; notes = λ t. kept t (acted Pf0 v t) refl refl refl refl refl refl }
free Pf1 v e = record { steps = λ n looked t. refl; moves = λ t. refl; notes = λ t. kept t (acted Pf1 v t) refl refl refl refl refl refl }
free Pf2 v e = record { steps = λ n looked t. refl; moves = λ t. refl; notes = λ t. kept t (acted Pf2 v t) refl refl refl refl refl refl }
free Cxclr v e = record { steps = λ n looked t. refl; moves = λ t. refl; notes = λ t. kept t (acted Cxclr v t) refl refl refl refl refl refl }
free Ignored v e = record { steps = λ n looked t. refl; moves = λ t. refl; notes = λ t. kept t (acted Ignored v t) refl refl refl refl refl refl }
free Enam0 v e = record { steps = λ n looked t. ap (λ (x : Missile). record (made_steps n looked t) { missile0 = x }) (enam-owed t.player0.nusiz (register_bits Enam0 v) n looked t.missile0); moves = λ t. refl; notes = λ t. kept t (acted Enam0 v t) refl refl refl refl refl refl }
free Enam1 v e = record { steps = λ n looked t. ap (λ (x : Missile). record (made_steps n looked t) { missile1 = x }) (enam-owed t.player1.nusiz (register_bits Enam1 v) n looked t.missile1); moves = λ t. refl; notes = λ t. kept t (acted Enam1 v t) refl refl refl refl refl refl }
free Enabl v e = record { steps = λ n looked t. ap (λ (x : Ball). record (made_steps n looked t) { ball = x }) (enabl-owed t.ctrlpf (register_bits Enabl v) n looked t.ball); moves = λ t. refl; notes = λ t. kept t (acted Enabl v t) refl refl refl refl refl refl }
free Hmp0 v e = record { steps = λ n looked t. ap (λ (x : Player). record (made_steps n looked t) { player0 = x }) (hmp-owed (register_bits Hmp0 v) n looked t.player0); moves = λ t. refl; notes = λ t. kept t (acted Hmp0 v t) refl refl refl refl refl refl }
free Hmp1 v e = record { steps = λ n looked t. ap (λ (x : Player). record (made_steps n looked t) { player1 = x }) (hmp-owed (register_bits Hmp1 v) n looked t.player1); moves = λ t. refl; notes = λ t. kept t (acted Hmp1 v t) refl refl refl refl refl refl }
free Hmm0 v e = record { steps = λ n looked t. ap (λ (x : Missile). record (made_steps n looked t) { missile0 = x }) (hmm-owed t.player0.nusiz (register_bits Hmm0 v) n looked t.missile0); moves = λ t. refl; notes = λ t. kept t (acted Hmm0 v t) refl refl refl refl refl refl }
free Hmm1 v e = record { steps = λ n looked t. ap (λ (x : Missile). record (made_steps n looked t) { missile1 = x }) (hmm-owed t.player1.nusiz (register_bits Hmm1 v) n looked t.missile1); moves = λ t. refl; notes = λ t. kept t (acted Hmm1 v t) refl refl refl refl refl refl }
free Hmbl v e = record { steps = λ n looked t. ap (λ (x : Ball). record (made_steps n looked t) { ball = x }) (hmbl-owed t.ctrlpf (register_bits Hmbl v) n looked t.ball); moves = λ t. refl; notes = λ t. kept t (acted Hmbl v t) refl refl refl refl refl refl }
free Vdelbl v e = record { steps = λ n looked t. ap (λ (x : Ball). record (made_steps n looked t) { ball = x }) (vdelbl-owed t.ctrlpf (register_bits Vdelbl v) n looked t.ball); moves = λ t. refl; notes = λ t. kept t (acted Vdelbl v t) refl refl refl refl refl refl }
free Hmclr v e = record { steps = λ n looked t. hmclr-made v n looked t; moves = λ t. refl; notes = λ t. kept t (acted Hmclr v t) refl refl refl refl refl refl }
free Nusiz0 v e = absurd cc
free Nusiz1 v e = absurd cc
free Ctrlpf v e = absurd cc
free Refp0 v e = absurd cc
free Refp1 v e = absurd cc
free Resp0 v e = absurd cc
free Resp1 v e = absurd cc
free Resm0 v e = absurd cc
free Resm1 v e = absurd cc
free Resbl v e = absurd cc
free Grp0 v e = absurd cc
free Grp1 v e = absurd cc
free Vdelp0 v e = absurd cc
free Vdelp1 v e = absurd cc
free Resmp0 v e = absurd cc
free Resmp1 v e = absurd cc
free Hmove v e = absurd cc

action-moves : (r : Register) (v : ℕ) (t : TiaState) → needs_steps r ≡ false → any_moves (after_action r v t) ≡ any_moves t
unfolding noted
action-moves r v t e = let f = free r v e in ap any_moves (f.notes t) ∙ f.moves t

free-made : (r : Register) (v n : ℕ) (looked : Bool) (t : TiaState) → needs_steps r ≡ false
    → made_steps n looked (after_action r v t) ≡ after_action r v (made_steps n looked t)
unfolding noted
free-made r v n looked t e =
    let f = free r v e in
    let s = made_steps n looked t in
    let u = acted r v t in
    ap (made_steps n looked) (f.notes t)
    ∙ (sym (ap (λ (b : Bool). record (made_steps n looked u) { changed = t.changed || b }) (same-dots n looked t u))
    ∙ (sym (ap (noted s) (f.steps n looked t)) ∙ sym (f.notes s)))

-- ---- any write for which no steps are owed, or that needs none
abbrev pub Settles : Register → ℕ → Type 0
Settles r n = needs_steps r ≡ true → n ≡ 0

pub action-made : (r : Register) (v n : ℕ) (looked : Bool) (t : TiaState) → Settles r n
    → made_steps n looked (after_action r v t) ≡ after_action r v (made_steps n looked t)
action-made r v n looked t h = elim (cases_Bool (needs_steps r)) [
  | inl e ↦ made-none n looked (after_action r v t) (h e) ∙ ap (after_action r v) (sym (made-none n looked t (h e)))
  | inr e ↦ free-made r v n looked t e
]

pub action-still : (r : Register) (v n : ℕ) (t : TiaState) → Settles r n → (1 ≤ n → any_moves t ≡ false) → 1 ≤ n → any_moves (after_action r v t) ≡ false
action-still r v n t h k some = elim (cases_Bool (needs_steps r)) [
  | inl e ↦ absurd (omega (arith, h e))
  | inr e ↦ action-moves r v t e ∙ k some
]
