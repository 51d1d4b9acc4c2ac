-- Quiet players: what they show, and what a step and n steps make of them.
use Rattle.std.proofs.Common.{◌≡◌, ◌∙◌, ℕ, zero, suc, ◌+◌, ◌%◌, ◌<◌, ◌==◌, inl, inr, Bool, true, false, arith, refl, ap, sym, if◌then◌else◌}
use Rattle.std.proofs.Common.{Option, Some}
use Rattle.std.proofs.lemmas.Bool.{cond_both}
use Rattle.std.specs.Fn.{iterate}
use Rattle.tia_chip.proofs.QuietAges.{age-next, age-small, alike-three, below-alike, counter-later, counter-next, counter-now, table}
use Rattle.tia_chip.specs.Counter.{beginnings_of, begins_copy, next_counter}
use Rattle.tia_chip.specs.Player.{copy_after_step, counts_for_change, looked_at_player, player_after_step, shows_one}
use Rattle.tia_chip.specs.Player.{stepped_copy, width_of}
use Rattle.tia_chip.specs.Private.Ranges.{IsWidth}
use Rattle.tia_chip.specs.Quiet.{IsQuietPlayer, age_of, counter_after, player_copy_at, player_copy_of_age}
use Rattle.tia_chip.specs.Quiet.{player_mask, quiet_player_after, shows_one_at_age}
use Rattle.tia_chip.specs.declared.player.Player.{Player}
use Rattle.tia_chip.specs.declared.player.PlayerCopy.{PlayerCopy}

width-cases : (nusiz : ℕ) → IsWidth (width_of nusiz)
width-cases nusiz =
    cond_both (nusiz % 8 == 5) _ _ IsWidth (λ e. inr (inl refl))
    (λ e. cond_both (nusiz % 8 == 7) _ _ IsWidth (λ f. inr (inr refl)) (λ f. inl refl))

-- a copy, by its age
copy-begun : (width : ℕ) → IsWidth width → Some (record { place = 0; bit = 0 }) ≡ player_copy_of_age width 0
copy-begun width (inl e) = rw e refl
copy-begun width (inr (inl e)) = rw e refl
copy-begun width (inr (inr e)) = rw e refl

copy-stepped : (width age : ℕ) → IsWidth width → age < 160 → stepped_copy width (player_copy_of_age width age) ≡ player_copy_of_age width (age + 1)
unfolding table
copy-stepped width age (inl e) l = rw e (below-alike (λ a. stepped_copy 1 (player_copy_of_age 1 a)) (λ a. player_copy_of_age 1 (a + 1)) 160 age refl l)
copy-stepped width age (inr (inl e)) l = rw e (below-alike (λ a. stepped_copy 2 (player_copy_of_age 2 a)) (λ a. player_copy_of_age 2 (a + 1)) 160 age refl l)
copy-stepped width age (inr (inr e)) l = rw e (below-alike (λ a. stepped_copy 4 (player_copy_of_age 4 a)) (λ a. player_copy_of_age 4 (a + 1)) 160 age refl l)

copy-next : (begins : Bool) (width age : ℕ) → IsWidth width → age < 160
    → (if begins then Some (record { place = 0; bit = 0 }) else stepped_copy width (player_copy_of_age width age))
    ≡ player_copy_of_age width (if begins then 0 else age + 1)
copy-next true width age h l = copy-begun width h
copy-next false width age h l = copy-stepped width age h l

shown : (p : Player) (width age : ℕ) → IsWidth width → age < 160
    → shows_one (record p { width = width }) (player_copy_of_age width age) ≡ shows_one_at_age p width age
unfolding table
shown p width age (inl e) l = rw e (below-alike (λ a. shows_one (record p { width = 1 }) (player_copy_of_age 1 a)) (λ a. shows_one_at_age p 1 a) 160 age refl l)
shown p width age (inr (inl e)) l = rw e (below-alike (λ a. shows_one (record p { width = 2 }) (player_copy_of_age 2 a)) (λ a. shows_one_at_age p 2 a) 160 age refl l)
shown p width age (inr (inr e)) l = rw e (below-alike (λ a. shows_one (record p { width = 4 }) (player_copy_of_age 4 a)) (λ a. shows_one_at_age p 4 a) 160 age refl l)

-- a player with the width, the change and the copy of a quiet one
quieted : Player → Player
quieted p = record p { width = width_of p.nusiz; change = 0; copy = player_copy_at p p.counter }

is-quieted : (p : Player) → IsQuietPlayer p → p ≡ quieted p
unfolding quieted
is-quieted p h =
    alike-three (λ (width change : ℕ) (copy : Option PlayerCopy). record p { width = width; change = change; copy = copy }) p.width (width_of p.nusiz) p.change 0 p.copy (player_copy_at p p.counter) h.width h.change h.copy

quieted-shows : (p : Player) → shows_one (quieted p) (quieted p).copy ≡ player_mask p p.counter
unfolding quieted
quieted-shows p = shown p (width_of p.nusiz) (age_of (p.nusiz % 8) p.counter) (width-cases p.nusiz) (age-small (beginnings_of (p.nusiz % 8)) p.counter)

pub player-shows : (p : Player) → IsQuietPlayer p → shows_one p p.copy ≡ player_mask p p.counter
unfolding quieted
player-shows p h = ap (λ (q : Player). shows_one q q.copy) (is-quieted p h) ∙ quieted-shows p

-- a step
copy-after : (p : Player) → p.counter < 160 → copy_after_step (quieted p) ≡ player_copy_at p (next_counter p.counter)
unfolding quieted
copy-after p l =
    let mode = p.nusiz % 8 in
    let next = copy-next (begins_copy mode p.counter) (width_of p.nusiz) (age_of mode p.counter) (width-cases p.nusiz) (age-small (beginnings_of mode) p.counter) in
    rw (age-next mode p.counter (omega arith) l) next

step-alone : (p : Player) → p.counter < 160
    → record (looked_at_player (quieted p)) { counter = next_counter p.counter; copy = copy_after_step (quieted p) } ≡ quiet_player_after 1 (quieted p)
unfolding quieted
step-alone p l =
    alike-three (λ (counter : ℕ) (copy : Option PlayerCopy) (seen : Bool). record (quieted p) { counter = counter; copy = copy; seen = seen })
    (next_counter p.counter) (counter_after 1 p.counter) (copy_after_step (quieted p)) (player_copy_at p (counter_after 1 p.counter))
    (shows_one (quieted p) (quieted p).copy) (player_mask p (counter_after 0 p.counter)) (counter-next p.counter l)
    (copy-after p l ∙ ap (λ c. player_copy_at p c) (counter-next p.counter l))
    (quieted-shows p ∙ ap (λ c. player_mask p c) (counter-now p.counter l))

quieted-step : (p : Player) → p.counter < 160 → player_after_step (quieted p) ≡ quiet_player_after 1 (quieted p)
unfolding quieted
quieted-step p l =
    cond_both (counts_for_change (quieted p)) _ _ (λ q. q ≡ quiet_player_after 1 (quieted p)) (λ e. step-alone p l) (λ e. step-alone p l)

pub player-step : (p : Player) → IsQuietPlayer p → player_after_step p ≡ quiet_player_after 1 p
player-step p h =
    let e = is-quieted p h in
    ap (λ (q : Player). player_after_step q) e ∙ (quieted-step p h.counter ∙ ap (λ (q : Player). quiet_player_after 1 q) (sym e))

-- n steps
pub player-quiet : (p : Player) (n : ℕ) → IsQuietPlayer p → IsQuietPlayer (quiet_player_after n p)
player-quiet p zero h = h
player-quiet p (suc n) h = record { counter = omega arith; width = h.width; change = h.change; copy = refl }

after-one : (p : Player) (n : ℕ) → quiet_player_after n (quiet_player_after 1 p) ≡ quiet_player_after (suc n) p
after-one p zero = refl
after-one p (suc n) =
    let later = counter-later (suc n) p.counter in
    alike-three (λ (counter : ℕ) (copy : Option PlayerCopy) (seen : Bool). record p { counter = counter; copy = copy; seen = seen })
    (counter_after (suc n) (counter_after 1 p.counter)) (counter_after (suc (suc n)) p.counter) (player_copy_at p (counter_after (suc n) (counter_after 1 p.counter))) (player_copy_at p (counter_after (suc (suc n)) p.counter))
    (player_mask p (counter_after n (counter_after 1 p.counter))) (player_mask p (counter_after (suc n) p.counter)) later
    (ap (λ c. player_copy_at p c) later) (ap (λ c. player_mask p c) (counter-later n p.counter))

pub player-steps : (p : Player) (n : ℕ) → IsQuietPlayer p → iterate player_after_step n p ≡ quiet_player_after n p
player-steps p zero h = refl
player-steps p (suc n) h =
    ap (λ (q : Player). iterate player_after_step n q) (player-step p h) ∙ (player-steps (quiet_player_after 1 p) n (player-quiet p 1 h) ∙ after-one p n)
