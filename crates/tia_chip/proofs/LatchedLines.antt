-- Clocks of the picture in which the pairs of all objects that may be lit are latched.
use Rattle.std.proofs.Common.{◌≡◌, ◌∙◌, ℕ, zero, suc, ◌+◌, ◌-◌, ◌%◌, ◌<◌, ◌≤◌, ◌==◌, ◌&&◌, not, Bool, true, false, arith, refl, ap, sym, if◌then◌else◌, Option, Some, None}
use Rattle.std.proofs.lemmas.Bool.{and_parts, and_right, cond_both}
use Rattle.std.proofs.lemmas.Bool.Decides.{nat_tests}
use Rattle.std.specs.Fn.{iterate}
use Rattle.std.specs.Prelude.{nat_lt}
use Rattle.tia_core.proofs.MaskWordLemmas.{bit-zero}
use Rattle.tia_chip.proofs.LineLemmas.{lit-on}
use Rattle.tia_chip.proofs.MeetLemmas.{IsAmong, among-latched}
use Rattle.tia_chip.proofs.QuietAges.{alike-three}
use Rattle.tia_chip.proofs.ShownLemmas.{LatchNothing, begun-shown}
use Rattle.tia_chip.specs.Ball.{ball_after_step, enable_of, is_ball_lit}
use Rattle.tia_chip.specs.Bits.{has_bit}
use Rattle.tia_chip.specs.Calm.{IsCalmInPicture}
use Rattle.tia_chip.specs.Clock.{after_clock, at_pixel}
use Rattle.tia_chip.specs.Missile.{is_locked, is_missile_lit, missile_after_step}
use Rattle.tia_chip.specs.Objects.{lit_objects}
use Rattle.tia_chip.specs.Counter.{begins_copy, next_counter}
use Rattle.tia_chip.specs.Player.{copy_after_step, counts_for_change, graphic_of, is_drawn_at, looked_at_player, player_after_step, shows_one}
use Rattle.tia_chip.specs.Playfield.{playfield_bit, playfield_index}
use Rattle.tia_chip.specs.Private.Lines.{IsLatched, lit_somewhere, shown_mirrored, shown_playfield, with_objects}
use Rattle.tia_chip.specs.declared.ball.Ball.{Ball}
use Rattle.tia_chip.specs.declared.missile.Missile.{Missile}
use Rattle.tia_chip.specs.declared.objects.Objects.{Objects}
use Rattle.tia_chip.specs.Quiet.{counter_after, player_copy_at, quiet_player_after}
use Rattle.tia_chip.specs.declared.player.Player.{Player}
use Rattle.tia_chip.specs.declared.player.PlayerCopy.{PlayerCopy}
use Rattle.tia_chip.specs.declared.state.TiaState.{TiaState}

-- ---- what is lit at a pixel may be lit
needs : (b may : Bool) → (may ≡ false → b ≡ false) → b ≡ true → may ≡ true
needs b true h e = refl
needs b false h e = sym (h refl) ∙ e

dark-shows : (p : Player) (o : Option PlayerCopy) → graphic_of p ≡ 0 → shows_one p o ≡ false
dark-shows p None e = refl
dark-shows p (Some copy) e =
    let bit : ℕ = if has_bit p.refp 3 then copy.bit else 7 - copy.bit in
    and_right (is_drawn_at p.width copy.place) (has_bit (graphic_of p) bit) (ap (λ (g : ℕ). has_bit g bit) e ∙ bit-zero bit)

-- what a step of a player sees and keeps
abbrev Keeps : Player → Player → Type 0
Keeps p q = (q.seen ≡ shows_one p p.copy) × (graphic_of q ≡ graphic_of p)

stepped-keeps : (p : Player) → Keeps p (player_after_step p)
stepped-keeps p =
    let next = record (looked_at_player p) { counter = next_counter p.counter; copy = copy_after_step p } in
    cond_both (counts_for_change p) _ _ (Keeps p) (λ e. cond_both (next.change == 1) _ _ (Keeps p) (λ f. (refl, refl)) (λ f. (refl, refl))) (λ e. (refl, refl))

dark-seen : (n : ℕ) (p : Player) → graphic_of p ≡ 0 → (iterate player_after_step (suc n) p).seen ≡ false
dark-seen zero p e = (stepped-keeps p).0 ∙ dark-shows p p.copy e
dark-seen (suc n) p e = dark-seen n (player_after_step p) ((stepped-keeps p).1 ∙ e)

player-needs : (n : ℕ) (p : Player) → (iterate player_after_step (suc n) p).seen ≡ true → not (graphic_of p == 0) ≡ true
player-needs n p =
    needs (iterate player_after_step (suc n) p).seen (not (graphic_of p == 0)) (λ z. dark-seen n p (let zero : graphic_of p ≡ 0 = grind (arith, nat_tests) in zero))

kept-enam : (n nusiz clock : ℕ) (m : Missile) → (iterate (missile_after_step nusiz clock) n m).enam ≡ m.enam
kept-enam zero nusiz clock m = refl
kept-enam (suc n) nusiz clock m = kept-enam n nusiz clock (missile_after_step nusiz clock m)

missile-needs : (n nusiz clock : ℕ) (m : Missile) → is_missile_lit (iterate (missile_after_step nusiz clock) n m) ≡ true → has_bit m.enam 1 ≡ true
missile-needs n nusiz clock m e =
    let o = iterate (missile_after_step nusiz clock) n m in
    ap (λ (enam : ℕ). has_bit enam 1) (sym (kept-enam n nusiz clock m))
    ∙ (and_parts o.seen (has_bit o.enam 1) (and_parts (o.seen && has_bit o.enam 1) (not (is_locked o)) e).0).1

stepped-enable : (ctrlpf : ℕ) (b : Ball) → enable_of (ball_after_step ctrlpf false b) ≡ enable_of b
stepped-enable ctrlpf b = cond_both (begins_copy 0 b.counter) _ _ (λ (c : Ball). enable_of c ≡ enable_of b) (λ e. refl) (λ e. refl)

kept-enable : (n ctrlpf : ℕ) (b : Ball) → enable_of (iterate (ball_after_step ctrlpf false) n b) ≡ enable_of b
kept-enable zero ctrlpf b = refl
kept-enable (suc n) ctrlpf b = kept-enable n ctrlpf (ball_after_step ctrlpf false b) ∙ stepped-enable ctrlpf b

ball-needs : (n ctrlpf : ℕ) (b : Ball) → is_ball_lit (iterate (ball_after_step ctrlpf false) n b) ≡ true → has_bit (enable_of b) 1 ≡ true
ball-needs n ctrlpf b e =
    let o = iterate (ball_after_step ctrlpf false) n b in
    ap (λ (enable : ℕ). has_bit enable 1) (sym (kept-enable n ctrlpf b)) ∙ (and_parts o.seen (has_bit (enable_of o) 1) e).1

none-at : (i : ℕ) → playfield_bit 0 0 0 i ≡ false
none-at i =
    cond_both (nat_lt i 4) _ _ (λ (b : Bool). b ≡ false) (λ e. bit-zero (4 + i))
    (λ e. cond_both (nat_lt i 12) _ _ (λ (b : Bool). b ≡ false) (λ f. bit-zero (11 - i)) (λ f. bit-zero (i - 12)))

field-dark : (t : TiaState) (first x : ℕ) → (lit_somewhere t).playfield ≡ false → shown_playfield t first x ≡ false
field-dark t first x e =
    let taken : t.playfield ≡ false = grind (arith, nat_tests) in
    let pf0 : t.pf0 ≡ 0 = grind (arith, nat_tests) in
    let pf1 : t.pf1 ≡ 0 = grind (arith, nat_tests) in
    let pf2 : t.pf2 ≡ 0 = grind (arith, nat_tests) in
    let start : ℕ = x - x % 4 in
    let i = playfield_index (shown_mirrored t first start) start in
    cond_both (nat_lt start first) _ _ (λ (b : Bool). b ≡ false) (λ f. taken)
    (λ f. alike-three (λ (a b c : ℕ). playfield_bit a b c i) t.pf0 0 t.pf1 0 t.pf2 0 pf0 pf1 pf2 ∙ none-at i)

pub latched-latch_nothing : (n : ℕ) (t : TiaState) → IsCalmInPicture t → t.clock + n ≤ 228 → IsLatched t (lit_somewhere t) → LatchNothing n t
latched-latch_nothing n t h m latched = λ k l.
    let less : t.clock + k < 228 = omega arith in
    let o = lit_objects (at_pixel (iterate after_clock k t)) in
    let all = lit_somewhere t in
    let lit = lit-on t k h less in
    let field : o.playfield ≡ shown_playfield t (t.clock - 68) (t.clock - 68 + k) = ap (λ (x : Objects). x.playfield) lit ∙ (begun-shown k t h less).0 in
    let among : IsAmong o all = record {
      player0 = λ e. player-needs k t.player0 (sym (ap (λ (x : Objects). x.player0) lit) ∙ e);
      player1 = λ e. player-needs k t.player1 (sym (ap (λ (x : Objects). x.player1) lit) ∙ e);
      missile0 = λ e. missile-needs (suc k) t.player0.nusiz t.clock t.missile0 (sym (ap (λ (x : Objects). x.missile0) lit) ∙ e);
      missile1 = λ e. missile-needs (suc k) t.player1.nusiz t.clock t.missile1 (sym (ap (λ (x : Objects). x.missile1) lit) ∙ e);
      ball = λ e. ball-needs (suc k) t.ctrlpf t.ball (sym (ap (λ (x : Objects). x.ball) lit) ∙ e);
      playfield = λ e. needs o.playfield all.playfield (λ z. field ∙ field-dark t (t.clock - 68) (t.clock - 68 + k) z) e;
    } in
    among-latched t.collisions (has_bit t.vblank 1) o all among latched

-- ---- steps, after which what was seen is forgotten
pub player-forgotten : (n : ℕ) (p : Player) → 1 ≤ n
    → record p { counter = counter_after n p.counter; copy = player_copy_at p (counter_after n p.counter); seen = false } ≡ record (quiet_player_after n p) { seen = false }
player-forgotten zero p s = absurd (omega arith)
player-forgotten (suc n) p s = refl

pub objects-alike : (t : TiaState) (p p' q q' : Player) (m m' n n' : Missile) (b b' : Ball) → p ≡ p' → q ≡ q' → m ≡ m' → n ≡ n' → b ≡ b'
    → with_objects t p q m n b ≡ with_objects t p' q' m' n' b'
objects-alike t p p' q q' m m' n n' b b' e f g h i = cc
