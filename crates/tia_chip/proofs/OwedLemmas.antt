-- A TIA that owes steps, and what it is once it has made them.
use Rattle.std.proofs.Common.{◌≡◌, ◌∙◌, ℕ, ◌+◌, ◌%◌, ◌≤◌, ◌==◌, Bool, true, false, ap, sym, subst, if◌then◌else◌}
use Rattle.std.specs.Fn.{iterate}
use Rattle.tia_chip.proofs.CalmClocks.{steps-any, still}
use Rattle.tia_chip.proofs.LatchedLines.{latched-latch_nothing, objects-alike}
use Rattle.tia_chip.proofs.LineLemmas.{picture-some}
use Rattle.tia_chip.proofs.OwedSteps.{ball-forgets, ball-kept, ball-overwrites, bare_ball, bare_missile, bare_player, missile-forgets, missile-kept, missile-overwrites}
use Rattle.tia_chip.proofs.OwedSteps.{owed-add, owed-forgets, owed-more, player-forgets, player-kept, player-overwrites}
use Rattle.tia_chip.proofs.RestLemmas.{leaves-some, stays-some}
use Rattle.tia_chip.proofs.ShownLemmas.{unlatched-some}
use Rattle.tia_chip.specs.Ball.{ball_after_step}
use Rattle.tia_chip.specs.Calm.{IsCalm, IsCalmInPicture, after_steps, blank_end}
use Rattle.tia_chip.specs.Clock.{after_clock, looked_at, without_seen}
use Rattle.tia_chip.specs.Missile.{missile_after_step}
use Rattle.tia_chip.specs.Motion.{any_moves}
use Rattle.tia_chip.specs.Player.{player_after_step}
use Rattle.tia_chip.specs.Private.Late.{written_of}
use Rattle.tia_chip.specs.Private.Lines.{IsAtRestInBlank, IsLatched, lit_somewhere, unlatched_line, with_beam, with_line, with_objects}
use Rattle.tia_chip.specs.Private.Owed.{after_owed, ball_seen, made_steps, missile_seen, player_seen}
use Rattle.tia_chip.specs.declared.line.Line.{Line}
use Rattle.tia_chip.specs.declared.objects.Objects.{Objects}
use Rattle.tia_chip.specs.declared.player.Player.{Player}
use Rattle.tia_chip.specs.declared.state.TiaState.{TiaState}

-- ---- what the steps keep
unfoldable pub bare : TiaState → TiaState
bare t = with_objects t (bare_player t.player0) (bare_player t.player1) (bare_missile t.missile0) (bare_missile t.missile1) (bare_ball t.ball)

pub bare-made : (n : ℕ) (looked : Bool) (t : TiaState) → bare (made_steps n looked t) ≡ bare t
unfolding bare
bare-made n looked t =
    let s = made_steps n looked t in
    objects-alike t (bare_player s.player0) (bare_player t.player0) (bare_player s.player1) (bare_player t.player1)
    (bare_missile s.missile0) (bare_missile t.missile0) (bare_missile s.missile1) (bare_missile t.missile1) (bare_ball s.ball) (bare_ball t.ball)
    (player-kept looked n t.player0) (player-kept looked n t.player1)
    (missile-kept t.player0.nusiz 0 looked n t.missile0) (missile-kept t.player1.nusiz 0 looked n t.missile1)
    (ball-kept t.ctrlpf looked n t.ball)

pub made-moves : (n : ℕ) (looked : Bool) (t : TiaState) → any_moves (made_steps n looked t) ≡ any_moves t
unfolding bare
made-moves n looked t = ap any_moves (bare-made n looked t)

pub made-written : (n : ℕ) (looked : Bool) (t : TiaState) → written_of (made_steps n looked t) ≡ written_of t
unfolding bare
made-written n looked t = ap written_of (bare-made n looked t)

made-lit : (n : ℕ) (looked : Bool) (t : TiaState) → lit_somewhere (made_steps n looked t) ≡ lit_somewhere t
unfolding bare
made-lit n looked t = ap lit_somewhere (bare-made n looked t)

made-calm : (n : ℕ) (looked : Bool) (t : TiaState) → IsCalm t → IsCalm (made_steps n looked t)
made-calm n looked t h = record { waiting = h.waiting; hmove = h.hmove; moves = made-moves n looked t ∙ h.moves; beam = h.beam }

pub made-picture : (n : ℕ) (looked : Bool) (t : TiaState) → IsCalmInPicture t → IsCalmInPicture (made_steps n looked t)
made-picture n looked t h = record { calm = made-calm n looked t h.calm; clock = h.clock; longer = h.longer }

pub made-rest : (n : ℕ) (looked : Bool) (t : TiaState) → IsAtRestInBlank t → IsAtRestInBlank (made_steps n looked t)
made-rest n looked t h = record {
  calm = made-calm n looked t h.calm;
  start = h.start;
  changed = h.changed;
  playfield = h.playfield;
  mirrored = h.mirrored;
}

made-latched : (n : ℕ) (looked : Bool) (t : TiaState) → IsLatched t (lit_somewhere t) → IsLatched (made_steps n looked t) (lit_somewhere (made_steps n looked t))
made-latched n looked t h = subst (λ (o : Objects). IsLatched t o) (sym (made-lit n looked t)) h

-- ---- no steps, and more of them
pub made-none : (n : ℕ) (looked : Bool) (t : TiaState) → n ≡ 0 → made_steps n looked t ≡ t
made-none n looked t e = ap (λ (k : ℕ). made_steps k looked t) e

pub made-add : (n k : ℕ) (t : TiaState) → made_steps k false (made_steps n false t) ≡ made_steps (n + k) false t
made-add n k t =
    let s = made_steps n false t in
    let u = made_steps k false s in
    let v = made_steps (n + k) false t in
    let nusiz0 : s.player0.nusiz ≡ t.player0.nusiz = ap (λ (p : Player). p.nusiz) (player-kept false n t.player0) in
    let nusiz1 : s.player1.nusiz ≡ t.player1.nusiz = ap (λ (p : Player). p.nusiz) (player-kept false n t.player1) in
    objects-alike t u.player0 v.player0 u.player1 v.player1 u.missile0 v.missile0 u.missile1 v.missile1 u.ball v.ball
    (owed-add player_after_step (player_seen false) n k t.player0 (player-overwrites false))
    (owed-add player_after_step (player_seen false) n k t.player1 (player-overwrites false))
    (ap (λ (z : ℕ). after_owed (missile_after_step z 0) (missile_seen false) k s.missile0) nusiz0
    ∙ owed-add (missile_after_step t.player0.nusiz 0) (missile_seen false) n k t.missile0 (missile-overwrites t.player0.nusiz 0 false))
    (ap (λ (z : ℕ). after_owed (missile_after_step z 0) (missile_seen false) k s.missile1) nusiz1
    ∙ owed-add (missile_after_step t.player1.nusiz 0) (missile_seen false) n k t.missile1 (missile-overwrites t.player1.nusiz 0 false))
    (owed-add (ball_after_step t.ctrlpf false) (ball_seen false) n k t.ball (ball-overwrites t.ctrlpf false))

-- ---- the blank
pub made-forgotten : (n : ℕ) (looked : Bool) (t : TiaState) → made_steps n false (without_seen t) ≡ without_seen (made_steps n looked t)
made-forgotten n looked t =
    let u = made_steps n false (without_seen t) in
    let v = without_seen (made_steps n looked t) in
    objects-alike t u.player0 v.player0 u.player1 v.player1 u.missile0 v.missile0 u.missile1 v.missile1 u.ball v.ball
    (owed-forgets player_after_step (player_seen looked) (player_seen false) n t.player0 (player-overwrites false) (player-forgets looked))
    (owed-forgets player_after_step (player_seen looked) (player_seen false) n t.player1 (player-overwrites false) (player-forgets looked))
    (owed-forgets (missile_after_step t.player0.nusiz 0) (missile_seen looked) (missile_seen false) n t.missile0 (missile-overwrites t.player0.nusiz 0 false) (missile-forgets looked))
    (owed-forgets (missile_after_step t.player1.nusiz 0) (missile_seen looked) (missile_seen false) n t.missile1 (missile-overwrites t.player1.nusiz 0 false) (missile-forgets looked))
    (owed-forgets (ball_after_step t.ctrlpf false) (ball_seen looked) (ball_seen false) n t.ball (ball-overwrites t.ctrlpf false) (ball-forgets looked))

pub blank-stays : (n k : ℕ) (looked : Bool) (t : TiaState) → 1 ≤ k → IsAtRestInBlank t → t.clock + k ≤ 68 → (t.clock + k == blank_end t) ≡ false
    → made_steps n looked (record t { clock = t.clock + k; beam = t.clock + k }) ≡ iterate after_clock k (made_steps n looked t)
blank-stays n k looked t s h l e = stays-some k (made_steps n looked t) s (made-rest n looked t h) l e

pub blank-leaves : (n k : ℕ) (looked : Bool) (t : TiaState) → 1 ≤ k → IsAtRestInBlank t → t.clock + k ≤ 68 → (t.clock + k == blank_end t) ≡ true
    → made_steps n false (without_seen (record t { clock = t.clock + k; beam = t.clock + k })) ≡ iterate after_clock k (made_steps n looked t)
blank-leaves n k looked t s h l e =
    made-forgotten n looked (record t { clock = t.clock + k; beam = t.clock + k }) ∙ leaves-some k (made_steps n looked t) s (made-rest n looked t h) l e

-- ---- the picture
-- a TIA with this line, whose beam has moved on
moved : Bool → ℕ → Line → TiaState → TiaState
moved is_over k l t = with_beam is_over k (with_line l t)

-- what its objects are
steps-made : (n k : ℕ) (looked is_over : Bool) (l : Line) (t : TiaState) → 1 ≤ k → any_moves t ≡ false
    → let s = after_steps k (made_steps n looked t) in
    with_objects (moved is_over k l t) (player_seen is_over s.player0) (player_seen is_over s.player1)
    (missile_seen is_over s.missile0) (missile_seen is_over s.missile1) (ball_seen is_over s.ball)
    ≡ made_steps (n + k) is_over (moved is_over k l t)
unfolding moved
steps-made n k looked is_over l t some h =
    let m = made_steps n looked t in
    let s = after_steps k m in
    let v = made_steps (n + k) is_over t in
    let motion = still m (made-moves n looked t ∙ h) in
    let nusiz0 : m.player0.nusiz ≡ t.player0.nusiz = ap (λ (p : Player). p.nusiz) (player-kept looked n t.player0) in
    let nusiz1 : m.player1.nusiz ≡ t.player1.nusiz = ap (λ (p : Player). p.nusiz) (player-kept looked n t.player1) in
    objects-alike (moved is_over k l t) (player_seen is_over s.player0) v.player0 (player_seen is_over s.player1) v.player1
    (missile_seen is_over s.missile0) v.missile0 (missile_seen is_over s.missile1) v.missile1 (ball_seen is_over s.ball) v.ball
    (owed-more player_after_step (player_seen looked) (player_seen is_over) n k t.player0 some (player-overwrites looked))
    (owed-more player_after_step (player_seen looked) (player_seen is_over) n k t.player1 some (player-overwrites looked))
    (ap (missile_seen is_over) (steps-any m.player0.nusiz t.player0.nusiz m.clock 0 m.missile0 k nusiz0 motion.missile0)
    ∙ owed-more (missile_after_step t.player0.nusiz 0) (missile_seen looked) (missile_seen is_over) n k t.missile0 some (missile-overwrites t.player0.nusiz 0 looked))
    (ap (missile_seen is_over) (steps-any m.player1.nusiz t.player1.nusiz m.clock 0 m.missile1 k nusiz1 motion.missile1)
    ∙ owed-more (missile_after_step t.player1.nusiz 0) (missile_seen looked) (missile_seen is_over) n k t.missile1 some (missile-overwrites t.player1.nusiz 0 looked))
    (owed-more (ball_after_step t.ctrlpf false) (ball_seen looked) (ball_seen is_over) n k t.ball some (ball-overwrites t.ctrlpf looked))

-- what becomes of what was seen
abbrev gone : Bool → ℕ → TiaState → TiaState
gone is_over k t =
    if is_over then record (looked_at t) { clock = 0; beam = 0; line = (t.line + 1) % 65536 } else record (without_seen t) { clock = t.clock + k; beam = t.clock + k }

made-gone : (n k : ℕ) (looked is_over : Bool) (l : Line) (t : TiaState) → 1 ≤ k → any_moves t ≡ false
    → gone is_over k (with_line l (after_steps k (made_steps n looked t))) ≡ made_steps (n + k) is_over (moved is_over k l t)
unfolding moved
made-gone n k looked true l t some h = steps-made n k looked true l t some h
made-gone n k looked false l t some h = steps-made n k looked false l t some h

pub latched-made : (n k : ℕ) (looked : Bool) (t : TiaState) → 1 ≤ k → IsCalmInPicture t → t.clock + k ≤ 228 → IsLatched t (lit_somewhere t)
    → made_steps (n + k) (t.clock + k == 228) (with_beam (t.clock + k == 228) k (with_line (unlatched_line k t) t)) ≡ iterate after_clock k (made_steps n looked t)
unfolding moved
latched-made n k looked t some h m latched =
    let s = made_steps n looked t in
    let calm = made-picture n looked t h in
    let none = latched-latch_nothing k s calm m (made-latched n looked t latched) in
    sym (made-gone n k looked (t.clock + k == 228) (unlatched_line k t) t some h.calm.moves)
    ∙ picture-some k s (unlatched_line k t) some calm m (unlatched-some k s some calm m none)
