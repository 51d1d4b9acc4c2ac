-- Masks that fit the numbers of a TIA go on to fit them.
use Rattle.std.proofs.Common.{◌≡◌, ℕ, ◌+◌, ◌-◌, ◌%◌, ◌<◌, ◌≤◌, ◌&&◌, ◌||◌, not, if◌then◌else◌, nat_le, nat_lt}
use Rattle.std.proofs.Common.{Bool, true, false, List, refl, sym, ap}
use Rattle.std.proofs.Common.{◌∙◌}
use Rattle.std.proofs.lemmas.Bool.{or_parts}
use Rattle.tia_core.specs.Bits.{has_bit}
use Rattle.tia_core.specs.Coverage.{distance_of, missile_covers}
use Rattle.tia_core.specs.Mask.{covers}
use Rattle.tia_core.specs.Objects.{objects_at, size_of}
use Rattle.tia_core.specs.Private.ObjectSets.{all_but_playfield, bl, m0, m1, numbered, p0, p1, pf}
use Rattle.tia_core.specs.Private.ObjectSets.{set_number, visible_objects, with_objects}
use Rattle.tia_core.specs.Private.ObjectMasks.{objects_in, placed, AreShown, IsMaskOf, IsPatternOf}
use Rattle.tia_core.specs.Private.ObjectMasks.{IsWindowOf, MasksFit}
use Rattle.tia_core.specs.Private.MaskChanges.{reshaped_by, touched_by, with_change, with_shapes}
use Rattle.tia_core.specs.Private.StretchPairs.{meet_within, AreApart}
use Rattle.tia_core.specs.declared.fields.TiaFields.{TiaFields}
use Rattle.tia_core.specs.declared.masks.Masks.{Masks}
use Rattle.tia_core.specs.declared.objects.Objects.{Objects}
use Rattle.tia_core.specs.declared.write.Changed.{Changed}
use Rattle.tia_core.specs.declared.write.Changed.TheVariants.{Nothing, Places, Shapes}
use Rattle.tia_core.proofs.MaskWordLemmas.{bit-zero, meets-is}

-- the masks stay where only the latches, the beam's place and the comb change
pub fit-placed : (t : TiaFields) (m : Masks) (c h d : ℕ) → MasksFit t m → MasksFit (record t { collisions = c; clock = h; comb = d }) m
unfolding objects_at
fit-placed t m c h d f = assumption

pub fit-latched : (t : TiaFields) (m : Masks) (l : ℕ) → MasksFit t m → MasksFit (record t { latches = l }) m
unfolding objects_at
fit-latched t m l f = assumption

-- ---- a write of a register
-- objects that a change doesn't touch cover the same pixels, and those that it doesn't reshape do
-- wherever they stand
abbrev Touched : TiaFields → TiaFields → Changed → Type 0
Touched t u c = (x : ℕ) → objects_at u x ≡ with_objects (touched_by c) (objects_at u x) (objects_at t x)

abbrev Reshaped : TiaFields → TiaFields → Changed → Type 0
Reshaped t u c = (p q m n b x : ℕ) → objects_at (placed u p q m n b) x
    ≡ with_objects (reshaped_by c) (objects_at (placed u p q m n b) x) (objects_at (placed t p q m n b) x)

-- an object that was not touched is covered as before
mask-kept : (t u : TiaFields) (o : Objects) (object : Objects → Bool) (mask : List Bool) (stale : Bool)
    → ((new old : Objects) → object o ≡ false → object (with_objects o new old) ≡ object old)
    → ((x : ℕ) → objects_at u x ≡ with_objects o (objects_at u x) (objects_at t x))
    → (stale ≡ false → IsMaskOf t object mask) → (stale || object o) ≡ false → IsMaskOf u object mask
mask-kept t u o object mask stale picks same fit e = λ x h.
    let parts = or_parts stale (object o) e in
    fit parts.0 x h ∙ sym (ap object (same x) ∙ picks (objects_at u x) (objects_at t x) parts.1)

mask-same : (t u : TiaFields) (object : Objects → Bool) (mask : List Bool) (stale : Bool)
    → ((x : ℕ) → object (objects_at u x) ≡ object (objects_at t x)) → (stale ≡ false → IsMaskOf t object mask)
    → stale ≡ false → IsMaskOf u object mask
mask-same t u object mask stale same fit e = λ x h. fit e x h ∙ sym (same x)

-- and so is one that was not reshaped, wherever it stands
pattern-kept : (t u : TiaFields) (o : Objects) (object : Objects → Bool) (pattern : List Bool) (reshaped : Bool)
    → ((new old : Objects) → object o ≡ false → object (with_objects o new old) ≡ object old)
    → ((p q m n b x : ℕ) → objects_at (placed u p q m n b) x
    ≡ with_objects o (objects_at (placed u p q m n b) x) (objects_at (placed t p q m n b) x))
    → (reshaped ≡ false → IsPatternOf t object pattern) → (reshaped || object o) ≡ false → IsPatternOf u object pattern
pattern-kept t u o object pattern reshaped picks same fit e = λ x p h.
    let parts = or_parts reshaped (object o) e in
    fit parts.0 x p h ∙ sym (ap object (same p p p p p x) ∙ picks (objects_at (placed u p p p p p) x) (objects_at (placed t p p p p p) x) parts.1)

pattern-same : (t u : TiaFields) (object : Objects → Bool) (pattern : List Bool) (reshaped : Bool)
    → ((p q m n b x : ℕ) → objects_at (placed u p q m n b) x ≡ objects_at (placed t p q m n b) x)
    → (reshaped ≡ false → IsPatternOf t object pattern) → reshaped ≡ false → IsPatternOf u object pattern
pattern-same t u object pattern reshaped same fit e = λ x p h. fit e x p h ∙ sym (ap object (same p p p p p x))

moved-mask : (u : TiaFields) (object : Objects → Bool) (mask : List Bool) (stale : Bool) → (stale || true) ≡ false → IsMaskOf u object mask
moved-mask u object mask true e = cc
moved-mask u object mask false e = cc

unknown-apart : (u : TiaFields) → false ≡ true → AreApart u
unknown-apart u e = cc

-- masks and patterns fit once the objects whose shapes may be others are marked
fit-shaped : (t u : TiaFields) (m : Masks) (n v : ℕ) → Touched t u (Shapes n) → Reshaped t u (Shapes n)
    → v ≡ set_number (visible_objects u) → MasksFit t m → MasksFit u (record (with_shapes m (numbered n)) { visible = v })
fit-shaped t u m n v same wherever visible f = let o = numbered n in record {
  player0 = mask-kept t u o p0 m.player0 m.stale.player0 (λ new old e. rw e refl) same f.player0;
  player1 = mask-kept t u o p1 m.player1 m.stale.player1 (λ new old e. rw e refl) same f.player1;
  missile0 = mask-kept t u o m0 m.missile0 m.stale.missile0 (λ new old e. rw e refl) same f.missile0;
  missile1 = mask-kept t u o m1 m.missile1 m.stale.missile1 (λ new old e. rw e refl) same f.missile1;
  ball = mask-kept t u o bl m.ball m.stale.ball (λ new old e. rw e refl) same f.ball;
  playfield = mask-kept t u o pf m.playfield m.stale.playfield (λ new old e. rw e refl) same f.playfield;
  pattern_p0 = pattern-kept t u o p0 m.patterns.player0 m.reshaped.player0 (λ new old e. rw e refl) wherever f.pattern_p0;
  pattern_p1 = pattern-kept t u o p1 m.patterns.player1 m.reshaped.player1 (λ new old e. rw e refl) wherever f.pattern_p1;
  pattern_m0 = pattern-kept t u o m0 m.patterns.missile0 m.reshaped.missile0 (λ new old e. rw e refl) wherever f.pattern_m0;
  pattern_m1 = pattern-kept t u o m1 m.patterns.missile1 m.reshaped.missile1 (λ new old e. rw e refl) wherever f.pattern_m1;
  pattern_bl = pattern-kept t u o bl m.patterns.ball m.reshaped.ball (λ new old e. rw e refl) wherever f.pattern_bl;
  pattern_pf = mask-kept t u o pf m.playfield m.reshaped.playfield (λ new old e. rw e refl) same f.pattern_pf;
  none_reshaped = λ e. cc;
  visible = visible;
  apart = unknown-apart u;
}

-- a write leaves masks and patterns that fit, once what it may change is marked, and which may be visible
pub fit-marked : (t u : TiaFields) (m : Masks) (c : Changed) (v : ℕ) → Touched t u c → Reshaped t u c
    → v ≡ set_number (visible_objects u) → MasksFit t m → MasksFit u (record (with_change m c) { visible = v })
fit-marked t u m Nothing v same wherever visible f = record {
  player0 = mask-same t u p0 m.player0 m.stale.player0 (λ x. ap p0 (same x)) f.player0;
  player1 = mask-same t u p1 m.player1 m.stale.player1 (λ x. ap p1 (same x)) f.player1;
  missile0 = mask-same t u m0 m.missile0 m.stale.missile0 (λ x. ap m0 (same x)) f.missile0;
  missile1 = mask-same t u m1 m.missile1 m.stale.missile1 (λ x. ap m1 (same x)) f.missile1;
  ball = mask-same t u bl m.ball m.stale.ball (λ x. ap bl (same x)) f.ball;
  playfield = mask-same t u pf m.playfield m.stale.playfield (λ x. ap pf (same x)) f.playfield;
  pattern_p0 = pattern-same t u p0 m.patterns.player0 m.reshaped.player0 wherever f.pattern_p0;
  pattern_p1 = pattern-same t u p1 m.patterns.player1 m.reshaped.player1 wherever f.pattern_p1;
  pattern_m0 = pattern-same t u m0 m.patterns.missile0 m.reshaped.missile0 wherever f.pattern_m0;
  pattern_m1 = pattern-same t u m1 m.patterns.missile1 m.reshaped.missile1 wherever f.pattern_m1;
  pattern_bl = pattern-same t u bl m.patterns.ball m.reshaped.ball wherever f.pattern_bl;
  pattern_pf = mask-same t u pf m.playfield m.reshaped.playfield (λ x. ap pf (same x)) f.pattern_pf;
  none_reshaped = f.none_reshaped;
  visible = visible;
  apart = λ e x h. rw (same x) (f.apart e x h);
}
fit-marked t u m Places v same wherever visible f = record {
  player0 = moved-mask u p0 m.player0 m.stale.player0;
  player1 = moved-mask u p1 m.player1 m.stale.player1;
  missile0 = moved-mask u m0 m.missile0 m.stale.missile0;
  missile1 = moved-mask u m1 m.missile1 m.stale.missile1;
  ball = moved-mask u bl m.ball m.stale.ball;
  playfield = mask-kept t u all_but_playfield pf m.playfield m.stale.playfield (λ new old e. refl) same f.playfield;
  pattern_p0 = pattern-same t u p0 m.patterns.player0 m.reshaped.player0 wherever f.pattern_p0;
  pattern_p1 = pattern-same t u p1 m.patterns.player1 m.reshaped.player1 wherever f.pattern_p1;
  pattern_m0 = pattern-same t u m0 m.patterns.missile0 m.reshaped.missile0 wherever f.pattern_m0;
  pattern_m1 = pattern-same t u m1 m.patterns.missile1 m.reshaped.missile1 wherever f.pattern_m1;
  pattern_bl = pattern-same t u bl m.patterns.ball m.reshaped.ball wherever f.pattern_bl;
  pattern_pf = mask-same t u pf m.playfield m.reshaped.playfield (λ x. ap pf (same x)) f.pattern_pf;
  none_reshaped = f.none_reshaped;
  visible = visible;
  apart = unknown-apart u;
}
fit-marked t u m (Shapes n) v same wherever visible f = fit-shaped t u m n v same wherever visible f

-- ---- windows by patterns
-- a bit of the window of a missile that may be locked
unlocked-bit : (window k : ℕ) (locked enabled covered : Bool) → has_bit window k ≡ (enabled && true && covered)
    → has_bit (if locked then 0 else window) k ≡ (enabled && not locked && covered)
unlocked-bit window k true true covered shows = bit-zero k
unlocked-bit window k true false covered shows = bit-zero k
unlocked-bit window k false enabled covered shows = shows

module _ (t : TiaFields) (first : ℕ) (pattern : List Bool) (window : ℕ) where
  abbrev Shows : ℕ → Type 0
  Shows position = (k : ℕ) → k < 32 → has_bit window k ≡ covers pattern (distance_of (first + k) position 0)

  pub window-p0 : t.position_p0 < 160 → IsPatternOf t p0 pattern → Shows t.position_p0 → IsWindowOf t p0 first window
  unfolding objects_at
  window-p0 h fit shows = λ k lt most. shows k lt ∙ fit (first + k) t.position_p0 h

  pub window-p1 : t.position_p1 < 160 → IsPatternOf t p1 pattern → Shows t.position_p1 → IsWindowOf t p1 first window
  unfolding objects_at
  window-p1 h fit shows = λ k lt most. shows k lt ∙ fit (first + k) t.position_p1 h

  pub window-m0 : t.position_m0 < 160 → IsPatternOf t m0 pattern → Shows t.position_m0
      → IsWindowOf t m0 first (if has_bit t.resmp0 1 then 0 else window)
  unfolding objects_at
  window-m0 h fit shows = λ k lt most. unlocked-bit window k (has_bit t.resmp0 1) (has_bit t.enam0 1)
      (missile_covers (t.nusiz0 % 8) (size_of t.nusiz0) t.position_m0 (first + k)) (shows k lt ∙ fit (first + k) t.position_m0 h)

  pub window-m1 : t.position_m1 < 160 → IsPatternOf t m1 pattern → Shows t.position_m1
      → IsWindowOf t m1 first (if has_bit t.resmp1 1 then 0 else window)
  unfolding objects_at
  window-m1 h fit shows = λ k lt most. unlocked-bit window k (has_bit t.resmp1 1) (has_bit t.enam1 1)
      (missile_covers (t.nusiz1 % 8) (size_of t.nusiz1) t.position_m1 (first + k)) (shows k lt ∙ fit (first + k) t.position_m1 h)

  pub window-bl : t.position_bl < 160 → IsPatternOf t bl pattern → Shows t.position_bl → IsWindowOf t bl first window
  unfolding objects_at
  window-bl h fit shows = λ k lt most. shows k lt ∙ fit (first + k) t.position_bl h

-- ---- pairs of masks
-- whether two masks meet within a stretch is whether their objects do
pub met-is : (t : TiaFields) (m : Masks) (w : List Bool) (from to : ℕ) → AreShown t m → to ≤ 160
    → ((x : ℕ) → x < 160 → covers w x ≡ (nat_le from x && nat_lt x to)) → (a b : Objects → Bool) (result : Bool)
    → (result ≡ true → (x : ℕ) × (x < 160) × ((a (objects_in m x) && b (objects_in m x) && covers w x) ≡ true))
    → (result ≡ false → (x : ℕ) → x < 160 → (a (objects_in m x) && b (objects_in m x) && covers w x) ≡ false)
    → result ≡ meet_within t a b from (to - from)
met-is t m w from to shown most within a b result some none =
    meets-is result (λ x. a (objects_at t x) && b (objects_at t x)) w from to most within
    (λ yes. let (x, h, e) = some yes in (x, h, rw (shown x h) at e)) (λ no x h. rw (← shown x h) (none no x h))
