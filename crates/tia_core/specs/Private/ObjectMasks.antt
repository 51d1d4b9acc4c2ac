-- What the masks, windows and patterns of a line are to say: which pixels each object covers. This
-- project's own.
use Rattle.std.specs.Prelude.{◌≡◌, ◌<◌, ℕ, ◌+◌, Bool, true, false, List}
use Rattle.tia_core.specs.Bits.{has_bit}
use Rattle.tia_core.specs.Coverage.{distance_of}
use Rattle.tia_core.specs.Mask.{covers}
use Rattle.tia_core.specs.Objects.{objects_at}
use Rattle.tia_core.specs.declared.fields.TiaFields.{TiaFields}
use Rattle.tia_core.specs.declared.masks.Masks.{Masks}
use Rattle.tia_core.specs.declared.objects.Objects.{Objects}
use Rattle.tia_core.specs.declared.window.Window.{Window}
use Rattle.tia_core.specs.Private.StretchPairs.{AreApart}
use Rattle.tia_core.specs.Private.ObjectSets.{bl, m0, m1, no_objects, p0, p1, pf, set_number}
use Rattle.tia_core.specs.Private.ObjectSets.{visible_objects}

-- a mask is this object's
abbrev pub IsMaskOf : TiaFields → (Objects → Bool) → List Bool → Type 0
IsMaskOf t object mask = (x : ℕ) → x < 160 → covers mask x ≡ object (objects_at t x)

-- bit k of a window is that of the k-th pixel from `first` on, of 32 and up to the line's end
abbrev pub IsWindowOf : TiaFields → (Objects → Bool) → ℕ → ℕ → Type 0
IsWindowOf t object first window = (k : ℕ) → k < 32 → first + k < 160 → has_bit window k ≡ object (objects_at t (first + k))

-- each object's
pub record AreInWindow (t : TiaFields) (first : ℕ) (w : Window) : Type 0 where
  pub player0 : IsWindowOf t p0 first w.player0
  pub player1 : IsWindowOf t p1 first w.player1
  pub missile0 : IsWindowOf t m0 first w.missile0
  pub missile1 : IsWindowOf t m1 first w.missile1
  pub ball : IsWindowOf t bl first w.ball
  pub playfield : IsWindowOf t pf first w.playfield

-- the numbers with the five movable objects at these pixels, and no missile locked to its player
abbrev pub placed : TiaFields → ℕ → ℕ → ℕ → ℕ → ℕ → TiaFields
placed t a b c d e = record t {
  position_p0 = a;
  position_p1 = b;
  position_m0 = c;
  position_m1 = d;
  position_bl = e;
  resmp0 = 0;
  resmp1 = 0;
}

-- a pattern is this object's, wherever it stands, and as if it were not locked
abbrev pub IsPatternOf : TiaFields → (Objects → Bool) → List Bool → Type 0
IsPatternOf t object pattern = (x p : ℕ) → p < 160 → covers pattern (distance_of x p 0) ≡ object (objects_at (placed t p p p p p) x)

-- each mask and pattern that isn't to be made anew is its object's
pub record MasksFit (t : TiaFields) (m : Masks) : Type 0 where
  pub player0 : m.stale.player0 ≡ false → IsMaskOf t p0 m.player0
  pub player1 : m.stale.player1 ≡ false → IsMaskOf t p1 m.player1
  pub missile0 : m.stale.missile0 ≡ false → IsMaskOf t m0 m.missile0
  pub missile1 : m.stale.missile1 ≡ false → IsMaskOf t m1 m.missile1
  pub ball : m.stale.ball ≡ false → IsMaskOf t bl m.ball
  pub playfield : m.stale.playfield ≡ false → IsMaskOf t pf m.playfield
  pub pattern_p0 : m.reshaped.player0 ≡ false → IsPatternOf t p0 m.patterns.player0
  pub pattern_p1 : m.reshaped.player1 ≡ false → IsPatternOf t p1 m.patterns.player1
  pub pattern_m0 : m.reshaped.missile0 ≡ false → IsPatternOf t m0 m.patterns.missile0
  pub pattern_m1 : m.reshaped.missile1 ≡ false → IsPatternOf t m1 m.patterns.missile1
  pub pattern_bl : m.reshaped.ball ≡ false → IsPatternOf t bl m.patterns.ball
  pub pattern_pf : m.reshaped.playfield ≡ false → IsMaskOf t pf m.playfield
  pub none_reshaped : m.is_reshaped ≡ false → m.reshaped ≡ no_objects
  pub visible : m.visible ≡ set_number (visible_objects t)
  pub apart : m.are_apart ≡ true → AreApart t

-- the objects whose masks cover pixel x
abbrev pub objects_in : Masks → ℕ → Objects
objects_in m x = record {
  player0 = covers m.player0 x;
  player1 = covers m.player1 x;
  missile0 = covers m.missile0 x;
  missile1 = covers m.missile1 x;
  ball = covers m.ball x;
  playfield = covers m.playfield x;
}

-- the masks cover what the objects cover
abbrev pub AreShown : TiaFields → Masks → Type 0
AreShown t m = (x : ℕ) → x < 160 → objects_in m x ≡ objects_at t x
