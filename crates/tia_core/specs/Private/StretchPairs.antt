-- Which pairs of objects meet in a stretch of a line. This project's own.
use Rattle.std.specs.Prelude.{◌≡◌, ◌<◌, ℕ, ◌+◌, ◌*◌, ◌&&◌, Bool, List, [], ◌∷◌, bit_or}
use Rattle.tia_core.specs.Collision.{pairs_of}
use Rattle.tia_core.specs.Mask.{any_from}
use Rattle.tia_core.specs.Objects.{objects_at}
use Rattle.tia_core.specs.declared.fields.TiaFields.{TiaFields}
use Rattle.tia_core.specs.declared.objects.Objects.{Objects}
use Rattle.tia_core.specs.Private.ObjectSets.{bl, m0, m1, one, p0, p1, pf}

-- no two objects meet on a line
abbrev pub AreApart : TiaFields → Type 0
AreApart t = (x : ℕ) → x < 160 → pairs_of (objects_at t x) ≡ 0

-- whatever meets on a line is latched
abbrev pub IsIdle : TiaFields → Type 0
IsIdle t = (x : ℕ) → x < 160 → bit_or t.collisions (pairs_of (objects_at t x)) ≡ t.collisions

-- whether two objects meet within k pixels from x
abbrev pub meet_within : TiaFields → (Objects → Bool) → (Objects → Bool) → ℕ → ℕ → Bool
meet_within t a b x k = any_from (λ y. a (objects_at t y) && b (objects_at t y)) x k

-- the fifteen pairs over k pixels from x
abbrev pub stretch_pairs : TiaFields → ℕ → ℕ → List Bool
stretch_pairs t x k =
    meet_within t m0 p1 x k ∷ meet_within t m0 p0 x k ∷ meet_within t m1 p0 x k ∷ meet_within t m1 p1 x k
    ∷ meet_within t p0 pf x k ∷ meet_within t p0 bl x k ∷ meet_within t p1 pf x k ∷ meet_within t p1 bl x k
    ∷ meet_within t m0 pf x k ∷ meet_within t m0 bl x k ∷ meet_within t m1 pf x k ∷ meet_within t m1 bl x k
    ∷ meet_within t bl pf x k ∷ meet_within t p0 p1 x k ∷ meet_within t m0 m1 x k ∷ []

-- their collision bits by groups: those of missile 0, and of each next object those without an
-- object that had its group before
abbrev pub pairs_of_m0 : TiaFields → ℕ → ℕ → ℕ
pairs_of_m0 t x k =
    16384 * one (meet_within t m0 p1 x k) + 8192 * one (meet_within t m0 p0 x k) + 64 * one (meet_within t m0 pf x k)
    + 32 * one (meet_within t m0 bl x k) + one (meet_within t m0 m1 x k)

abbrev pub pairs_of_m1 : TiaFields → ℕ → ℕ → ℕ
pairs_of_m1 t x k =
    4096 * one (meet_within t m1 p0 x k) + 2048 * one (meet_within t m1 p1 x k) + 16 * one (meet_within t m1 pf x k)
    + 8 * one (meet_within t m1 bl x k)

abbrev pub pairs_of_p0 : TiaFields → ℕ → ℕ → ℕ
pairs_of_p0 t x k =
    1024 * one (meet_within t p0 pf x k) + 512 * one (meet_within t p0 bl x k) + 2 * one (meet_within t p0 p1 x k)

abbrev pub pairs_of_p1 : TiaFields → ℕ → ℕ → ℕ
pairs_of_p1 t x k = 256 * one (meet_within t p1 pf x k) + 128 * one (meet_within t p1 bl x k)

abbrev pub pairs_of_bl : TiaFields → ℕ → ℕ → ℕ
pairs_of_bl t x k = 4 * one (meet_within t bl pf x k)
