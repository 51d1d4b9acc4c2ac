-- Which masks are marked when the numbers of a TIA change. This project's own.
use Rattle.std.specs.Prelude.{◌≡◌, ℕ, true, false}
use Rattle.tia_core.specs.Objects.{objects_at}
use Rattle.tia_core.specs.declared.fields.TiaFields.{TiaFields}
use Rattle.tia_core.specs.declared.masks.Masks.{Masks}
use Rattle.tia_core.specs.declared.objects.Objects.{Objects}
use Rattle.tia_core.specs.declared.write.Changed.{Changed}
use Rattle.tia_core.specs.declared.write.Changed.TheVariants.{Nothing, Places, Shapes}
use Rattle.tia_core.specs.Private.ObjectSets.{all_but_playfield, no_objects, numbered, set_number}
use Rattle.tia_core.specs.Private.ObjectSets.{union_of, visible_objects, with_objects}
use Rattle.tia_core.specs.Private.ObjectMasks.{placed}

-- the objects that may cover other pixels after a change
abbrev pub touched_by : Changed → Objects
touched_by Nothing = no_objects
touched_by Places = all_but_playfield
touched_by (Shapes n) = numbered n

-- the objects that may have another shape after a change
abbrev pub reshaped_by : Changed → Objects
reshaped_by Nothing = no_objects
reshaped_by Places = no_objects
reshaped_by (Shapes n) = numbered n

-- the masks once the shapes of objects have changed
abbrev pub with_shapes : Masks → Objects → Masks
with_shapes m o = record m {
  stale = union_of m.stale o;
  reshaped = union_of m.reshaped o;
  is_reshaped = true;
  are_apart = false;
}

-- the masks once objects have changed, but for which may be visible
abbrev pub with_change : Masks → Changed → Masks
with_change m Nothing = m
with_change m Places = record m { stale = union_of m.stale all_but_playfield; are_apart = false }
with_change m (Shapes n) = with_shapes m (numbered n)

-- the masks are marked by this change of the numbers: objects that it doesn't touch cover the same pixels,
-- and those that it doesn't reshape do wherever they stand
pub record IsMarked (t u : TiaFields) (m n : Masks) (c : Changed) : Type 0 where
  pub masks : n ≡ record (with_change m c) { visible = n.visible }
  pub visible : n.visible ≡ set_number (visible_objects u)
  pub touched : (x : ℕ) → objects_at u x ≡ with_objects (touched_by c) (objects_at u x) (objects_at t x)
  pub reshaped : (p q m n b x : ℕ) → objects_at (placed u p q m n b) x
      ≡ with_objects (reshaped_by c) (objects_at (placed u p q m n b) x) (objects_at (placed t p q m n b) x)
