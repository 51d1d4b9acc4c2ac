use Rattle.std.proofs.Common.{refl, false}
use Rattle.tia_core.specs.Objects.{objects_at}
use Rattle.tia_core.proofs.MotionLemmas.{unmoved-objects}
use Rattle.tia_core.proofs.write.write_hmove.Goals as goal

pub returns-clause-marked : goal.returns-clause-marked
unfolding objects_at
returns-clause-marked c = record {
  masks = refl;
  visible = c.requires.visible;
  touched = λ x.
      rw (
        c.moved_position-tia.ensures.value,
        c.moved_position-tia-2.ensures.value,
        c.moved_position-tia-3.ensures.value,
        c.moved_position-tia-4.ensures.value,
        c.moved_position-tia-5.ensures.value,
      ) (unmoved-objects c.args.tia.now false false 0 x c.requires.lawful c.if-tia-ne0.false);
  reshaped = λ p q m n b x. refl;
}
