-- The numbers of a TIA are lawful where they are part by part.
use Rattle.std.proofs.Common.{◌≡◌, ◌∙◌, Bool, ◌&&◌, List, ◌++◌, ap}
use Rattle.record_table.specs.Numbers.{Number, are_lawful}
use Rattle.record_table.proofs.TableLemmas.{are_lawful-append}
use Rattle.tia_chip.specs.Numbers.{colour_numbers, object_numbers, motion_numbers, counter_numbers}
use Rattle.tia_chip.specs.Numbers.{player_numbers, place_numbers, beam_numbers, size_numbers, tia_numbers}
use Rattle.tia_chip.specs.declared.state.TiaState.{TiaState}

module _ (t : TiaState) where
  with_part : (first part : List (Number TiaState)) (test : Bool) → are_lawful first t ≡ test
      → are_lawful (first ++ part) t ≡ (test && are_lawful part t)
  with_part first part test e = are_lawful-append first part t ∙ ap (λ (b : Bool). b && are_lawful part t) e

  of_eight : (a b c d e f g h : List (Number TiaState)) → are_lawful (a ++ b ++ c ++ d ++ e ++ f ++ g ++ h) t
      ≡ (are_lawful a t && are_lawful b t && are_lawful c t && are_lawful d t && are_lawful e t && are_lawful f t && are_lawful g t && are_lawful h t)
  of_eight a b c d e f g h =
      with_part (a ++ b ++ c ++ d ++ e ++ f ++ g) h _ (with_part (a ++ b ++ c ++ d ++ e ++ f) g _ (with_part (a ++ b ++ c ++ d ++ e) f _
      (with_part (a ++ b ++ c ++ d) e _ (with_part (a ++ b ++ c) d _ (with_part (a ++ b) c _ (are_lawful-append a b t))))))

  pub of_parts : are_lawful tia_numbers t
      ≡ (are_lawful colour_numbers t && are_lawful object_numbers t && are_lawful motion_numbers t && are_lawful counter_numbers t
      && are_lawful player_numbers t && are_lawful place_numbers t && are_lawful beam_numbers t && are_lawful size_numbers t)
  of_parts = of_eight colour_numbers object_numbers motion_numbers counter_numbers player_numbers place_numbers beam_numbers size_numbers
