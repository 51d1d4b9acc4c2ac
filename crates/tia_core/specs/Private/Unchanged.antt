-- What clocks leave of a TIA's numbers. This project's own.
use Rattle.std.specs.Prelude.{ℕ}
use Rattle.tia_core.specs.declared.fields.TiaFields.{TiaFields}

-- The numbers of a TIA whose beam went on: nothing else of them changes.
abbrev pub after_beam : TiaFields → ℕ → ℕ → ℕ → TiaFields
after_beam t collisions clock comb = record t { collisions = collisions; clock = clock; comb = comb }
