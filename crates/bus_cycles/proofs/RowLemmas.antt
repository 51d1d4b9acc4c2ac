-- What is known of the row of an opcode.
use Rattle.std.proofs.Common.{◌≡◌, ℕ, ◌+◌, Bool, true, false, Option, Some, None, List, [], ◌∷◌, refl, subst}
use Rattle.std.specs.Prelude.{◌==◌, if◌then◌else◌}
use Rattle.std.specs.List.{list_all}
use Rattle.std.proofs.lemmas.Bool.{eqb-true, and_parts}
use Rattle.mos_cpu.specs.Opcodes.{Entry, entries, row_at, row_in, row_of}
use Rattle.mos_cpu.specs.declared.opcode_row.Row.{Row}
use Rattle.mos_cpu.specs.declared.mode.Mode.{Mode}
use Rattle.mos_cpu.specs.declared.mode.Mode.TheVariants.{Accumulator, Immediate}
use Rattle.bus_cycles.specs.Private.Found.{is_place, is_indexed, time_before, one_if}
use Rattle.bus_cycles.specs.Private.Kinds.{kind_of}
use Rattle.bus_cycles.specs.Private.Rows.{expected, IsExpected, is_same, is_expected}
use Rattle.bus_cycles.specs.declared.kind.Kind.TheVariants as kind

same : (a b : Bool) → is_same a b ≡ true → a ≡ b
same true true e = refl
same true false e = cc
same false true e = cc
same false false e = refl

is_expected-says : (e : Option (ℕ × Bool)) (row : Row) → is_expected e row ≡ true → IsExpected e row
is_expected-says (Some e) row h =
    let parts = and_parts (row.cycles == e.0) (is_same row.crossing e.1) h in
    (eqb-true _ _ parts.0, same _ _ parts.1)
is_expected-says None row h = cc

abbrev expected_row : Row → Option (ℕ × Bool)
expected_row row = expected (kind_of row.operation) row.mode

row_in-expected : (rows : List Entry) (opcode : ℕ) (row : Row)
    → list_all (λ entry. is_expected (expected_row (row_at entry)) (row_at entry)) rows ≡ true
    → ◌≡◌ {A = Option Row} (row_in rows opcode) (Some row) → IsExpected (expected_row row) row
row_in-expected [] opcode row e found = cc
row_in-expected (entry ∷ rows) opcode row e found = by (entry.0 == opcode) found (row_in-expected rows opcode row parts.1)
  where
    parts : (is_expected (expected_row (row_at entry)) (row_at entry) ≡ true)
        × (list_all (λ entry. is_expected (expected_row (row_at entry)) (row_at entry)) rows ≡ true)
    parts = and_parts _ _ e

    by : (t : Bool) → ◌≡◌ {A = Option Row} (if t then Some (row_at entry) else row_in rows opcode) (Some row)
        → (◌≡◌ {A = Option Row} (row_in rows opcode) (Some row) → IsExpected (expected_row row) row)
        → IsExpected (expected_row row) row
    by true here there =
        let same : row_at entry ≡ row = cc in
        subst (λ (row : Row). IsExpected (expected_row row) row) same
        (is_expected-says (expected_row (row_at entry)) (row_at entry) parts.0)
    by false here there = there here

-- Each row is as it is expected.
pub row_of-expected : (opcode : ℕ) (row : Row) → ◌≡◌ {A = Option Row} (row_of opcode) (Some row) → IsExpected (expected_row row) row
row_of-expected opcode row found = row_in-expected entries opcode row refl found

-- A row of operations that read, store or change a place in memory.
pub record IsPlaceRow (row : Row) (cycles : ℕ) (crossing : Bool) : Type 0 where
  pub place : is_place row.mode ≡ true
  pub cycles_are : row.cycles ≡ cycles
  pub crossing_is : row.crossing ≡ crossing

by_place : (row : Row) (b : Bool) (cycles : ℕ) (crossing : Bool) → is_place row.mode ≡ b
    → IsExpected (if b then Some (cycles, crossing) else None) row → IsPlaceRow row cycles crossing
by_place row true cycles crossing e h = record { place = e; cycles_are = h.0; crossing_is = h.1 }
by_place row false cycles crossing e h = absurd h

read-expected : (mode : Mode) → (mode ≡ Immediate → ⊥)
    → expected kind.Read mode ≡ (if is_place mode then Some (time_before mode + 1, is_indexed mode) else None)
read-expected Immediate h = absurd (h refl)
read-expected other h = refl

change-expected : (mode : Mode) → (mode ≡ Accumulator → ⊥)
    → expected kind.Change mode ≡ (if is_place mode then Some (time_before mode + one_if (is_indexed mode) + 3, false) else None)
change-expected Accumulator h = absurd (h refl)
change-expected other h = refl

module _ (opcode : ℕ) (row : Row) (known : ◌≡◌ {A = Option Row} (row_of opcode) (Some row)) where
  pub read-row : kind_of row.operation ≡ kind.Read → (row.mode ≡ Immediate → ⊥)
      → IsPlaceRow row (time_before row.mode + 1) (is_indexed row.mode)
  read-row is h = by_place row _ _ _ refl (rw (is, read-expected row.mode h) at (row_of-expected opcode row known))

  pub store-row : kind_of row.operation ≡ kind.Store
      → IsPlaceRow row (time_before row.mode + one_if (is_indexed row.mode) + 1) false
  store-row is = by_place row _ _ _ refl (rw is at (row_of-expected opcode row known))

  pub change-row : kind_of row.operation ≡ kind.Change → (row.mode ≡ Accumulator → ⊥)
      → IsPlaceRow row (time_before row.mode + one_if (is_indexed row.mode) + 3) false
  change-row is h = by_place row _ _ _ refl (rw (is, change-expected row.mode h) at (row_of-expected opcode row known))
