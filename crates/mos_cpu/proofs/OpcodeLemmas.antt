-- The table of instructions.
use Rattle.std.proofs.Common.{◌≡◌, ◌≢◌, ℕ, zero, suc, ◌+◌, ◌*◌, ◌/◌, ◌%◌, ◌<◌, Bool, true, false, Option, Some, None, List, [], ◌∷◌}
use Rattle.std.proofs.Common.{refl, inl, inr, rules, arith}
use Rattle.std.specs.Prelude.{not, ◌==◌, ◌&&◌, ◌||◌, nat_le, IfSome, if◌then◌else◌}
use Rattle.std.specs.Prelude.{option_map, slice_get}
use Rattle.std.specs.List.{list_all}
use Rattle.std.proofs.lemmas.Bool.{cases_lt, eqb-true, and_parts}
use Rattle.std.proofs.lemmas.Bool.Decides.{nat_tests}
use Rattle.mos_cpu.specs.Accesses.{use_of}
use Rattle.mos_cpu.specs.OpcodeMatrix.{operations_in_order, modes_in_order}
use Rattle.mos_cpu.specs.Opcodes.{Entry, entries, row_at, row_in, row_of}
use Rattle.mos_cpu.specs.Operands.{takes_vector}
use Rattle.mos_cpu.specs.Timing.{least_of, most_cycles, IsTimed}
use Rattle.mos_cpu.specs.Private.OpcodeRuns.{has_low}
use Rattle.mos_cpu.specs.declared.mode.Mode.{Mode}
use Rattle.mos_cpu.specs.declared.mode.Mode.TheVariants.{Implied, Accumulator}
use Rattle.mos_cpu.specs.declared.opcode_row.Row.{Row}

-- An opcode isn't among those of some entries.
abbrev pub IsAbsent : List Entry → ℕ → Type 0
IsAbsent [] opcode = Unit {0}
IsAbsent (entry ∷ entries) opcode = (opcode ≢ entry.0) × IsAbsent entries opcode

pub row_in-absent : (entries : List Entry) (opcode : ℕ) → IsAbsent entries opcode → ◌≡◌ {A = Option Row} None (row_in entries opcode)
row_in-absent [] opcode absent = refl
row_in-absent (entry ∷ entries) opcode absent =
    let e : (entry.0 == opcode) ≡ false = search rules in
    rw e (row_in-absent entries opcode absent.1)

-- What a test of opcodes and rows says holds of the row of an opcode, if each entry passes it.
row_in-passes : (P : ℕ → Row → Type 0) (test : ℕ → Row → Bool) → ((opcode : ℕ) (row : Row) → test opcode row ≡ true → P opcode row)
    → (entries : List Entry) (opcode : ℕ) → list_all (λ entry. test entry.0 (row_at entry)) entries ≡ true
    → IfSome (row_in entries opcode) (P opcode)
row_in-passes P test says [] opcode e = tt
row_in-passes P test says (entry ∷ entries) opcode e = by (entry.0 == opcode) refl (row_in-passes P test says entries opcode parts.1)
  where
    parts : (test entry.0 (row_at entry) ≡ true) × (list_all (λ entry. test entry.0 (row_at entry)) entries ≡ true)
    parts = and_parts _ _ e

    by : (t : Bool) → (entry.0 == opcode) ≡ t → IfSome (row_in entries opcode) (P opcode)
        → IfSome (if t then Some (row_at entry) else row_in entries opcode) (P opcode)
    by true same there = rw (eqb-true _ _ same) at (says entry.0 (row_at entry) parts.0)
    by false other there = there

-- Whether a row is timed, as a test.
abbrev is_timed : Row → Bool
is_timed row = nat_le 2 row.cycles && nat_le (least_of (use_of row.operation)) row.cycles && nat_le (most_cycles row) 7

-- Each documented instruction takes 2 to 7 cycles, which have room for its accesses.
pub row_of-timed : (opcode : ℕ) → IfSome (row_of opcode) IsTimed
row_of-timed opcode =
    row_in-passes (λ opcode. IsTimed) (λ opcode. is_timed)
    (λ opcode row e. record { least = grind (arith, nat_tests); room = grind (arith, nat_tests); most = grind (arith, nat_tests) })
    entries opcode refl

-- Whether the operand of a row begins with the byte after the opcode.
abbrev pub names_low : Mode → Bool
names_low Implied = false
names_low Accumulator = false
names_low other = true

abbrev pub needs_low : Row → Bool
needs_low row = not (takes_vector row.operation) && names_low row.mode

-- It does if the bits of the opcode say so.
pub row_of-told : (opcode : ℕ) → IfSome (row_of opcode) (λ row. has_low opcode ≡ true → needs_low row ≡ true)
row_of-told opcode =
    row_in-passes (λ opcode row. has_low opcode ≡ true → needs_low row ≡ true) (λ opcode row. not (has_low opcode) || needs_low row)
    (λ opcode row e low. rw low at e) entries opcode refl

-- ---- the opcodes that are 1 modulo 4
-- What a function gives below a number.
abbrev values_below : {A : Type 0} → (ℕ → A) → ℕ → List A
values_below f zero = []
values_below f (suc n) = f n ∷ values_below f n

values_below-at : {A : Type 0} (f g : ℕ → A) (n k : ℕ) → values_below f n ≡ values_below g n → k < n → f k ≡ g k
values_below-at f g zero k e lt = absurd (omega arith)
values_below-at f g (suc n) k e lt =
    elim (cases_lt k n) [
      | inl below ↦ values_below-at f g n k (cc) below
      | inr same ↦ (let last : k ≡ n = omega arith in rw last (cc))
    ]

-- The opcode of each quarter but that of 89.
abbrev but_89 : {A : Type 0} → (ℕ → Option A) → ℕ → Option A
but_89 f quarter = if quarter == 34 then None else f (4 * quarter + 1)

regular : {A : Type 0} (f g : ℕ → Option A) → values_below (but_89 f) 64 ≡ values_below (but_89 g) 64
    → (opcode : ℕ) → opcode < 256 → opcode % 4 ≡ 1 → opcode ≢ 0x89 → f opcode ≡ g opcode
regular f g e opcode small one other =
    let same = values_below-at (but_89 f) (but_89 g) 64 (opcode / 4) e (omega arith) in
    let quarter : (opcode / 4 == 34) ≡ false = grind (arith, nat_tests) in
    let whole : 4 * (opcode / 4) + 1 ≡ opcode = omega arith in
    rw (quarter, whole) at same

pub regular-operation : (opcode : ℕ) → opcode < 256 → opcode % 4 ≡ 1 → opcode ≢ 0x89
    → option_map (λ row. row.operation) (row_of opcode) ≡ slice_get operations_in_order (opcode / 32)
regular-operation =
    regular (λ opcode. option_map (λ row. row.operation) (row_of opcode)) (λ opcode. slice_get operations_in_order (opcode / 32)) refl

pub regular-mode : (opcode : ℕ) → opcode < 256 → opcode % 4 ≡ 1 → opcode ≢ 0x89
    → option_map (λ row. row.mode) (row_of opcode) ≡ slice_get modes_in_order (opcode / 4 % 8)
regular-mode =
    regular (λ opcode. option_map (λ row. row.mode) (row_of opcode)) (λ opcode. slice_get modes_in_order (opcode / 4 % 8)) refl
