-- The step of an instruction whose first two bytes are at hand, by its class.
use Rattle.std.proofs.Common.{◌≡◌, ◌∙◌, ℕ, ◌+◌, ◌%◌, Bool, false, true, Option, Some, Ok, refl, sym, subst}
use Rattle.std.specs.Prelude.{IsOk}
use Rattle.mos_cpu.specs.Opcodes.{row_of}
use Rattle.mos_cpu.specs.Operands.{instruction_at}
use Rattle.mos_cpu.specs.Registers.{Registers}
use Rattle.mos_cpu.specs.declared.mode.Mode.{Mode}
use Rattle.mos_cpu.specs.declared.mode.Mode.TheVariants.{Accumulator, Immediate, ZeroPage}
use Rattle.mos_cpu.specs.declared.opcode_row.Row.{Row}
use Rattle.bus_cycles.specs.Buses.{AtHand, Meaning}
use Rattle.bus_cycles.specs.Private.AtHand.{begun, both_fetched, byte_read, ended}
use Rattle.bus_cycles.specs.Private.Classes.{class_by, class_of}
use Rattle.bus_cycles.specs.Private.Fetches.{IsFetched}
use Rattle.bus_cycles.specs.Private.Found.{IsFound, IsRun}
use Rattle.bus_cycles.specs.Private.Held.{held_meaning, held_bus, IsGuideStep}
use Rattle.bus_cycles.specs.Private.Kinds.{kind_of}
use Rattle.bus_cycles.specs.Private.Steps.{IsStepOf}
use Rattle.bus_cycles.proofs.AnswerLemmas.{plain-of}
use Rattle.bus_cycles.proofs.KindLemmas.{found-ok, run-read, run-store}
use Rattle.bus_cycles.proofs.QuietLemmas.{two_held, implied-ok, change_a-ok, value-ok, branch-ok, implied-run, change_a-run, value-run, branch-run}
use Rattle.bus_cycles.proofs.RunLemmas.{stores-used}
use Rattle.bus_cycles.specs.declared.bus.Purpose.TheVariants.{Code}
use Rattle.bus_cycles.specs.declared.class.Class.{Class}
use Rattle.bus_cycles.specs.declared.class.Class.TheVariants as class
use Rattle.bus_cycles.specs.declared.finding.Found.{Found}
use Rattle.bus_cycles.specs.declared.held.HeldBus.{HeldBus}
use Rattle.bus_cycles.specs.declared.kind.Kind.{Kind}
use Rattle.bus_cycles.specs.declared.kind.Kind.TheVariants as kind

-- ---- what a class says of a row
implied-by : (k : Kind) (mode : Mode) → class_by k mode ≡ class.Implied → k ≡ kind.Implied
implied-by kind.Implied mode e = refl
implied-by kind.Change Accumulator e = cc
implied-by kind.Read Immediate e = cc
implied-by kind.Read ZeroPage e = cc
implied-by kind.Read mode e = cc
implied-by kind.Store ZeroPage e = cc
implied-by kind.Branch mode e = cc
implied-by other mode e = cc

pub implied-class : (row : Row) → class_of row ≡ class.Implied → kind_of row.operation ≡ kind.Implied
implied-class row e = implied-by (kind_of row.operation) row.mode e

branch-by : (k : Kind) (mode : Mode) → class_by k mode ≡ class.Branch → k ≡ kind.Branch
branch-by kind.Implied mode e = cc
branch-by kind.Change Accumulator e = cc
branch-by kind.Read Immediate e = cc
branch-by kind.Read ZeroPage e = cc
branch-by kind.Read mode e = cc
branch-by kind.Store ZeroPage e = cc
branch-by kind.Branch mode e = refl
branch-by other mode e = cc

pub branch-class : (row : Row) → class_of row ≡ class.Branch → kind_of row.operation ≡ kind.Branch
branch-class row e = branch-by (kind_of row.operation) row.mode e

-- A row's kind and mode.
abbrev pub Is : Kind → Mode → Row → Type 0
Is k mode row = (kind_of row.operation ≡ k) × (row.mode ≡ mode)

accumulator-by : (k : Kind) (mode : Mode) → class_by k mode ≡ class.Accumulator → (k ≡ kind.Change) × (mode ≡ Accumulator)
accumulator-by kind.Implied mode e = absurd cc
accumulator-by kind.Change Accumulator e = (refl, refl)
accumulator-by kind.Read Immediate e = absurd cc
accumulator-by kind.Read ZeroPage e = absurd cc
accumulator-by kind.Read mode e = absurd cc
accumulator-by kind.Store ZeroPage e = absurd cc
accumulator-by kind.Branch mode e = absurd cc
accumulator-by other mode e = absurd cc

pub accumulator-class : (row : Row) → class_of row ≡ class.Accumulator → Is kind.Change Accumulator row
accumulator-class row e = accumulator-by (kind_of row.operation) row.mode e

immediate-by : (k : Kind) (mode : Mode) → class_by k mode ≡ class.Immediate → (k ≡ kind.Read) × (mode ≡ Immediate)
immediate-by kind.Implied mode e = absurd cc
immediate-by kind.Change Accumulator e = absurd cc
immediate-by kind.Read Immediate e = (refl, refl)
immediate-by kind.Read ZeroPage e = absurd cc
immediate-by kind.Read mode e = absurd cc
immediate-by kind.Store ZeroPage e = absurd cc
immediate-by kind.Branch mode e = absurd cc
immediate-by other mode e = absurd cc

pub immediate-class : (row : Row) → class_of row ≡ class.Immediate → Is kind.Read Immediate row
immediate-class row e = immediate-by (kind_of row.operation) row.mode e

read-by : (k : Kind) (mode : Mode) → class_by k mode ≡ class.ZeroPageRead → (k ≡ kind.Read) × (mode ≡ ZeroPage)
read-by kind.Implied mode e = absurd cc
read-by kind.Change Accumulator e = absurd cc
read-by kind.Read Immediate e = absurd cc
read-by kind.Read ZeroPage e = (refl, refl)
read-by kind.Read mode e = absurd cc
read-by kind.Store ZeroPage e = absurd cc
read-by kind.Branch mode e = absurd cc
read-by other mode e = absurd cc

pub read-class : (row : Row) → class_of row ≡ class.ZeroPageRead → Is kind.Read ZeroPage row
read-class row e = read-by (kind_of row.operation) row.mode e

store-by : (k : Kind) (mode : Mode) → class_by k mode ≡ class.ZeroPageStore → (k ≡ kind.Store) × (mode ≡ ZeroPage)
store-by kind.Implied mode e = absurd cc
store-by kind.Change Accumulator e = absurd cc
store-by kind.Read Immediate e = absurd cc
store-by kind.Read ZeroPage e = absurd cc
store-by kind.Read mode e = absurd cc
store-by kind.Store ZeroPage e = (refl, refl)
store-by kind.Branch mode e = absurd cc
store-by other mode e = absurd cc

pub store-class : (row : Row) → class_of row ≡ class.ZeroPageStore → Is kind.Store ZeroPage row
store-class row e = store-by (kind_of row.operation) row.mode e

zero-page : ZeroPage ≡ Immediate → ⊥
zero-page e = cc

-- ---- the step
pub step-tied : {S : Type 0} (m : Meaning S) (r : Registers) (s : S) (cycles : ℕ) (registers : Registers) (after other : S)
    → after ≡ other → IsStepOf m r s cycles registers other → IsStepOf m r s cycles registers after
step-tied m r s cycles registers after other e step = subst (λ after. IsStepOf m r s cycles registers after) (sym e) step

module _ {S : Type 0} (m : Meaning S) (row : Row) (r : Registers) (s : S) (opcode low : ℕ)
    (known : ◌≡◌ {A = Option Row} (row_of opcode) (Some row)) (bytes : AtHand m s r.pc opcode low) where
  -- The bus after the opcode's cycle, and after that of the byte after it.
  abbrev fetched : S
  fetched = m.after_read s Code r.pc

  abbrev both : S
  both = both_fetched m s r.pc

  low-fetched : IsFetched m fetched ((r.pc + 1) % 65536) low both
  low-fetched = record { holds = bytes.holds_second; byte_is = bytes.second_is; bus = refl }

  -- What the run of the opcode leaves is what the step leaves.
  stepped : (cycles : ℕ) (registers : Registers) (after : S) → IsRun m r fetched opcode row (Ok cycles) registers after
      → IsStepOf m r s cycles registers after
  stepped cycles registers after run = rw (bytes.holds_first, ← bytes.first_is, known) run

  -- An operand in page zero.
  abbrev found_low : Found
  found_low = record { held = two_held r opcode low; address = low }

  low-found : (always : Bool) → row.mode ≡ ZeroPage → IsFound m row r fetched opcode always found_low both
  low-found always mode = record {
    held = record { at = refl; opcode_is = refl; placed = rw mode tt };
    run = rw (mode, bytes.holds_second, ← bytes.second_is) refl;
    address = rw mode refl;
  }

  low-ok : (k : Kind) → Is k ZeroPage row → (k ≡ kind.Brk → ⊥) → (byte : ℕ)
      → IsOk (instruction_at held_meaning (held_bus (two_held r opcode low) byte 0 0) r)
  low-ok k is other byte =
      found-ok m row r fetched opcode known (plain-of row.operation k is.0 other) found_low both false (low-found false is.1) byte 0 0
      (rw is.1 refl)

  -- The processor's step on the bytes that are held, of an instruction of each class.
  abbrev pub near : Class → HeldBus
  near c = held_bus (two_held r opcode low) (byte_read m s r.pc low c) 0 0

  pub near-ok : (c : Class) → class_of row ≡ c → (c ≡ class.Other → ⊥) → (c ≡ class.MemoryRead → ⊥) → IsOk (instruction_at held_meaning (near c) r)
  near-ok class.Implied is named short = implied-ok m row r fetched opcode known (implied-class row is) low
  near-ok class.Accumulator is named short =
      let both = accumulator-class row is in
      change_a-ok m row r fetched opcode known both.0 both.1 low
  near-ok class.Immediate is named short =
      let both = immediate-class row is in
      value-ok m row r fetched opcode known both.0 both.1 low
  near-ok class.Branch is named short = branch-ok m row r fetched opcode known (branch-class row is) low
  near-ok class.ZeroPageRead is named short = low-ok kind.Read (read-class row is) (λ e. cc) (m.read_value both low)
  near-ok class.ZeroPageStore is named short = low-ok kind.Store (store-class row is) (λ e. cc) 0
  near-ok class.MemoryRead is named short = absurd (short refl)
  near-ok class.Other is named short = absurd (named refl)

  pub near-step : (c : Class) → class_of row ≡ c → (c ≡ class.Other → ⊥) → (c ≡ class.MemoryRead → ⊥) → (cycles : ℕ) (registers : Registers) (left : HeldBus)
      → IsGuideStep r (near c) cycles registers left
      → IsStepOf m r s cycles registers (ended m (begun m s r.pc low c) r.pc low registers.pc cycles left.last c)
  near-step class.Implied is named short cycles registers left guide =
      stepped cycles registers _ (implied-run m row r fetched opcode known (implied-class row is) low cycles registers left guide)
  near-step class.Accumulator is named short cycles registers left guide =
      let both = accumulator-class row is in
      stepped cycles registers _ (change_a-run m row r fetched opcode known both.0 both.1 low cycles registers left guide)
  near-step class.Immediate is named short cycles registers left guide =
      let of = immediate-class row is in
      stepped cycles registers _ (value-run m row r fetched opcode known of.0 of.1 low both low-fetched cycles registers left guide)
  near-step class.Branch is named short cycles registers left guide =
      stepped cycles registers _ (branch-run m row r fetched opcode known (branch-class row is) low both low-fetched cycles registers left guide)
  near-step class.ZeroPageRead is named short cycles registers left guide =
      let of = read-class row is in
      stepped cycles registers _
      (run-read m row r fetched opcode known (plain-of row.operation kind.Read of.0 (λ e. cc)) of.0 (λ e. zero-page (sym of.1 ∙ e)) found_low both
      (low-found false of.1) cycles registers left guide)
  near-step class.ZeroPageStore is named short cycles registers left guide =
      let of = store-class row is in
      let what = stores-used row.operation of.0 in
      stepped cycles registers _
      (run-store m row r fetched opcode known (plain-of row.operation kind.Store of.0 (λ e. cc)) of.0 what.0 what.1 found_low both
      (low-found true of.1) cycles registers left guide)
  near-step class.MemoryRead is named short cycles registers left guide = absurd (short refl)
  near-step class.Other is named short cycles registers left guide = absurd (named refl)
