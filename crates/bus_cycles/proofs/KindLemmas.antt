-- The run of an instruction whose operand was found, by the cycles of its kind.
use Rattle.std.proofs.Common.{◌≡◌, ◌∙◌, ℕ, ◌+◌, Bool, true, false, List, [], ◌∷◌, ◌++◌, Option, Some, Ok, refl, sym, ap, arith}
use Rattle.std.specs.Prelude.{fold, IsOk, if◌then◌else◌}
use Rattle.std.proofs.lemmas.List.Sums.{fold-append}
use Rattle.mos_cpu.specs.Accesses.{StoredByte, Stores, use_of, stored_byte, has_crossed}
use Rattle.mos_cpu.specs.Effects.{changed_of, target_of, registers_after}
use Rattle.mos_cpu.specs.Execution.{Step}
use Rattle.mos_cpu.specs.Opcodes.{row_of}
use Rattle.mos_cpu.specs.Operands.{Operand, takes_vector, instruction_at}
use Rattle.mos_cpu.specs.Registers.{Registers}
use Rattle.mos_cpu.specs.declared.opcode_row.Row.{Row}
use Rattle.mos_cpu.specs.declared.mode.Mode.TheVariants.{Accumulator, Immediate}
use Rattle.bus_cycles.specs.Addresses.{opcode_seen, operand_by}
use Rattle.bus_cycles.specs.Buses.{Meaning}
use Rattle.bus_cycles.specs.Cycles.{Effective, Held, Loaded, Changed, Cycle, Read, Write, address_cycles, cycles_of}
use Rattle.bus_cycles.specs.Execution.{Run, Under, after_cycle, run_of, step_after}
use Rattle.bus_cycles.specs.Private.Found.{seen_by, is_place, one_if, time_of, when_of, IsFound, IsRun}
use Rattle.bus_cycles.specs.Private.Held.{held_meaning, held_bus, IsGuideStep}
use Rattle.bus_cycles.specs.Private.Kinds.{kind_of}
use Rattle.bus_cycles.proofs.ModeLemmas.{seen_by-read, operand_by-read, operand_by-place, named-held}
use Rattle.bus_cycles.proofs.RowLemmas.{read-row, store-row, change-row}
use Rattle.bus_cycles.proofs.RunLemmas.{reads-used, changes-used, read-cycles, reading-place, store-cycles, change-cycles}
use Rattle.bus_cycles.proofs.RunLemmas.{changing-place, guide-known, guide-ok, guide-reads, guide-stores, guide-changes}
use Rattle.bus_cycles.specs.declared.bus.Purpose.TheVariants.{Data}
use Rattle.bus_cycles.specs.declared.finding.Found.{Found}
use Rattle.bus_cycles.specs.declared.held.HeldBus.{HeldBus}
use Rattle.bus_cycles.specs.declared.held.HeldBytes.{HeldBytes}
use Rattle.bus_cycles.specs.declared.kind.Kind.TheVariants as kind

-- A step on one bus as one on another.
abbrev pub moved : {S : Type 0} → (HeldBus → S) → Step HeldBus → Step S
moved after step = record { answer = step.answer; registers = step.registers; bus = after step.bus }

module _ {S : Type 0} (m : Meaning S) (row : Row) (r : Registers) (s : S) (opcode : ℕ)
    (known : ◌≡◌ {A = Option Row} (row_of opcode) (Some row)) (plain : takes_vector row.operation ≡ false) where
  -- The cycles after those that find the operand.
  found-run : (always : Bool) (rest : List Cycle) (found : Found) (after : S) → IsFound m row r s opcode always found after
      → cycles_of row.operation row.mode ≡ address_cycles (when_of always) row.mode ++ rest
      → run_of m r s opcode row
      ≡ fold (after_cycle m row r)
      (Under after (time_of always row.mode (operand_by row.mode r (seen_by row.mode found.held))) (seen_by row.mode found.held)) rest
  found-run always rest found after f e =
      ap (λ (cycles : List Cycle). fold (after_cycle m row r) (Under s 1 (opcode_seen opcode)) cycles) e
      ∙ fold-append (after_cycle m row r) (Under s 1 (opcode_seen opcode)) (address_cycles (when_of always) row.mode) rest
      ∙ ap (λ (run : Run S). fold (after_cycle m row r) run rest) f.run

  -- What an instruction leaves after these cycles, by what it read.
  abbrev left_by : HeldBytes → ℕ → List ℕ → S → Step S
  left_by held n bytes bus = record {
    answer = Ok n;
    registers = registers_after (record { row = row; operand = operand_by row.mode r (seen_by row.mode held) }) r bytes;
    bus = bus;
  }

  read-end : (held : HeldBytes) (n address : ℕ) (after : S) → address ≡ target_of (operand_by row.mode r (seen_by row.mode held))
      → step_after row r (fold (after_cycle m row r) (Under after n (seen_by row.mode held)) (Read Effective ∷ []))
      ≡ left_by held (n + 1) (m.read_value after address ∷ []) (m.after_read after Data address)
  read-end held n address after at =
      rw (plain, operand_by-read row.mode r (seen_by row.mode held), seen_by-read row.mode held, ← at) refl

  store-end : (held : HeldBytes) (n address : ℕ) (after : S) (what : StoredByte)
      → address ≡ target_of (operand_by row.mode r (seen_by row.mode held))
      → step_after row r (fold (after_cycle m row r) (Under after n (seen_by row.mode held)) (Write Effective (Held what) ∷ []))
      ≡ left_by held (n + 1) [] (m.after_write after address (stored_byte what r))
  store-end held n address after what at = rw (plain, seen_by-read row.mode held, ← at) refl

  change-end : (held : HeldBytes) (n address : ℕ) (after : S) → address ≡ target_of (operand_by row.mode r (seen_by row.mode held))
      → (let byte = m.read_value after address in
      step_after row r (fold (after_cycle m row r) (Under after n (seen_by row.mode held))
      (Read Effective ∷ Write Effective Loaded ∷ Write Effective Changed ∷ []))
      ≡ left_by held (n + 1 + 1 + 1) (byte ∷ [])
      (m.after_write (m.after_write (m.after_read after Data address) address byte) address (changed_of row.operation byte r.p).value))
  change-end held n address after at =
      rw (plain, operand_by-read row.mode r (seen_by row.mode held), seen_by-read row.mode held, ← at) refl

  -- The operand is found on the bytes that are held.
  module _ (found : Found) (after : S) (always : Bool) (f : IsFound m row r s opcode always found after) (first second third : ℕ)
      (place : is_place row.mode ≡ true) where
    abbrev bus : HeldBus
    bus = held_bus found.held first second third

    abbrev operand : Operand
    operand = operand_by row.mode r (seen_by row.mode found.held)

    pub found-ok : IsOk (instruction_at held_meaning bus r)
    found-ok =
        guide-ok row r opcode bus known f.held.at f.held.opcode_is plain operand
        (named-held row.mode bus r f.held.at f.held.placed place)

  pub run-read : kind_of row.operation ≡ kind.Read → (row.mode ≡ Immediate → ⊥) → (found : Found) (after : S)
      → IsFound m row r s opcode false found after → (cycles : ℕ) (registers : Registers) (left : HeldBus)
      → IsGuideStep r (held_bus found.held (m.read_value after found.address) 0 0) cycles registers left
      → IsRun m r s opcode row (Ok cycles) registers (m.after_read after Data found.address)
  run-read is place found after f cycles registers left guide =
      let fact = read-row opcode row known is place in
      let byte = m.read_value after found.address in
      let bus = held_bus found.held byte 0 0 in
      let operand = operand_by row.mode r (seen_by row.mode found.held) in
      let n = time_of false row.mode operand in
      let named = named-held row.mode bus r f.held.at f.held.placed fact.place in
      let step = guide-known row r opcode bus known f.held.at f.held.opcode_is plain operand named in
      let e = operand_by-place row.mode r (seen_by row.mode found.held) fact.place in
      let timed : n + 1 ≡ row.cycles + (if row.crossing then one_if (has_crossed operand) else 0) =
      rw (fact.cycles_are, fact.crossing_is) (omega arith) in
      let guided = guide-reads row r bus operand _ _ (n + 1) e (reads-used row.operation is) timed in
      ap (step_after row r)
      (found-run false (Read Effective ∷ []) found after f (read-cycles row.operation row.mode is ∙ reading-place row.mode place))
      ∙ read-end found.held n found.address after f.address
      ∙ ap (moved (λ (left : HeldBus). m.after_read after Data found.address)) (sym guided ∙ sym step ∙ guide)

  pub run-store : kind_of row.operation ≡ kind.Store → (what : StoredByte) → use_of row.operation ≡ Stores what
      → (found : Found) (after : S) → IsFound m row r s opcode true found after
      → (cycles : ℕ) (registers : Registers) (left : HeldBus) → IsGuideStep r (held_bus found.held 0 0 0) cycles registers left
      → IsRun m r s opcode row (Ok cycles) registers (m.after_write after found.address left.last)
  run-store is what used found after f cycles registers left guide =
      let fact = store-row opcode row known is in
      let bus = held_bus found.held 0 0 0 in
      let operand = operand_by row.mode r (seen_by row.mode found.held) in
      let n = time_of true row.mode operand in
      let named = named-held row.mode bus r f.held.at f.held.placed fact.place in
      let step = guide-known row r opcode bus known f.held.at f.held.opcode_is plain operand named in
      let e = operand_by-place row.mode r (seen_by row.mode found.held) fact.place in
      let guided = guide-stores row r bus operand _ _ (n + 1) e what used (sym fact.cycles_are) fact.crossing_is in
      ap (step_after row r)
      (found-run true (Write Effective (Held what) ∷ []) found after f (store-cycles row.operation row.mode what is used))
      ∙ store-end found.held n found.address after what f.address
      ∙ ap (moved (λ (left : HeldBus). m.after_write after found.address left.last)) (sym guided ∙ sym step ∙ guide)

  pub run-change : kind_of row.operation ≡ kind.Change → (row.mode ≡ Accumulator → ⊥) → (found : Found) (after : S)
      → IsFound m row r s opcode true found after → (cycles : ℕ) (registers : Registers) (left : HeldBus)
      → IsGuideStep r (held_bus found.held (m.read_value after found.address) 0 0) cycles registers left
      → IsRun m r s opcode row (Ok cycles) registers
      (m.after_write (m.after_write (m.after_read after Data found.address) found.address left.before) found.address left.last)
  run-change is place found after f cycles registers left guide =
      let fact = change-row opcode row known is place in
      let byte = m.read_value after found.address in
      let bus = held_bus found.held byte 0 0 in
      let operand = operand_by row.mode r (seen_by row.mode found.held) in
      let n = time_of true row.mode operand in
      let named = named-held row.mode bus r f.held.at f.held.placed fact.place in
      let step = guide-known row r opcode bus known f.held.at f.held.opcode_is plain operand named in
      let e = operand_by-place row.mode r (seen_by row.mode found.held) fact.place in
      let timed : n + 1 + 1 + 1 ≡ row.cycles = rw fact.cycles_are (omega arith) in
      let guided = guide-changes row r bus operand _ _ (n + 1 + 1 + 1) e (changes-used row.operation is) timed fact.crossing_is in
      ap (step_after row r)
      (found-run true (Read Effective ∷ Write Effective Loaded ∷ Write Effective Changed ∷ []) found after f
      (change-cycles row.operation row.mode is ∙ changing-place row.mode place))
      ∙ change-end found.held n found.address after f.address
      ∙ ap (moved (λ (left : HeldBus).
      m.after_write (m.after_write (m.after_read after Data found.address) found.address left.before) found.address left.last))
      (sym guided ∙ sym step ∙ guide)
