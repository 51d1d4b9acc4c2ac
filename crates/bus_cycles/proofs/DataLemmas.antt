-- The data accesses among the cycles of an instruction are those of mos_cpu's step.
use Rattle.std.proofs.Common.{◌≡◌, ◌∙◌, ℕ, ◌+◌, ◌-◌, ◌%◌, Bool, true, false, List, [], ◌∷◌, ◌++◌, Option, Some, refl, sym, ap, subst, arith, add-zero}
use Rattle.std.specs.Prelude.{fold, ◌||◌, ◌&&◌, ◌==◌, if◌then◌else◌}
use Rattle.std.specs.List.{list_all}
use Rattle.std.proofs.lemmas.Bool.{and_parts}
use Rattle.std.proofs.lemmas.Bool.Decides.{nat_tests}
use Rattle.std.proofs.lemmas.List.{append_assoc, append-nil}
use Rattle.std.proofs.lemmas.List.Sums.{fold-append}
use Rattle.mos_cpu.specs.Accesses.{ReturnHigh, ReturnLow, stored_byte, has_crossed, is_taken}
use Rattle.mos_cpu.specs.Accesses.{accesses_of, instruction_cycles, pushes, read_access, store_access, modify_accesses}
use Rattle.mos_cpu.specs.Effects.{target_of}
use Rattle.mos_cpu.specs.Opcodes.{row_of}
use Rattle.mos_cpu.specs.Operands.{Operand, Place, takes_vector}
use Rattle.mos_cpu.specs.Registers.{Registers}
use Rattle.mos_cpu.specs.declared.access.Access.{Access}
use Rattle.mos_cpu.specs.declared.access.Source.TheVariants as written
use Rattle.mos_cpu.specs.declared.access.Transfer.TheVariants as transfer
use Rattle.mos_cpu.specs.declared.fault.CpuFault.{CpuFault}
use Rattle.mos_cpu.specs.declared.fault.CpuFault.TheVariants.{FetchOutside}
use Rattle.mos_cpu.specs.declared.mode.Mode.{Mode}
use Rattle.mos_cpu.specs.declared.mode.Mode.TheVariants.{Implied, Accumulator, Immediate, ZeroPage, ZeroPageX, ZeroPageY}
use Rattle.mos_cpu.specs.declared.mode.Mode.TheVariants.{Absolute, AbsoluteX, AbsoluteY, Relative, Indirect, IndirectX, IndirectY}
use Rattle.mos_cpu.specs.declared.opcode_row.Row.{Row}
use Rattle.mos_cpu.specs.declared.operation.Operation.{Operation}
use Rattle.mos_cpu.specs.declared.operation.Operation.TheVariants.{Jsr}
use Rattle.bus_cycles.specs.Addresses.{Seen, opcode_seen, operand_by, operand_seen, address_on}
use Rattle.bus_cycles.specs.Buses.{Meaning}
use Rattle.bus_cycles.specs.Cycles.{When, Always, Taken, TakenAcross, Program, Zero, PointerLow, PointerHigh, Uncarried, Pushed, Effective, Lines, Held, Loaded, Changed, Cycle, Fetch, Discard, Point, Read, Write}
use Rattle.bus_cycles.specs.Cycles.{address_cycles, reading_cycles, cycles_of}
use Rattle.bus_cycles.specs.DataAccesses.{instruction_seen, data_access_in, data_accesses, data_accesses_of, accesses_before}
use Rattle.bus_cycles.specs.Execution.{Run, Under, Ended, is_made, after_cycle, reading, run_of}
use Rattle.bus_cycles.specs.Private.Found.{one_if, time_of, when_of, finding}
use Rattle.bus_cycles.specs.Private.Kinds.{kind_of}
use Rattle.bus_cycles.specs.Private.Rows.{expected, IsExpected}
use Rattle.bus_cycles.proofs.ModeLemmas.{operand_by-read, operand_by-place}
use Rattle.bus_cycles.proofs.QuietLemmas.{plain-kind, implied-used, implied-cycles, branch-cycles, branch-quiet, push-is, pull-used, pull-cycles}
use Rattle.bus_cycles.proofs.QuietLemmas.{implied-here, push-here, pull-here, rts-here, rti-here, brk-here, jsr-here, branch-here}
use Rattle.bus_cycles.proofs.QuietLemmas.{rts-is, rti-is, jmp-is, jsr-is, brk-is, jmp-cycles, pushed_return}
use Rattle.bus_cycles.proofs.RowLemmas.{row_of-expected, read-row, store-row, change-row}
use Rattle.bus_cycles.proofs.RunLemmas.{reads-used, stores-used, changes-used, read-cycles, reading-place, store-cycles, change-cycles, changing-place}
use Rattle.bus_cycles.specs.declared.bus.Purpose.TheVariants.{Code, Discarded}
use Rattle.bus_cycles.specs.declared.kind.Kind.{Kind}
use Rattle.bus_cycles.specs.declared.kind.Kind.TheVariants as kind

-- ---- cycles that make no data access
abbrev is_quiet : Cycle → Bool
is_quiet (Read lines) = false
is_quiet (Write lines source) = false
is_quiet other = true

address_cycles-quiet : (when : When) (mode : Mode) → list_all is_quiet (address_cycles when mode) ≡ true
address_cycles-quiet when Implied = refl
address_cycles-quiet when other = refl

module _ {S : Type 0} (m : Meaning S) (row : Row) (r : Registers) where
  cycle-quiet : (run : Run S) (cycle : Cycle) → is_quiet cycle ≡ true → data_access_in cycle row r run ≡ []
  cycle-quiet (Under s n seen) Fetch e = refl
  cycle-quiet (Under s n seen) (Discard when lines) e = refl
  cycle-quiet (Under s n seen) (Point lines) e = refl
  cycle-quiet (Under s n seen) other e = cc
  cycle-quiet (Ended s fault) cycle e = refl

  all-quiet : (run : Run S) (cycles : List Cycle) → list_all is_quiet cycles ≡ true → data_accesses m row r run cycles ≡ []
  all-quiet run [] e = refl
  all-quiet run (cycle ∷ cycles) e =
      let parts = and_parts (is_quiet cycle) (list_all is_quiet cycles) e in
      rw (cycle-quiet run cycle parts.0, all-quiet (after_cycle m row r run cycle) cycles parts.1) refl

  -- Cycles in turn make the accesses of the first ones, and then those of the others.
  joined : (run : Run S) (first rest : List Cycle)
      → data_accesses m row r run (first ++ rest)
      ≡ data_accesses m row r run first ++ data_accesses m row r (fold (after_cycle m row r) run first) rest
  joined run [] rest = refl
  joined run (cycle ∷ first) rest =
      ap (λ (accesses : List Access). data_access_in cycle row r run ++ accesses) (joined (after_cycle m row r run cycle) first rest)
      ∙ sym (append_assoc (data_access_in cycle row r run) _ _)

  -- ---- after a fault
  ended-quiet : (s : S) (fault : CpuFault) (cycles : List Cycle) → data_accesses m row r (Ended s fault) cycles ≡ []
  ended-quiet s fault [] = refl
  ended-quiet s fault (cycle ∷ cycles) = ended-quiet s fault cycles

  ended-stays : (s : S) (fault : CpuFault) (cycles : List Cycle) → fold (after_cycle m row r) (Ended s fault) cycles ≡ Ended s fault
  ended-stays s fault [] = refl
  ended-stays s fault (cycle ∷ cycles) = ended-stays s fault cycles

  -- ---- runs that go on
  -- What holds after a fetch, or of its fault, holds after its cycle.
  fetched : (Q : Run S → Type 0) (s : S) (n : ℕ) (seen : Seen) (rest : List Cycle)
      → ((s : S) (fault : CpuFault) → Q (Ended s fault))
      → ((s : S) (byte : ℕ) → Q (fold (after_cycle m row r) (Under s (n + 1) (record seen { fetched = seen.fetched ++ byte ∷ [] })) rest))
      → Q (fold (after_cycle m row r) (Under s n seen) (Fetch ∷ rest))
  fetched Q s n seen rest ended on = by (m.holds_code s (address_on Program row r seen))
    where
      by : (holds : Bool)
          → Q (fold (after_cycle m row r)
          (let at = address_on Program row r seen in
          if holds then reading m Code at s n (record seen { fetched = seen.fetched ++ m.read_value s at ∷ [] }) else Ended s (FetchOutside at)) rest)
      by true = on _ _
      by false = subst Q (sym (ended-stays s _ rest)) (ended s _)

  discarded : (Q : Run S → Type 0) (s : S) (n : ℕ) (seen : Seen) (when : When) (lines : Lines) (rest : List Cycle)
      → ((s : S) → Q (fold (after_cycle m row r) (Under s (n + one_if (is_made when row r seen)) seen) rest))
      → Q (fold (after_cycle m row r) (Under s n seen) (Discard when lines ∷ rest))
  discarded Q s n seen when lines rest on = by (is_made when row r seen) on
    where
      by : (made : Bool) → ((s : S) → Q (fold (after_cycle m row r) (Under s (n + one_if made) seen) rest))
          → Q (fold (after_cycle m row r)
          (if made then reading m Discarded (address_on lines row r seen) s n seen else Under s n seen) rest)
      by true on = on _
      by false on = subst (λ (n : ℕ). Q (fold (after_cycle m row r) (Under s n seen) rest)) (add-zero n) (on s)

  pointed : (Q : Run S → Type 0) (s : S) (n : ℕ) (seen : Seen) (lines : Lines) (rest : List Cycle)
      → ((s : S) (byte : ℕ) → Q (fold (after_cycle m row r) (Under s (n + 1) (record seen { pointer = seen.pointer ++ byte ∷ [] })) rest))
      → Q (fold (after_cycle m row r) (Under s n seen) (Point lines ∷ rest))
  pointed Q s n seen lines rest on = on _ _

  -- ---- the cycles that find an operand
  -- They are as many as the operand takes, and read nothing for the instruction.
  abbrev IsTimely : Mode → Bool → Run S → Type 0
  IsTimely mode always (Under after n seen) = (n ≡ time_of always mode (operand_by mode r seen)) × (seen.read ≡ [])
  IsTimely mode always (Ended after fault) = Unit {0}

  abbrev two_read : ℕ → ℕ → Seen
  two_read opcode low = record (opcode_seen opcode) { fetched = opcode ∷ low ∷ [] }

  abbrev three_read : ℕ → ℕ → ℕ → Seen
  three_read opcode low high = record (opcode_seen opcode) { fetched = opcode ∷ low ∷ high ∷ [] }

  carried : (mode : Mode) (always : Bool) (seen : Seen) → row.mode ≡ mode → takes_vector row.operation ≡ false
      → is_made (when_of always) row r seen ≡ (always || has_crossed (operand_by mode r seen))
  carried mode true seen here plain = refl
  carried mode false seen here plain = rw (plain, here) refl

  found-timely : (mode : Mode) (always : Bool) (s : S) (opcode : ℕ) → row.mode ≡ mode → takes_vector row.operation ≡ false
      → IsTimely mode always (fold (after_cycle m row r) (Under s 1 (opcode_seen opcode)) (address_cycles (when_of always) mode))
  found-timely Implied always s opcode here plain = (refl, refl)
  found-timely Accumulator always s opcode here plain = (refl, refl)
  found-timely ZeroPageX always s opcode here plain =
      fetched (IsTimely ZeroPageX always) s 1 (opcode_seen opcode) (Discard Always Zero ∷ []) (λ s fault. tt) (λ s low. (refl, refl))
  found-timely ZeroPageY always s opcode here plain =
      fetched (IsTimely ZeroPageY always) s 1 (opcode_seen opcode) (Discard Always Zero ∷ []) (λ s fault. tt) (λ s low. (refl, refl))
  found-timely Absolute always s opcode here plain =
      fetched (IsTimely Absolute always) s 1 (opcode_seen opcode) (Fetch ∷ []) (λ s fault. tt)
      (λ s low. fetched (IsTimely Absolute always) s 2 (two_read opcode low) [] (λ s fault. tt) (λ s high. (refl, refl)))
  found-timely AbsoluteX always s opcode here plain =
      fetched (IsTimely AbsoluteX always) s 1 (opcode_seen opcode) (Fetch ∷ Discard (when_of always) Uncarried ∷ []) (λ s fault. tt)
      (λ s low. fetched (IsTimely AbsoluteX always) s 2 (two_read opcode low) (Discard (when_of always) Uncarried ∷ []) (λ s fault. tt)
      (λ s high. discarded (IsTimely AbsoluteX always) s 3 (three_read opcode low high) (when_of always) Uncarried []
      (λ s. (rw (carried AbsoluteX always (three_read opcode low high) here plain) refl, refl))))
  found-timely AbsoluteY always s opcode here plain =
      fetched (IsTimely AbsoluteY always) s 1 (opcode_seen opcode) (Fetch ∷ Discard (when_of always) Uncarried ∷ []) (λ s fault. tt)
      (λ s low. fetched (IsTimely AbsoluteY always) s 2 (two_read opcode low) (Discard (when_of always) Uncarried ∷ []) (λ s fault. tt)
      (λ s high. discarded (IsTimely AbsoluteY always) s 3 (three_read opcode low high) (when_of always) Uncarried []
      (λ s. (rw (carried AbsoluteY always (three_read opcode low high) here plain) refl, refl))))
  found-timely Indirect always s opcode here plain =
      fetched (IsTimely Indirect always) s 1 (opcode_seen opcode) (Fetch ∷ Point PointerLow ∷ Point PointerHigh ∷ []) (λ s fault. tt)
      (λ s low. fetched (IsTimely Indirect always) s 2 (two_read opcode low) (Point PointerLow ∷ Point PointerHigh ∷ []) (λ s fault. tt)
      (λ s high. (refl, refl)))
  found-timely IndirectX always s opcode here plain =
      fetched (IsTimely IndirectX always) s 1 (opcode_seen opcode) (Discard Always Zero ∷ Point PointerLow ∷ Point PointerHigh ∷ []) (λ s fault. tt)
      (λ s low. (refl, refl))
  found-timely IndirectY always s opcode here plain =
      fetched (IsTimely IndirectY always) s 1 (opcode_seen opcode) (Point PointerLow ∷ Point PointerHigh ∷ Discard (when_of always) Uncarried ∷ []) (λ s fault. tt)
      (λ s low. pointed (IsTimely IndirectY always) s 2 (two_read opcode low) PointerLow (Point PointerHigh ∷ Discard (when_of always) Uncarried ∷ [])
      (λ s first. pointed (IsTimely IndirectY always) s 3 (record (two_read opcode low) { pointer = first ∷ [] }) PointerHigh
      (Discard (when_of always) Uncarried ∷ [])
      (λ s second.
      let seen = record (two_read opcode low) { pointer = first ∷ second ∷ [] } in
      discarded (IsTimely IndirectY always) s 4 seen (when_of always) Uncarried []
      (λ s. (rw (carried IndirectY always seen here plain) refl, refl)))))
  found-timely ZeroPage always s opcode here plain =
      fetched (IsTimely ZeroPage always) s 1 (opcode_seen opcode) [] (λ s fault. tt) (λ s low. (refl, refl))
  found-timely Immediate always s opcode here plain =
      fetched (IsTimely Immediate always) s 1 (opcode_seen opcode) [] (λ s fault. tt) (λ s low. (refl, refl))
  found-timely Relative always s opcode here plain =
      fetched (IsTimely Relative always) s 1 (opcode_seen opcode) [] (λ s fault. tt) (λ s low. (refl, refl))

  -- ---- runs whose accesses are those of mos_cpu's step
  abbrev pub Agrees : List Access → Run S → Type 0
  Agrees accesses (Under after n seen) =
      (n ≡ instruction_cycles (instruction_seen row r seen) r.p) × (accesses ≡ accesses_of (instruction_seen row r seen) r n)
  Agrees accesses (Ended after fault) = accesses ≡ accesses_before row.operation r fault

  -- The same, of cycles that come after these accesses.
  abbrev AgreesFrom : List Access → Run S → List Cycle → Type 0
  AgreesFrom before run cycles =
      Agrees (before ++ data_accesses m row r run cycles) (fold (after_cycle m row r) run cycles)

  ended-agrees : (before : List Access) (s : S) (fault : CpuFault) (rest : List Cycle) → before ≡ accesses_before row.operation r fault
      → AgreesFrom before (Ended s fault) rest
  ended-agrees before s fault rest e = rw (ended-quiet s fault rest, ended-stays s fault rest, append-nil before) e

  fetch-agrees : (before : List Access) (s : S) (n : ℕ) (seen : Seen) (rest : List Cycle)
      → before ≡ accesses_before row.operation r (FetchOutside (address_on Program row r seen))
      → ((s : S) (byte : ℕ) → AgreesFrom before (Under s (n + 1) (record seen { fetched = seen.fetched ++ byte ∷ [] })) rest)
      → AgreesFrom before (Under s n seen) (Fetch ∷ rest)
  fetch-agrees before s n seen rest ended on = by (m.holds_code s (address_on Program row r seen))
    where
      by : (holds : Bool)
          → AgreesFrom before
          (let at = address_on Program row r seen in
          if holds then reading m Code at s n (record seen { fetched = seen.fetched ++ m.read_value s at ∷ [] }) else Ended s (FetchOutside at)) rest
      by true = on _ _
      by false = ended-agrees before s _ rest ended

  discard-agrees : (before : List Access) (s : S) (n : ℕ) (seen : Seen) (when : When) (lines : Lines) (rest : List Cycle)
      → ((s : S) → AgreesFrom before (Under s (n + one_if (is_made when row r seen)) seen) rest)
      → AgreesFrom before (Under s n seen) (Discard when lines ∷ rest)
  discard-agrees before s n seen when lines rest on = by (is_made when row r seen) on
    where
      by : (made : Bool) → ((s : S) → AgreesFrom before (Under s (n + one_if made) seen) rest)
          → AgreesFrom before (if made then reading m Discarded (address_on lines row r seen) s n seen else Under s n seen) rest
      by true on = on _
      by false on = subst (λ (n : ℕ). AgreesFrom before (Under s n seen) rest) (add-zero n) (on s)

-- ---- accesses of an operand in memory
abbrev IsPlaced : Operand → Type 0
IsPlaced operand = operand ≡ Place (target_of operand) (has_crossed operand)

read-placed : (operand : Operand) (n : ℕ) → IsPlaced operand
    → read_access operand n ≡ record { cycle = n; address = target_of operand; transfer = transfer.Read } ∷ []
read-placed (Place at crossed) n e = refl
read-placed other n e = cc

store-placed : (operand : Operand) (byte n : ℕ) → IsPlaced operand
    → store_access operand byte n
    ≡ record { cycle = n; address = target_of operand; transfer = transfer.Write (written.Byte byte) } ∷ []
store-placed (Place at crossed) byte n e = refl
store-placed other byte n e = cc

change-placed : (operand : Operand) (n : ℕ) → IsPlaced operand
    → modify_accesses operand (n + 1 + 1 + 1)
    ≡ record { cycle = n + 1; address = target_of operand; transfer = transfer.Read }
    ∷ record { cycle = n + 1 + 1; address = target_of operand; transfer = transfer.Write written.Loaded }
    ∷ record { cycle = n + 1 + 1 + 1; address = target_of operand; transfer = transfer.Write written.Changed } ∷ []
change-placed (Place at crossed) n e =
    let first : n + 1 + 1 + 1 - 2 ≡ n + 1 = omega arith in
    let second : n + 1 + 1 + 1 - 1 ≡ n + 1 + 1 = omega arith in
    rw (first, second) refl
change-placed other n e = cc

-- ---- faults
none-before : (o : Operation) (r : Registers) (fault : CpuFault) → (kind_of o ≡ kind.Jsr → ⊥) → [] ≡ accesses_before o r fault
none-before Jsr r fault h = absurd (h refl)
none-before other r fault h = refl

first-before : (r : Registers) → [] ≡ accesses_before Jsr r (FetchOutside ((r.pc + 1) % 65536))
first-before r = apart ((r.pc + 1) % 65536 == (r.pc + 2) % 65536) (grind (arith, nat_tests))
  where
    apart : (same : Bool) → same ≡ false
        → [] ≡ (if same then pushes r 0 ((4, ReturnHigh) ∷ (5, ReturnLow) ∷ []) else [])
    apart true e = cc
    apart false e = refl

last-before : (r : Registers)
    → pushes r 0 ((4, ReturnHigh) ∷ (5, ReturnLow) ∷ []) ≡ accesses_before Jsr r (FetchOutside ((r.pc + 2) % 65536))
last-before r = together ((r.pc + 2) % 65536 == (r.pc + 2) % 65536) (grind (arith, nat_tests))
  where
    together : (same : Bool) → same ≡ true
        → pushes r 0 ((4, ReturnHigh) ∷ (5, ReturnLow) ∷ [])
        ≡ (if same then pushes r 0 ((4, ReturnHigh) ∷ (5, ReturnLow) ∷ []) else [])
    together true e = refl
    together false e = cc

jmp-counted : (mode : Mode) (row : Row) (operand : Operand) (n : ℕ) → IsExpected (expected kind.Jmp mode) row
    → n ≡ time_of true mode operand
    → n ≡ row.cycles + (if row.crossing then one_if (has_crossed operand) else 0) + 0
jmp-counted Absolute row operand n e timed = rw (e.0, e.1, timed) refl
jmp-counted Indirect row operand n e timed = rw (e.0, e.1, timed) refl
jmp-counted other row operand n e timed = absurd e

branch-counted : (taken crossed : Bool)
    → 2 + one_if taken + one_if (taken && crossed) ≡ 2 + 0 + (if taken then 1 + one_if crossed else 0)
branch-counted false crossed = refl
branch-counted true false = refl
branch-counted true true = refl

module _ {S : Type 0} (m : Meaning S) (row : Row) (r : Registers) (s : S) (opcode : ℕ)
    (known : ◌≡◌ {A = Option Row} (row_of opcode) (Some row)) where
  abbrev pub IsLawful : Type 0
  IsLawful = Agrees m row r (data_accesses_of m r s opcode row) (run_of m r s opcode row)

  -- ---- an operand in memory
  -- Cycles that find the operand, and others after them.
  found-lawful : (always : Bool) (rest : List Cycle) → (kind_of row.operation ≡ kind.Jsr → ⊥) → takes_vector row.operation ≡ false
      → cycles_of row.operation row.mode ≡ address_cycles (when_of always) row.mode ++ rest
      → ((after : S) (n : ℕ) (seen : Seen) → n ≡ time_of always row.mode (operand_by row.mode r seen) → seen.read ≡ []
      → AgreesFrom m row r [] (Under after n seen) rest)
      → IsLawful
  found-lawful always rest jsr plain cycles goes_on =
      let start = Under s 1 (opcode_seen opcode) in
      let first = address_cycles (when_of always) row.mode in
      let accesses : data_accesses_of m r s opcode row ≡ data_accesses m row r (finding m row r s opcode always) rest =
      ap (λ (cycles : List Cycle). data_accesses m row r start cycles) cycles
      ∙ joined m row r start first rest
      ∙ ap (λ (before : List Access). before ++ data_accesses m row r (finding m row r s opcode always) rest)
      (all-quiet m row r start first (address_cycles-quiet (when_of always) row.mode)) in
      let run : run_of m r s opcode row ≡ fold (after_cycle m row r) (finding m row r s opcode always) rest =
      ap (λ (cycles : List Cycle). fold (after_cycle m row r) start cycles) cycles
      ∙ fold-append (after_cycle m row r) start first rest in
      rw (accesses, run) (by (finding m row r s opcode always) (found-timely m row r row.mode always s opcode refl plain))
    where
      by : (run : Run S) → IsTimely m row r row.mode always run → AgreesFrom m row r [] run rest
      by (Under after n seen) timely = goes_on after n seen timely.0 timely.1
      by (Ended after fault) timely = ended-agrees m row r [] after fault rest (none-before row.operation r fault jsr)

  read-lawful : kind_of row.operation ≡ kind.Read → (row.mode ≡ Immediate → ⊥) → IsLawful
  read-lawful is place =
      let fact = read-row opcode row known is place in
      let plain = plain-kind row.operation (λ e. cc) in
      found-lawful false (Read Effective ∷ []) (λ e. cc) plain (read-cycles row.operation row.mode is ∙ reading-place row.mode place)
      (λ after n seen timed unread.
      let operand = operand_by row.mode r seen in
      let placed = operand_by-place row.mode r seen fact.place in
      let count : n + 1 ≡ row.cycles + (if row.crossing then one_if (has_crossed operand) else 0) + 0 =
      rw (fact.cycles_are, fact.crossing_is) (omega arith) in
      rw (plain, operand_by-read row.mode r seen, reads-used row.operation is) (count, sym (read-placed operand (n + 1) placed)))

  store-lawful : kind_of row.operation ≡ kind.Store → IsLawful
  store-lawful is =
      let fact = store-row opcode row known is in
      let plain = plain-kind row.operation (λ e. cc) in
      let what = stores-used row.operation is in
      found-lawful true (Write Effective (Held what.0) ∷ []) (λ e. cc) plain (store-cycles row.operation row.mode what.0 is what.1)
      (λ after n seen timed unread.
      let operand = operand_by row.mode r seen in
      let placed = operand_by-place row.mode r seen fact.place in
      let count : n + 1 ≡ row.cycles + (if row.crossing then one_if (has_crossed operand) else 0) + 0 =
      rw (fact.cycles_are, fact.crossing_is) (omega arith) in
      rw (plain, what.1) (count, sym (store-placed operand (stored_byte what.0 r) (n + 1) placed)))

  change-lawful : kind_of row.operation ≡ kind.Change → (row.mode ≡ Accumulator → ⊥) → IsLawful
  change-lawful is place =
      let fact = change-row opcode row known is place in
      let plain = plain-kind row.operation (λ e. cc) in
      found-lawful true (Read Effective ∷ Write Effective Loaded ∷ Write Effective Changed ∷ []) (λ e. cc) plain
      (change-cycles row.operation row.mode is ∙ changing-place row.mode place)
      (λ after n seen timed unread.
      let operand = operand_by row.mode r seen in
      let placed = operand_by-place row.mode r seen fact.place in
      let count : n + 1 + 1 + 1 ≡ row.cycles + (if row.crossing then one_if (has_crossed operand) else 0) + 0 =
      rw (fact.cycles_are, fact.crossing_is) (omega arith) in
      rw (plain, operand_by-read row.mode r seen, changes-used row.operation is) (count, sym (change-placed operand n placed)))

  jmp-lawful : kind_of row.operation ≡ kind.Jmp → IsLawful
  jmp-lawful is =
      found-lawful true [] (λ e. cc) (plain-kind row.operation (λ e. cc)) (jmp-cycles m row r s opcode known is ∙ sym (append-nil _))
      (λ after n seen timed unread.
      let counted = jmp-counted row.mode row (operand_by row.mode r seen) n (rw is at (row_of-expected opcode row known)) timed in
      rw (jmp-is row.operation is) (counted, refl))

  -- ---- no operand in memory
  by_cycles : (cycles : List Cycle) → cycles_of row.operation row.mode ≡ cycles
      → AgreesFrom m row r [] (Under s 1 (opcode_seen opcode)) cycles → IsLawful
  by_cycles cycles e agrees =
      subst (λ (cycles : List Cycle). AgreesFrom m row r [] (Under s 1 (opcode_seen opcode)) cycles) (sym e) agrees

  value-lawful : kind_of row.operation ≡ kind.Read → row.mode ≡ Immediate → IsLawful
  value-lawful is mode =
      let plain = plain-kind row.operation (λ e. cc) in
      let fact = rw (is, mode) at (row_of-expected opcode row known) in
      by_cycles (Fetch ∷ []) (read-cycles row.operation row.mode is ∙ ap reading_cycles mode)
      (fetch-agrees m row r [] s 1 (opcode_seen opcode) [] (none-before row.operation r _ (λ e. cc))
      (λ s low. rw (plain, mode, reads-used row.operation is, fact.0, fact.1) (refl, refl)))

  change_a-lawful : kind_of row.operation ≡ kind.Change → row.mode ≡ Accumulator → IsLawful
  change_a-lawful is mode =
      let plain = plain-kind row.operation (λ e. cc) in
      let fact = rw (is, mode) at (row_of-expected opcode row known) in
      rw (change-cycles row.operation row.mode is, mode, plain, changes-used row.operation is, fact.0, fact.1) (refl, refl)

  implied-lawful : kind_of row.operation ≡ kind.Implied → IsLawful
  implied-lawful is =
      let mode = implied-here m row r s opcode known is in
      let plain = plain-kind row.operation (λ e. cc) in
      let fact = rw (is, mode) at (row_of-expected opcode row known) in
      rw (implied-cycles row.operation row.mode is, mode, plain, implied-used row.operation is, fact.0, fact.1) (refl, refl)

  -- ---- the stack
  push-lawful : kind_of row.operation ≡ kind.Push → IsLawful
  push-lawful is =
      let mode = push-here m row r s opcode known is in
      let plain = plain-kind row.operation (λ e. cc) in
      let fact = rw (is, mode) at (row_of-expected opcode row known) in
      let what = push-is row.operation is in
      rw (what.1.cycles row.mode, mode, plain, what.1.used, fact.0, fact.1) (refl, refl)

  pull-lawful : kind_of row.operation ≡ kind.Pull → IsLawful
  pull-lawful is =
      let mode = pull-here m row r s opcode known is in
      let plain = plain-kind row.operation (λ e. cc) in
      let fact = rw (is, mode) at (row_of-expected opcode row known) in
      rw (pull-cycles row.operation row.mode is, mode, plain, pull-used row.operation is, fact.0, fact.1) (refl, refl)

  rts-lawful : kind_of row.operation ≡ kind.Rts → IsLawful
  rts-lawful is =
      let mode = rts-here m row r s opcode known is in
      let fact = rw (is, mode) at (row_of-expected opcode row known) in
      rw (rts-is row.operation is, mode, fact.0, fact.1) (refl, refl)

  rti-lawful : kind_of row.operation ≡ kind.Rti → IsLawful
  rti-lawful is =
      let mode = rti-here m row r s opcode known is in
      let fact = rw (is, mode) at (row_of-expected opcode row known) in
      rw (rti-is row.operation is, mode, fact.0, fact.1) (refl, refl)

  brk-lawful : kind_of row.operation ≡ kind.Brk → IsLawful
  brk-lawful is =
      let mode = brk-here m row r s opcode known is in
      let fact = rw (is, mode) at (row_of-expected opcode row known) in
      rw (brk-is row.operation is, fact.0, fact.1) (refl, refl)

  -- ---- jumps
  jsr-lawful : kind_of row.operation ≡ kind.Jsr → IsLawful
  jsr-lawful is =
      let mode = jsr-here m row r s opcode known is in
      let op = jsr-is row.operation is in
      let fact = rw (is, mode) at (row_of-expected opcode row known) in
      by_cycles (cycles_of Jsr row.mode) (ap (λ (o : Operation). cycles_of o row.mode) op)
      (fetch-agrees m row r [] s 1 (opcode_seen opcode)
      (Discard Always (Pushed 0) ∷ Write (Pushed 0) (Held ReturnHigh) ∷ Write (Pushed 1) (Held ReturnLow) ∷ Fetch ∷ []) (rw op (first-before r))
      (λ s2 low. fetch-agrees m row r (pushes r 0 ((4, ReturnHigh) ∷ (5, ReturnLow) ∷ [])) (pushed_return m row r s opcode known s2) 5
      (record (opcode_seen opcode) { fetched = opcode ∷ low ∷ [] }) [] (rw op (last-before r))
      (λ s3 high. rw (op, fact.0, fact.1) (refl, refl))))

  branch-lawful : kind_of row.operation ≡ kind.Branch → IsLawful
  branch-lawful is =
      let mode = branch-here m row r s opcode known is in
      let fact = rw (is, mode) at (row_of-expected opcode row known) in
      by_cycles (Fetch ∷ Discard Taken Program ∷ Discard TakenAcross Uncarried ∷ []) (branch-cycles row.operation row.mode is)
      (fetch-agrees m row r [] s 1 (opcode_seen opcode) (Discard Taken Program ∷ Discard TakenAcross Uncarried ∷ [])
      (none-before row.operation r _ (λ e. cc))
      (λ s2 low.
      let seen = record (opcode_seen opcode) { fetched = opcode ∷ low ∷ [] } in
      discard-agrees m row r [] s2 2 seen Taken Program (Discard TakenAcross Uncarried ∷ [])
      (λ s3. discard-agrees m row r [] s3 (2 + one_if (is_taken row.operation r.p)) seen TakenAcross Uncarried []
      (λ s4. (
        rw (fact.0, fact.1) (branch-counted (is_taken row.operation r.p) (has_crossed (operand_seen row r seen))),
        sym (branch-quiet row.operation (operand_seen row r seen) r _ is),
      )))))

  lawful-by : (k : Kind) → kind_of row.operation ≡ k → IsLawful
  lawful-by kind.Read is = reads row.mode refl
    where
      reads : (mode : Mode) → row.mode ≡ mode → IsLawful
      reads Immediate e = value-lawful is e
      reads other e = read-lawful is (λ h. cc)
  lawful-by kind.Store is = store-lawful is
  lawful-by kind.Change is = changes row.mode refl
    where
      changes : (mode : Mode) → row.mode ≡ mode → IsLawful
      changes Accumulator e = change_a-lawful is e
      changes other e = change-lawful is (λ h. cc)
  lawful-by kind.Branch is = branch-lawful is
  lawful-by kind.Implied is = implied-lawful is
  lawful-by kind.Push is = push-lawful is
  lawful-by kind.Pull is = pull-lawful is
  lawful-by kind.Jmp is = jmp-lawful is
  lawful-by kind.Jsr is = jsr-lawful is
  lawful-by kind.Rts is = rts-lawful is
  lawful-by kind.Rti is = rti-lawful is
  lawful-by kind.Brk is = brk-lawful is

  -- The accesses of an instruction are those of mos_cpu's step.
  pub lawful : IsLawful
  lawful = lawful-by (kind_of row.operation) refl
