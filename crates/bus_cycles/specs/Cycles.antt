-- The table of bus cycles: which address each cycle of an instruction drives, and what its access is
-- for. Its rows are those of the MOS MCS6500 hardware manual (summary of single cycle execution).
-- That consoles make all of these accesses was measured in Stella 6.7.
use Rattle.std.specs.Prelude.{ℕ, List, [], ◌∷◌, ◌++◌}
use Rattle.mos_cpu.specs.Accesses.{Use, Nothing, Branches, Reads, Stores, Modifies, Pushes, Pulls, use_of}
use Rattle.mos_cpu.specs.Accesses.{StoredByte, RegisterA, RegisterP, ReturnHigh, ReturnLow}
use Rattle.mos_cpu.specs.declared.mode.Mode.{Mode}
use Rattle.mos_cpu.specs.declared.mode.Mode.TheVariants.{Implied, Accumulator, Immediate, ZeroPage, ZeroPageX, ZeroPageY}
use Rattle.mos_cpu.specs.declared.mode.Mode.TheVariants.{Absolute, AbsoluteX, AbsoluteY, Relative, Indirect, IndirectX, IndirectY}
use Rattle.mos_cpu.specs.declared.operation.Operation.{Operation}
use Rattle.mos_cpu.specs.declared.operation.Operation.TheVariants.{Brk, Jmp, Jsr, Pha, Php, Pla, Plp, Rti, Rts}

-- An address that a cycle drives.
pub data Lines : Type 0 where
  -- that of the program's byte after those that were fetched
  Program : Lines
  -- the byte after the opcode, as a place in page zero
  Zero : Lines
  -- those of the two bytes of a pointer, or of the interrupt vector
  PointerLow : Lines
  PointerHigh : Lines
  -- where the operand is, or where a branch leads
  Effective : Lines
  -- the same before the carry into its high byte: in the page that indexing or the branch began in
  Uncarried : Lines
  -- the stack after so many pushes, or so many pulls
  Pushed : ℕ → Lines
  Pulled : ℕ → Lines
  -- the address that was pulled
  Returned : Lines

-- Whether a cycle is made.
pub data When : Type 0 where
  Always : When
  -- if the operand is on another page than the address that was indexed
  Across : When
  -- if the branch is taken
  Taken : When
  -- if the branch is taken, to another page than the next instruction's
  TakenAcross : When

-- What a cycle writes.
pub data Source : Type 0 where
  Held : StoredByte → Source
  -- the byte that was read
  Loaded : Source
  -- what the operation makes of the byte that was read
  Changed : Source

-- The access of a cycle.
pub data Cycle : Type 0 where
  -- the next byte of the program is fetched
  Fetch : Cycle
  -- a byte is read and thrown away
  Discard : When → Lines → Cycle
  -- a byte of a pointer or of the interrupt vector is read
  Point : Lines → Cycle
  -- what the instruction reads or pulls
  Read : Lines → Cycle
  -- what it writes or pushes
  Write : Lines → Source → Cycle

-- The cycles that find where an operand is. An index is added without a carry first: a read looks
-- there only if that was wrong, a store and a change always.
abbrev pub address_cycles : When → Mode → List Cycle
address_cycles when ZeroPage = Fetch ∷ []
address_cycles when ZeroPageX = Fetch ∷ Discard Always Zero ∷ []
address_cycles when ZeroPageY = Fetch ∷ Discard Always Zero ∷ []
address_cycles when Absolute = Fetch ∷ Fetch ∷ []
address_cycles when AbsoluteX = Fetch ∷ Fetch ∷ Discard when Uncarried ∷ []
address_cycles when AbsoluteY = Fetch ∷ Fetch ∷ Discard when Uncarried ∷ []
address_cycles when IndirectX = Fetch ∷ Discard Always Zero ∷ Point PointerLow ∷ Point PointerHigh ∷ []
address_cycles when IndirectY = Fetch ∷ Point PointerLow ∷ Point PointerHigh ∷ Discard when Uncarried ∷ []
address_cycles when Indirect = Fetch ∷ Fetch ∷ Point PointerLow ∷ Point PointerHigh ∷ []
address_cycles when Immediate = Fetch ∷ []
address_cycles when Relative = Fetch ∷ []
address_cycles when Implied = Discard Always Program ∷ []
address_cycles when Accumulator = Discard Always Program ∷ []

-- An operand that is read: the byte after the opcode, or one in memory.
abbrev pub reading_cycles : Mode → List Cycle
reading_cycles Immediate = Fetch ∷ []
reading_cycles mode = address_cycles Across mode ++ Read Effective ∷ []

-- An operand that is changed: in A, or in memory, where it is written back as it was first.
abbrev pub changing_cycles : Mode → List Cycle
changing_cycles Accumulator = Discard Always Program ∷ []
changing_cycles mode = address_cycles Always mode ++ Read Effective ∷ Write Effective Loaded ∷ Write Effective Changed ∷ []

-- The cycles of instructions that are alike in how they use memory. Those of the stack aren't.
abbrev pub cycles_by : Use → Mode → List Cycle
cycles_by Reads mode = reading_cycles mode
cycles_by (Stores what) mode = address_cycles Always mode ++ Write Effective (Held what) ∷ []
cycles_by (Modifies change) mode = changing_cycles mode
cycles_by (Branches flag on) mode = Fetch ∷ Discard Taken Program ∷ Discard TakenAcross Uncarried ∷ []
cycles_by Nothing mode = address_cycles Always mode
cycles_by (Pushes held) mode = []
cycles_by (Pulls pulled) mode = []

-- The cycles of an instruction after its first, in which its opcode is fetched.
abbrev pub cycles_of : Operation → Mode → List Cycle
cycles_of Pha mode = Discard Always Program ∷ Write (Pushed 0) (Held RegisterA) ∷ []
cycles_of Php mode = Discard Always Program ∷ Write (Pushed 0) (Held RegisterP) ∷ []
cycles_of Pla mode = Discard Always Program ∷ Discard Always (Pulled 0) ∷ Read (Pulled 1) ∷ []
cycles_of Plp mode = Discard Always Program ∷ Discard Always (Pulled 0) ∷ Read (Pulled 1) ∷ []
cycles_of Jsr mode =
    Fetch ∷ Discard Always (Pushed 0) ∷ Write (Pushed 0) (Held ReturnHigh) ∷ Write (Pushed 1) (Held ReturnLow) ∷ Fetch ∷ []
cycles_of Rts mode =
    Discard Always Program ∷ Discard Always (Pulled 0) ∷ Read (Pulled 1) ∷ Read (Pulled 2) ∷ Discard Always Returned ∷ []
cycles_of Rti mode =
    Discard Always Program ∷ Discard Always (Pulled 0) ∷ Read (Pulled 1) ∷ Read (Pulled 2) ∷ Read (Pulled 3) ∷ []
cycles_of Brk mode =
    Discard Always Program ∷ Write (Pushed 0) (Held ReturnHigh) ∷ Write (Pushed 1) (Held ReturnLow)
    ∷ Write (Pushed 2) (Held RegisterP) ∷ Point PointerLow ∷ Point PointerHigh ∷ []
cycles_of Jmp mode = address_cycles Always mode
cycles_of operation mode = cycles_by (use_of operation) mode
