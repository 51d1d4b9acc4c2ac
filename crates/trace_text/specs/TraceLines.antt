-- The line of an instruction in a trace. This project's own.
use Rattle.std.specs.Prelude.{ℕ, Bool, true, List, [], ◌∷◌, ◌++◌, codes, slice_index, if◌then◌else◌}
use Rattle.std.specs.Prelude.{Option, Some, None}
use Rattle.std.specs.Fmt.{decimal, digits}
use Rattle.std.specs.List.{flat_map}
use Rattle.mos_cpu.specs.Opcodes.{row_of}
use Rattle.mos_cpu.specs.Registers.{Registers}
use Rattle.mos_cpu.specs.declared.opcode_row.Row.{Row}
use Rattle.vcs_machine.specs.Faults.{hex2, hex4}
use Rattle.movie_machine.specs.Instructions.{ExecutedData}
use Rattle.vcs_machine.specs.declared.executed.DataAccess.{DataAccess}
use Rattle.trace_text.specs.Assembly.{mnemonic, operand_text}
use Rattle.trace_text.specs.Columns.{left, right}

-- Bytes with a space between.
abbrev pub spaced : List ℕ → List ℕ
spaced [] = []
spaced (byte ∷ more) = hex2 byte ++ flat_map (λ next. codes " " ++ hex2 next) more

-- The instruction's bytes in 8 columns, and the instruction as an assembler has it in 11, of which
-- the name and a blank are 4. A byte that is no documented opcode has neither: it is not executed.
abbrev pub code_text : ℕ → List ℕ → Option Row → List ℕ
code_text pc code None = []
code_text pc code (Some row) =
    left 8 (spaced code) ++ (codes "  "
    ++ (mnemonic row.operation ++ (codes " " ++ left 7 (operand_text row.mode pc (slice_index code 1) (slice_index code 2)))))

-- The registers.
abbrev pub registers_text : Registers → List ℕ
registers_text r =
    codes "A=" ++ (hex2 r.a ++ (codes " X=" ++ (hex2 r.x ++ (codes " Y=" ++ (hex2 r.y
    ++ (codes " S=" ++ (hex2 r.s ++ (codes " P=" ++ hex2 r.p))))))))

-- The selected banks, of a cartridge that has some, in capital hexadecimal digits, with a point between.
abbrev pub banks_text : List ℕ → List ℕ
banks_text [] = []
banks_text (bank ∷ more) = codes " B=" ++ (digits 16 true bank ++ flat_map (λ next. codes "." ++ digits 16 true next) more)

-- A data access.
abbrev pub verb : Bool → List ℕ
verb is_write = if is_write then codes "write" else codes "read"

abbrev pub access_text : DataAccess → List ℕ
access_text a = codes "  " ++ (verb a.is_write ++ (codes " " ++ (hex4 a.address ++ (codes " " ++ hex2 a.byte))))

-- Where the beam is: the scanline, and the cycle of it.
abbrev pub beam_text : ℕ → ℕ → List ℕ
beam_text line cycle = right 3 (decimal line) ++ (codes " " ++ right 2 (decimal cycle))

-- The line without the accesses. All of it is as before the instruction.
abbrev pub instruction_text : ExecutedData → List ℕ
instruction_text e =
    beam_text e.line e.cycle ++ (codes "  " ++ (hex4 e.registers.pc ++ (codes "  "
    ++ (code_text e.registers.pc e.code (row_of (slice_index e.code 0)) ++ (codes "  "
    ++ (registers_text e.registers ++ banks_text e.banks))))))

-- The line, with its end.
abbrev pub trace_line : ExecutedData → List ℕ
trace_line e = instruction_text e ++ (flat_map access_text e.accesses ++ 10 ∷ [])
