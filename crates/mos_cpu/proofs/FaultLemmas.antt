-- The bytes for which an instruction has a fault.
use Rattle.std.proofs.Common.{◌≡◌, ℕ, ◌+◌, ◌*◌, ◌%◌, true, false, Option, Some, None, Result, Ok, Err}
use Rattle.std.proofs.Common.{refl}
use Rattle.std.specs.Prelude.{IsErr}
use Rattle.mos_cpu.specs.Buses.{Meaning}
use Rattle.mos_cpu.specs.Opcodes.{row_of}
use Rattle.mos_cpu.specs.Operands.{Operand, and_then, instruction_word, next_in_page_of, operand_by_mode}
use Rattle.mos_cpu.specs.Operands.{takes_vector, instruction_at}
use Rattle.mos_cpu.specs.Registers.{Registers}
use Rattle.mos_cpu.specs.Private.OpcodeRuns.{row_here, undocumented, fault_by}
use Rattle.mos_cpu.specs.declared.fault.CpuFault.{CpuFault}
use Rattle.mos_cpu.specs.declared.fault.CpuFault.TheVariants.{FetchOutside}
use Rattle.mos_cpu.specs.declared.opcode_row.Row.{Row}
use Rattle.mos_cpu.specs.declared.mode.Mode.{Mode}
use Rattle.mos_cpu.specs.declared.mode.Mode.TheVariants.{Implied, Accumulator, Absolute, AbsoluteX, AbsoluteY, Indirect}

-- A chain whose last step gives a value has its fault before that step.
first-err : {T U : Type 0} (x : Result T CpuFault) (f : T → U) → IsErr (and_then x (λ t. Ok (f t))) → IsErr x
first-err (Ok t) f err = cc
first-err (Err fault) f err = refl

module _ {S : Type 0} (m : Meaning S) (s : S) (r : Registers) where
  -- The instruction has a fault that names this address.
  abbrev IsFaultAt : ℕ → Type 0
  IsFaultAt at = instruction_at m s r ≡ Err (fault_by (undocumented (row_here m s r)) at)

  pub opcode-fault : (at : ℕ) → at ≡ r.pc → m.peeked s at ≡ None → IsFaultAt at
  opcode-fault at is none = let gone = rw is at none in rw (is, gone) refl

  pub unknown-fault : (opcode at : ℕ) → at ≡ r.pc → m.peeked s at ≡ Some opcode → ◌≡◌ {A = Option Row} (row_of opcode) None
      → IsFaultAt at
  unknown-fault opcode at is e absent = let there = rw is at e in rw (is, there, absent) refl

  -- A mode with a fault has it at the first byte after the opcode that isn't there.
  mode-low : (mode : Mode) → m.peeked s ((r.pc + 1) % 65536) ≡ None → IsErr (operand_by_mode m s r mode)
      → ◌≡◌ {A = Result Operand CpuFault} (operand_by_mode m s r mode) (Err (FetchOutside ((r.pc + 1) % 65536)))
  mode-low Implied none err = cc
  mode-low Accumulator none err = cc
  mode-low other none err = rw none refl

  module _ (low : ℕ) (e : m.peeked s ((r.pc + 1) % 65536) ≡ Some low) where
    mode-high : (mode : Mode) → m.peeked s ((r.pc + 2) % 65536) ≡ None → IsErr (operand_by_mode m s r mode)
        → ◌≡◌ {A = Result Operand CpuFault} (operand_by_mode m s r mode) (Err (FetchOutside ((r.pc + 2) % 65536)))
    mode-high Absolute none err = rw (e, none) refl
    mode-high AbsoluteX none err = rw (e, none) refl
    mode-high AbsoluteY none err = rw (e, none) refl
    mode-high Indirect none err = rw (e, none) refl
    mode-high Implied none err = cc
    mode-high Accumulator none err = cc
    mode-high other none err = let wrong = rw e at err in cc

    -- Only the indirect mode may meet a fault if both bytes after the opcode are there.
    only_indirect : (mode : Mode) (high : ℕ) → m.peeked s ((r.pc + 2) % 65536) ≡ Some high
        → IsErr (operand_by_mode m s r mode) → mode ≡ Indirect
    only_indirect Indirect high f err = refl
    only_indirect Absolute high f err = let wrong = rw (e, f) at err in cc
    only_indirect AbsoluteX high f err = let wrong = rw (e, f) at err in cc
    only_indirect AbsoluteY high f err = let wrong = rw (e, f) at err in cc
    only_indirect Implied high f err = cc
    only_indirect Accumulator high f err = cc
    only_indirect other high f err = let wrong = rw e at err in cc

  module _ (opcode : ℕ) (row : Row) (there : m.peeked s r.pc ≡ Some opcode)
      (found : ◌≡◌ {A = Option Row} (row_of opcode) (Some row)) (err : IsErr (instruction_at m s r)) where
    pub vector-outside : takes_vector row.operation ≡ true → IsErr (instruction_word m s 65534 65535)
    vector-outside takes = first-err _ _ (first-err _ _ (rw (there, found, takes) at err))

    pub vector-fault : (at : ℕ) → takes_vector row.operation ≡ true → instruction_word m s 65534 65535 ≡ Err (FetchOutside at)
        → IsFaultAt at
    vector-fault at takes outside = rw (there, found, takes, outside) refl

    module _ (plain : takes_vector row.operation ≡ false) where
      operand-outside : IsErr (operand_by_mode m s r row.mode)
      operand-outside = first-err _ _ (rw (there, found, plain) at err)

      pub low-fault : (at : ℕ) → at ≡ (r.pc + 1) % 65536 → m.peeked s at ≡ None → IsFaultAt at
      low-fault at is none =
          let gone = rw is at none in
          rw (is, there, found, plain, mode-low row.mode gone operand-outside) refl

      module _ (low : ℕ) (e : m.peeked s ((r.pc + 1) % 65536) ≡ Some low) where
        pub high-fault : (at : ℕ) → at ≡ (r.pc + 2) % 65536 → m.peeked s at ≡ None → IsFaultAt at
        high-fault at is none =
            let gone = rw is at none in
            rw (is, there, found, plain, mode-high low e row.mode gone operand-outside) refl

        module _ (high pointer next : ℕ) (f : m.peeked s ((r.pc + 2) % 65536) ≡ Some high)
            (is : low + 256 * high ≡ pointer) (after : next_in_page_of pointer ≡ next) where
          indirect : row.mode ≡ Indirect
          indirect = only_indirect low e row.mode high f operand-outside

          -- If both bytes after the opcode are there, one of a pointer isn't.
          pub pointer-outside : IsErr (instruction_word m s pointer next)
          pointer-outside = first-err _ _ (rw (indirect, e, f, is, after) at operand-outside)

          pub pointer-fault : (at : ℕ) → instruction_word m s pointer next ≡ Err (FetchOutside at) → IsFaultAt at
          pointer-fault at outside = rw (there, found, plain, indirect, e, f, is, after, outside) refl
