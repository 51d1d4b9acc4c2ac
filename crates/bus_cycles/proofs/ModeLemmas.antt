-- What holds of the operand of each mode.
use Rattle.std.proofs.Common.{◌≡◌, ℕ, ◌+◌, ◌%◌, true, List, [], Result, Ok, refl, arith}
use Rattle.std.proofs.lemmas.Bool.Decides.{nat_tests}
use Rattle.mos_cpu.specs.Accesses.{has_crossed}
use Rattle.mos_cpu.specs.Effects.{target_of}
use Rattle.mos_cpu.specs.Operands.{Operand, Place, operand_by_mode}
use Rattle.mos_cpu.specs.Registers.{Registers}
use Rattle.mos_cpu.specs.declared.fault.CpuFault.{CpuFault}
use Rattle.mos_cpu.specs.declared.mode.Mode.{Mode}
use Rattle.mos_cpu.specs.declared.mode.Mode.TheVariants.{Implied, Accumulator, Immediate, ZeroPage, ZeroPageX, ZeroPageY}
use Rattle.mos_cpu.specs.declared.mode.Mode.TheVariants.{Absolute, AbsoluteX, AbsoluteY, Relative, Indirect, IndirectX, IndirectY}
use Rattle.bus_cycles.specs.Addresses.{Seen, operand_by}
use Rattle.bus_cycles.specs.Private.Found.{seen_by, is_place, IsPlaced}
use Rattle.bus_cycles.specs.Private.Held.{byte_at, pointer_at, held_meaning}
use Rattle.bus_cycles.specs.declared.held.HeldBus.{HeldBus}
use Rattle.bus_cycles.specs.declared.held.HeldBytes.{HeldBytes}

pub seen_by-read : (mode : Mode) (held : HeldBytes) → (seen_by mode held).read ≡ []
seen_by-read Implied held = refl
seen_by-read other held = refl

-- What was read is no part of an operand.
pub operand_by-read : (mode : Mode) (r : Registers) (seen : Seen) (bytes : List ℕ)
    → operand_by mode r (record seen { read = bytes }) ≡ operand_by mode r seen
operand_by-read Implied r seen bytes = refl
operand_by-read other r seen bytes = refl

pub operand_by-place : (mode : Mode) (r : Registers) (seen : Seen) → is_place mode ≡ true
    → operand_by mode r seen ≡ Place (target_of (operand_by mode r seen)) (has_crossed (operand_by mode r seen))
operand_by-place Implied r seen e = cc
operand_by-place Accumulator r seen e = cc
operand_by-place Immediate r seen e = cc
operand_by-place Relative r seen e = cc
operand_by-place Indirect r seen e = cc
operand_by-place other r seen e = refl

-- The bytes that are held where they are looked at.
module _ (held : HeldBytes) (r : Registers) (here : held.at ≡ r.pc) where
  pub opcode-at : byte_at held r.pc ≡ held.opcode
  opcode-at = rw here (grind (arith, nat_tests))

  pub low-at : byte_at held ((r.pc + 1) % 65536) ≡ held.low
  low-at = rw here (grind (arith, nat_tests))

  pub high-at : byte_at held ((r.pc + 2) % 65536) ≡ held.high
  high-at = rw here (grind (arith, nat_tests))

pub pointer-low : (held : HeldBytes) → pointer_at held held.place ≡ held.pointer_low
pointer-low held = grind (arith, nat_tests)

pub pointer-high : (held : HeldBytes) → pointer_at held ((held.place + 1) % 256) ≡ held.pointer_high
pointer-high held = grind (arith, nat_tests)

-- The processor's step finds the same operand on the bytes that are held.
pub named-held : (mode : Mode) (bus : HeldBus) (r : Registers) → bus.held.at ≡ r.pc → IsPlaced mode r bus.held → is_place mode ≡ true
    → ◌≡◌ {A = Result Operand CpuFault} (operand_by_mode held_meaning bus r mode) (Ok (operand_by mode r (seen_by mode bus.held)))
named-held ZeroPage bus r here placed e = rw (low-at bus.held r here) refl
named-held ZeroPageX bus r here placed e = rw (low-at bus.held r here) refl
named-held ZeroPageY bus r here placed e = rw (low-at bus.held r here) refl
named-held Absolute bus r here placed e = rw (low-at bus.held r here, high-at bus.held r here) refl
named-held AbsoluteX bus r here placed e = rw (low-at bus.held r here, high-at bus.held r here) refl
named-held AbsoluteY bus r here placed e = rw (low-at bus.held r here, high-at bus.held r here) refl
named-held IndirectX bus r here placed e =
    rw (low-at bus.held r here, ← placed, pointer-low bus.held, pointer-high bus.held) refl
named-held IndirectY bus r here placed e =
    rw (low-at bus.held r here, ← placed, pointer-low bus.held, pointer-high bus.held) refl
named-held Implied bus r here placed e = cc
named-held Accumulator bus r here placed e = cc
named-held Immediate bus r here placed e = cc
named-held Relative bus r here placed e = cc
named-held Indirect bus r here placed e = cc
