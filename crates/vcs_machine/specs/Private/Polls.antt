-- Loops of two instructions that wait for the timer: a load of A from INTIM or from the flag, and a
-- branch back to it. Rounds of them are passed at once. This project's own, for proofs alone.
use Rattle.std.specs.Prelude.{ℕ, ◌≡◌, ◌+◌, ◌-◌, ◌*◌, ◌/◌, ◌%◌, ◌<◌, ◌≤◌, Bool, true, not, ◌==◌}
use Rattle.std.specs.Prelude.{if◌then◌else◌, List}
use Rattle.mos_cpu.specs.Arithmetic.{load_of}
use Rattle.mos_cpu.specs.Effects.{with_a}
use Rattle.mos_cpu.specs.Registers.{Registers}
use Rattle.mos_cpu.specs.Status.{has_flag}
use Rattle.mos_cpu.specs.declared.operation.Operation.{Operation}
use Rattle.mos_cpu.specs.declared.operation.Operation.TheVariants.{Bne, Beq, Bpl, Bmi}
use Rattle.mos_cpu.specs.declared.status.Flag.TheVariants.{Negative}
use Rattle.riot_map.specs.Bits.{has_bit}
use Rattle.riot_map.specs.Cart.{cart_byte}
use Rattle.riot_map.specs.Place.{place_of}
use Rattle.riot_map.specs.Riot.{RiotState, riot_read, after_cycles}
use Rattle.riot_map.specs.declared.places.Place.TheVariants.{Io}
use Rattle.vcs_machine.specs.Consoles.{Console, passed, read_at}
use Rattle.vcs_machine.specs.Frame.{Machine}
use Rattle.vcs_machine.specs.declared.polls.Branch.{Branch}
use Rattle.vcs_machine.specs.declared.polls.Branch.TheVariants.{IfNotZero, IfZero, IfPlus, IfMinus}
use Rattle.vcs_machine.specs.declared.polls.Poll.{Poll}

-- The operation of a branch, its opcode, and whether it is taken after a load of this value.
abbrev pub operation_of : Branch → Operation
operation_of IfNotZero = Bne
operation_of IfZero = Beq
operation_of IfPlus = Bpl
operation_of IfMinus = Bmi

abbrev pub opcode_of : Branch → ℕ
opcode_of IfNotZero = 0xD0
opcode_of IfZero = 0xF0
opcode_of IfPlus = 0x10
opcode_of IfMinus = 0x30

abbrev pub goes_on : Branch → ℕ → Bool
goes_on IfNotZero value = not (value == 0)
goes_on IfZero value = value == 0
goes_on IfPlus value = not (has_flag Negative value)
goes_on IfMinus value = has_flag Negative value

-- A branch that is taken at a value is taken at each from this one up to it.
abbrev pub least_of : Branch → ℕ
least_of IfNotZero = 1
least_of IfZero = 0
least_of IfPlus = 0
least_of IfMinus = 128

-- Such a loop stands in the selected bank, its branch at this address.
pub record IsPoll (cartridge : List ℕ) (bank pc : ℕ) (poll : Poll) : Type 0 where
  pub word : pc < 65536
  pub high : pc / 4096 % 2 ≡ 1
  pub first : 3 ≤ pc % 4096
  pub last : pc % 4096 ≤ 4093
  pub load : cart_byte cartridge bank (pc - 3) ≡ 0xAD
  pub place : place_of (cart_byte cartridge bank (pc - 2) + 256 * cart_byte cartridge bank (pc - 1)) ≡ Io poll.register
  pub branch : cart_byte cartridge bank pc ≡ opcode_of poll.branch
  pub offset : cart_byte cartridge bank (pc + 1) ≡ 0xFB
  pub timer : has_bit poll.register 2 ≡ true
  pub cycles : poll.cycles ≡ 7 + (if not ((pc + 2) / 256 == (pc - 3) / 256) then 1 else 0)

-- A machine after a load of a register on this bus, and the same after so many cycles, the last of
-- them that of the load.
abbrev pub loaded_at : {S : Type 0} → Registers → ℕ → Console S → ℕ → Machine (Console S)
loaded_at r register bus cycles =
    record { registers = with_a r (load_of (riot_read bus.riot register) r.p); bus = read_at bus (Io register); cycles = cycles }

abbrev pub after_load : {S : Type 0} → (S → ℕ → ℕ → ℕ → S) → ℕ → ℕ → Machine (Console S) → Machine (Console S)
after_load drawn register n m = loaded_at m.registers register (passed drawn m.bus n) (m.cycles + n)

-- Rounds that surely go on: what is loaded in each but the last has the branch taken again.
abbrev pub GoOn : Poll → RiotState → ℕ → Type 0
GoOn poll riot count =
    (k : ℕ) → 0 < k → k < count → goes_on poll.branch (riot_read (after_cycles (poll.cycles * k) riot) poll.register) ≡ true
