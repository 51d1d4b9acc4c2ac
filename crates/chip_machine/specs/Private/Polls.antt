-- Loops of two instructions that wait for the timer: one reads INTIM or the timer's flag, and a branch
-- leads back to it. Rounds of them are passed at once. This project's own, for proofs alone.
use Rattle.std.specs.Prelude.{ℕ, ◌≡◌, ◌+◌, ◌-◌, ◌*◌, ◌/◌, ◌%◌, ◌<◌, ◌≤◌, Bool, true, false, not, ◌==◌}
use Rattle.std.specs.Fn.{iterate}
use Rattle.record_table.specs.Bits.{has_bit}
use Rattle.cart_board.specs.CartState.{CartState}
use Rattle.cart_board.specs.Plain.{SelectsNothing, ShowsRom}
use Rattle.mos_cpu.specs.Arithmetic.{bit_of, load_of}
use Rattle.mos_cpu.specs.Effects.{with_a, with_p, with_x, with_y}
use Rattle.mos_cpu.specs.Registers.{Registers}
use Rattle.mos_cpu.specs.Status.{has_flag}
use Rattle.mos_cpu.specs.declared.operation.Operation.{Operation}
use Rattle.mos_cpu.specs.declared.operation.Operation.TheVariants.{Beq, Bmi, Bne, Bpl}
use Rattle.mos_cpu.specs.declared.status.Flag.TheVariants.{Negative}
use Rattle.riot_chip.specs.Riot.{RiotState, riot_read}
use Rattle.riot_chip.specs.Timer.{TimerState, after_step, timer_read}
use Rattle.riot_map.specs.Place.{place_of}
use Rattle.riot_map.specs.declared.places.Place.TheVariants.{Io}
use Rattle.chip_machine.specs.Consoles.{read_at}
use Rattle.chip_machine.specs.Frame.{Machine}
use Rattle.chip_machine.specs.Private.Lag.{after_cycles}
use Rattle.chip_machine.specs.declared.polls.Branch.{Branch}
use Rattle.chip_machine.specs.declared.polls.Branch.TheVariants.{IfMinus, IfNotZero, IfPlus, IfZero}
use Rattle.chip_machine.specs.declared.polls.Poll.{Poll}
use Rattle.chip_machine.specs.declared.polls.Reader.{Reader}
use Rattle.chip_machine.specs.declared.polls.Reader.TheVariants.{Bit, Lda, Ldx, Ldy}

-- ---- the instruction that reads: its opcode, and the registers after it has read a byte

abbrev pub reader_opcode : Reader → ℕ
reader_opcode Lda = 0xAD
reader_opcode Ldx = 0xAE
reader_opcode Ldy = 0xAC
reader_opcode Bit = 0x2C

abbrev pub after_reader : Reader → ℕ → Registers → Registers
after_reader Lda byte r = with_a r (load_of byte r.p)
after_reader Ldx byte r = with_x r (load_of byte r.p)
after_reader Ldy byte r = with_y r (load_of byte r.p)
after_reader Bit byte r = with_p r (bit_of r.a byte r.p).p

-- ---- the branch: its opcode and its operation

abbrev pub branch_opcode : Branch → ℕ
branch_opcode IfNotZero = 0xD0
branch_opcode IfZero = 0xF0
branch_opcode IfPlus = 0x10
branch_opcode IfMinus = 0x30

abbrev pub operation_of : Branch → Operation
operation_of IfNotZero = Bne
operation_of IfZero = Beq
operation_of IfPlus = Bpl
operation_of IfMinus = Bmi

-- ---- the loop

-- Whether it goes on after a read of this byte.
abbrev pub goes_on : Branch → ℕ → Bool
goes_on IfNotZero byte = not (byte == 0)
goes_on IfZero byte = byte == 0
goes_on IfPlus byte = not (has_flag Negative byte)
goes_on IfMinus byte = has_flag Negative byte

-- Whether the byte tells that by itself. After BIT Z depends on A too, and a byte other than 0 says nothing
-- of it.
abbrev pub is_told : Reader → Branch → Bool
is_told Bit IfNotZero = false
is_told reader branch = true

-- A loop that goes on after a read of a byte does so after that of each byte from this one up to it.
abbrev pub least_of : Branch → ℕ
least_of IfNotZero = 1
least_of IfZero = 0
least_of IfPlus = 0
least_of IfMinus = 128

-- Such a loop stands in ROM, its branch at this address, and its accesses select nothing.
pub record IsPoll (cart : CartState) (pc : ℕ) (poll : Poll) : Type 0 where
  pub word : pc < 65536
  pub cartridge : pc / 4096 % 2 ≡ 1
  pub first : 3 ≤ pc % 256
  pub last : pc % 256 ≤ 253
  pub reader : ShowsRom cart (pc - 3) (reader_opcode poll.reader)
  pub low : ShowsRom cart (pc - 2) poll.low
  pub high : ShowsRom cart (pc - 1) poll.high
  pub branch : ShowsRom cart pc (branch_opcode poll.branch)
  pub offset : ShowsRom cart (pc + 1) 0xFB
  pub after : ShowsRom cart (pc + 2) poll.after
  pub told : is_told poll.reader poll.branch ≡ true
  pub selects : SelectsNothing cart (poll.low + 256 * poll.high)
  pub place : place_of (poll.low + 256 * poll.high) ≡ Io poll.register
  pub timer : has_bit poll.register 2 ≡ true

-- ---- its rounds

-- The loop goes on after a read of the timer, and zero is ahead, so that the read changes nothing. Past zero
-- a read of INTIM brings the interval back (but for one cycle in 256), so that what the next one shows
-- depends on when it was: rounds past zero aren't passed at once.
pub record GoesOnAt (poll : Poll) (timer : TimerState) : Type 0 where
  pub ahead : timer.flag ≡ false
  pub on : goes_on poll.branch (timer_read timer poll.register) ≡ true

-- Rounds that surely go on: after the read of each but the last.
abbrev pub GoOn : Poll → RiotState → ℕ → Type 0
GoOn poll riot count = (k : ℕ) → 0 < k → k < count → GoesOnAt poll (iterate after_step (7 * k) riot.timer)

-- A machine after a read of a register of the RIOT, so many cycles later.
abbrev pub after_look : {S : Type 0} → (S → ℕ → ℕ → ℕ → S) → Poll → ℕ → Machine S → Machine S
after_look drawn poll n m =
    let there = after_cycles drawn n m.console in
    let byte = riot_read there.riot poll.register in
    record {
      registers = after_reader poll.reader byte m.registers;
      console = record (read_at there (Io poll.register)) { byte = byte };
    }
