-- The bytes of an instruction as a bus for the step of the processor. For proofs alone: no public contract
-- names them.
use Rattle.std.specs.Prelude.{ℕ, ◌≡◌, ◌+◌, ◌%◌, ◌==◌, Some, Ok, if◌then◌else◌}
use Rattle.mos_cpu.specs.Buses.{Meaning}
use Rattle.mos_cpu.specs.Execution.{step_of}
use Rattle.mos_cpu.specs.Registers.{Registers}
use Rattle.bus_cycles.specs.declared.held.HeldBus.{HeldBus}
use Rattle.bus_cycles.specs.declared.held.HeldBytes.{HeldBytes}

-- An opcode that was fetched, and nothing else yet.
abbrev pub opcode_held : ℕ → ℕ → HeldBytes
opcode_held at opcode = record {
  at = at;
  opcode = opcode;
  low = 0;
  high = 0;
  place = 0;
  pointer_low = 0;
  pointer_high = 0;
}

-- The bytes of an instruction that has read these.
abbrev pub held_bus : HeldBytes → ℕ → ℕ → ℕ → HeldBus
held_bus held first second third = record {
  held = held;
  first = first;
  second = second;
  third = third;
  last = 0;
  before = 0;
}

-- The bytes of an instruction of two bytes at most, which reads one byte at most.
abbrev pub near_held : ℕ → ℕ → ℕ → ℕ → ℕ → ℕ → HeldBus
near_held at opcode low first last before = record {
  held = record (opcode_held at opcode) { low = low };
  first = first;
  second = 0;
  third = 0;
  last = last;
  before = before;
}

-- The byte of an instruction that is held at an address.
abbrev pub byte_at : HeldBytes → ℕ → ℕ
byte_at held at = if at == held.at then held.opcode else (if at == (held.at + 1) % 65536 then held.low else held.high)

-- The byte of a pointer in page zero.
abbrev pub pointer_at : HeldBytes → ℕ → ℕ
pointer_at held at = if at == held.place then held.pointer_low else held.pointer_high

-- Bytes are looked at where they are, reads give what was read in its order, and the last two bytes that
-- are written are kept.
abbrev pub held_meaning : Meaning HeldBus
held_meaning = record {
  passed = λ bus n. bus;
  read_value = λ bus at. bus.first;
  after_read = λ bus at. record bus { first = bus.second; second = bus.third };
  after_write = λ bus at byte. record bus { before = bus.last; last = byte };
  peeked = λ bus at. Some (byte_at bus.held at);
  peeked_zero = λ bus at. pointer_at bus.held at;
}

-- The processor's step on these bytes answers these cycles, and leaves these registers and bytes.
abbrev pub IsGuideStep : Registers → HeldBus → ℕ → Registers → HeldBus → Type 0
IsGuideStep r bus cycles after left =
    step_of held_meaning r bus ≡ record { answer = Ok cycles; registers = after; bus = left }
