-- What a bus is to a processor that accesses it in each cycle. The form is this project's own.
use Rattle.std.specs.Prelude.{ℕ, ◌≡◌, ◌+◌, ◌%◌, Bool, true}
use Rattle.bus_cycles.specs.declared.bus.Purpose.{Purpose}
use Rattle.bus_cycles.specs.declared.bus.Purpose.TheVariants.{Code}

-- What the calls of a bus do to its state, and answer. A read and a write are one cycle each; whether
-- code can be fetched from an address is asked in none.
pub record Meaning (S : Type 0) : Type 0 where
  -- whether a byte of an instruction can be fetched from an address
  pub holds_code : S → ℕ → Bool
  pub read_value : S → ℕ → ℕ
  pub after_read : S → Purpose → ℕ → S
  pub after_write : S → ℕ → ℕ → S

-- The bytes at an address and at the one after it, as two fetches would find them.
pub record AtHand {S : Type 0} (m : Meaning S) (s : S) (at first second : ℕ) : Type 0 where
  pub holds_first : m.holds_code s at ≡ true
  pub first_is : first ≡ m.read_value s at
  pub holds_second : m.holds_code (m.after_read s Code at) ((at + 1) % 65536) ≡ true
  pub second_is : second ≡ m.read_value (m.after_read s Code at) ((at + 1) % 65536)
