-- A bus that lists its accesses does what the bus below does.
use Rattle.std.proofs.Common.{◌≡◌, ℕ, refl}
use Rattle.bus_cycles.specs.Buses.{Meaning}
use Rattle.bus_cycles.specs.Execution.{step_of}
use Rattle.bus_cycles.specs.declared.bus.Purpose.{Purpose}
use Rattle.bus_cycles.specs.declared.bus.Purpose.TheVariants.{Code, Pointer, Data, Discarded}
use Rattle.mos_cpu.specs.Execution.{map_step}
use Rattle.mos_cpu.specs.Registers.{Registers}
use Rattle.chip_machine.specs.Instructions.{Listed, listing, with_read}
use Rattle.chip_machine.proofs.AlongBuses.{Respects, step_of-along}

with_read-bus : {B : Type 0} (purpose : Purpose) (address byte : ℕ) (l : Listed B) → l.bus ≡ (with_read purpose address byte l).bus
with_read-bus Code address byte l = refl
with_read-bus Data address byte l = refl
with_read-bus Pointer address byte l = refl
with_read-bus Discarded address byte l = refl

module _ {B : Type 0} (m : Meaning B) where
  listing-respects : Respects (listing m) m (λ (l : Listed B). l.bus)
  unfolding listing
  listing-respects = record {
    holds_code = λ l at. refl;
    read_value = λ l at. refl;
    after_read = λ l purpose at. with_read-bus purpose at (m.read_value l.bus at) (record l { bus = m.after_read l.bus purpose at });
    after_write = λ l at byte. refl;
  }

  -- What an instruction answers and leaves on the bus below.
  pub listed-below : (r : Registers) (l : Listed B) → step_of m r l.bus ≡ map_step (λ (l : Listed B). l.bus) (step_of (listing m) r l)
  listed-below r l = step_of-along (listing m) m (λ (l : Listed B). l.bus) listing-respects r l
