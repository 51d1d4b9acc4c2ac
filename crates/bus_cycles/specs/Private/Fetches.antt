-- What the bytes of a program are, as they are fetched one after the other. For proofs alone: no public
-- contract names it.
use Rattle.std.specs.Prelude.{ℕ, ◌≡◌, true, false, Result, Ok, Err}
use Rattle.mos_cpu.specs.declared.fault.CpuFault.{CpuFault}
use Rattle.mos_cpu.specs.declared.fault.CpuFault.TheVariants.{FetchOutside}
use Rattle.bus_cycles.specs.Buses.{Meaning}
use Rattle.bus_cycles.specs.declared.bus.Purpose.TheVariants.{Code}

-- A byte that was fetched, and the bus after it.
pub record IsFetched {S : Type 0} (m : Meaning S) (s : S) (at byte : ℕ) (after : S) : Type 0 where
  pub holds : m.holds_code s at ≡ true
  pub byte_is : byte ≡ m.read_value s at
  pub bus : after ≡ m.after_read s Code at

-- A byte that can't be fetched.
pub record IsOutside {S : Type 0} (m : Meaning S) (s : S) (at : ℕ) (fault : CpuFault) (after : S) : Type 0 where
  pub outside : m.holds_code s at ≡ false
  pub fault_is : fault ≡ FetchOutside at
  pub bus : after ≡ s

abbrev pub IsFetch : {S : Type 0} → Meaning S → S → ℕ → Result ℕ CpuFault → S → Type 0
IsFetch m s at (Ok byte) after = IsFetched m s at byte after
IsFetch m s at (Err fault) after = IsOutside m s at fault after
