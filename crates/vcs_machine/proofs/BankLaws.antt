-- Without banks a frame leaves the bank.
use Rattle.std.proofs.Common.{◌≡◌, ℕ, false, List, [], length, refl, ◌∙◌}
use Rattle.mos_cpu.specs.Buses.{IsInvariant}
use Rattle.riot_map.specs.Cart.{has_banks}
use Rattle.riot_map.specs.Place.{place_of}
use Rattle.riot_map.specs.declared.places.Place.{Place}
use Rattle.riot_map.specs.declared.places.Place.TheVariants.{Cart}
use Rattle.tia_core.specs.Clock.{Pixel}
use Rattle.vcs_machine.specs.Consoles.{Console, meaning_of, read_at, written_at}
use Rattle.vcs_machine.specs.Consoles.{frame_meaning_of, with_pixel_logged}
use Rattle.vcs_machine.specs.Frame.{Machine, machine_at, Stop, Ended}
use Rattle.vcs_machine.specs.Frame.{stop_of}
use Rattle.vcs_machine.specs.Inputs.{InputData}
use Rattle.vcs_machine.specs.Outcomes.{frame_of, outcome_of, machine_of, left_by}
use Rattle.vcs_machine.specs.States.{line_cycle_of}
use Rattle.vcs_machine.specs.declared.fields.StateFields.{StateFields}
use Rattle.vcs_machine.proofs.ConsoleInvariants.{turn-kept}
use Rattle.vcs_machine.proofs.OneStop.{stop_of-keeps}

module _ {S : Type 0} (drawn : S → ℕ → ℕ → ℕ → S) (cartridge : List ℕ) (bank : ℕ) (single : has_banks (length cartridge) ≡ false) where
  -- The cartridge and the bank of a console.
  abbrev Holds : Console S → Type 0
  Holds c = (c.cartridge ≡ cartridge) × (c.bank ≡ bank)

  read_at-holds : (c : Console S) (place : Place) → Holds c → Holds (read_at c place)
  read_at-holds c (Cart address) h = (h.0, rw (h.0, single) h.1)
  read_at-holds c other h = h

  written_at-holds : (c : Console S) (place : Place) (v : ℕ) → Holds c → Holds (written_at c place v)
  written_at-holds c (Cart address) v h = (h.0, rw (h.0, single) h.1)
  written_at-holds c other v h = h

  is_held : IsInvariant (meaning_of drawn) Holds
  unfolding meaning_of
  is_held = record {
    passed = λ c n h. h;
    read = λ c address h. read_at-holds c (place_of address) h;
    written = λ c address v h. written_at-holds c (place_of address) v h;
  }

  stop-holds : (m : Machine (Console S)) → Holds m.bus → Holds (machine_at (stop_of (frame_meaning_of drawn) m)).bus
  stop-holds = stop_of-keeps (frame_meaning_of drawn) (λ m. Holds m.bus) (λ m next h short. turn-kept drawn Holds is_held (λ c h. h) m next h)

outcome-bank : (line_cycle : ℕ) (stop : Stop (Console (List Pixel))) → (left_by (outcome_of line_cycle stop)).bank ≡ (machine_at stop).bus.bank
outcome-bank line_cycle (Ended m) = refl
outcome-bank line_cycle other = refl

pub frame_of-bank : (cartridge : List ℕ) (s : StateFields) (i : InputData) → has_banks (length cartridge) ≡ false → (left_by (frame_of cartridge s i)).bank ≡ s.bank
unfolding frame_of
frame_of-bank cartridge s i single =
    let stop = stop_of (frame_meaning_of with_pixel_logged) (machine_of cartridge s i []) in
    outcome-bank (line_cycle_of s) stop
    ∙ (stop-holds with_pixel_logged cartridge s.bank single (machine_of cartridge s i []) (refl, refl)).1
