-- A console that draws on a sink does what one does that lists its pixels.
use Rattle.std.proofs.Common.{◌≡◌, ℕ, ◌*◌, false, List, [], ◌∷◌, ◌++◌, refl, sym, ap}
use Rattle.std.proofs.Common.{◌∙◌, append_assoc, append-nil, inl, inr}
use Rattle.std.proofs.lemmas.Bool.{cases_Bool}
use Rattle.mos_cpu.specs.Buses.{Respects}
use Rattle.riot_map.specs.Place.{place_of}
use Rattle.riot_map.specs.declared.places.Place.{Place}
use Rattle.riot_map.specs.declared.places.Place.TheVariants.{Cart}
use Rattle.tia_core.specs.Clock.{Pixel, sink_after_pixels, pixels}
use Rattle.tia_core.proofs.ClockLemmas.{painted-append}
use Rattle.vcs_machine.specs.Faults.{stop_with}
use Rattle.vcs_machine.specs.Inputs.{InputData}
use Rattle.vcs_machine.specs.Outcomes.{machine_of, state_left, PlaysOn, Halts}
use Rattle.vcs_machine.specs.declared.fault.FaultKind.{FaultKind}
use Rattle.vcs_machine.specs.declared.fault.FaultKind.TheVariants.{BadOpcode}
use Rattle.vcs_machine.specs.declared.fields.StateFields.{StateFields}
use Rattle.vcs_machine.proofs.AlongBuses.{stop_of-along}
use Rattle.vcs_machine.proofs.FrameOutcomes.{machine_at-halted}
use Rattle.vcs_machine.specs.Frame.{Machine, Stop, Ended, Overlong, Faulted, machine_at, stop_of}
use Rattle.vcs_machine.specs.Consoles.{Console, meaning_of, passed, value_at, peeked_at, read_at}
use Rattle.vcs_machine.specs.Consoles.{written_at, after_wait, cycles_to_line_start, frame_meaning_of}
use Rattle.vcs_machine.specs.Consoles.{with_pixel_logged}
use Rattle.vcs_machine.specs.Private.FollowedBuses.{Follows, machine_along, stop_along, drawn_on}

-- A list takes pixels at its end.
pub painted-logged : (log ps : List Pixel) → sink_after_pixels with_pixel_logged log ps ≡ log ++ ps
painted-logged log [] = sym (append-nil log)
painted-logged log (p ∷ ps) = painted-logged (log ++ p ∷ []) ps ∙ append_assoc log (p ∷ []) ps

module _ {S : Type 0} (drawn : S → ℕ → ℕ → ℕ → S) (sink : S) where
  passed-along : (c : Console (List Pixel)) (n : ℕ) → passed drawn (drawn_on drawn sink c) n ≡ drawn_on drawn sink (passed with_pixel_logged c n)
  passed-along c n = rw (painted-logged c.sink (pixels (3 * n) c.tia), painted-append drawn sink c.sink (pixels (3 * n) c.tia))

  -- What a place says, and what is read and written there.
  place-along : (c : Console (List Pixel)) (place : Place) (v : ℕ)
      → (value_at (drawn_on drawn sink c) place ≡ value_at c place)
      × (peeked_at (drawn_on drawn sink c) place ≡ peeked_at c place)
      × (read_at (drawn_on drawn sink c) place ≡ drawn_on drawn sink (read_at c place))
      × (written_at (drawn_on drawn sink c) place v ≡ drawn_on drawn sink (written_at c place v))
  place-along c (Cart address) v = (refl, refl, refl, refl)
  place-along c other v = (refl, refl, refl, refl)

  keeps_meaning : Respects (meaning_of with_pixel_logged) (meaning_of drawn) (drawn_on drawn sink)
  unfolding meaning_of
  keeps_meaning = record {
    passed = passed-along;
    read_value = λ c address. (place-along c (place_of address) 0).0;
    after_read = λ c address. (place-along c (place_of address) 0).2;
    after_write = λ c address v. (place-along c (place_of address) v).3;
    peeked = λ c address. (place-along c (place_of address) 0).1;
    peeked_zero = λ c address. (place-along c (place_of address) 0).0;
  }

  after_wait-along : (c : Console (List Pixel)) → after_wait drawn (drawn_on drawn sink c) ≡ drawn_on drawn sink (after_wait with_pixel_logged c)
  after_wait-along c = elim (cases_Bool c.awaits_line) [
    | inl waits ↦ rw waits (ap (λ (k : Console S). record k { awaits_line = false }) (passed-along c (cycles_to_line_start c.tia.fields.clock)))
    | inr not ↦ rw not refl
  ]

  pub follows : Follows (frame_meaning_of with_pixel_logged) (frame_meaning_of drawn) (drawn_on drawn sink)
  unfolding frame_meaning_of
  follows = record { calls = keeps_meaning; after_wait = after_wait-along; wait = λ c. refl; ended = λ c. refl }

-- The stop of the same kind, at another machine.
abbrev stop_at : {B C : Type 0} → Stop C → Machine B → Stop B
stop_at (Ended there) m = Ended m
stop_at (Overlong there) m = Overlong m
stop_at (Faulted fault there) m = Faulted fault m

stop_at-halted : {B C : Type 0} (kind : FaultKind) (there : Machine C) (m : Machine B) → stop_at (stop_with kind there) m ≡ stop_with kind m
stop_at-halted (BadOpcode opcode at) there m = refl
stop_at-halted kind there m = refl

-- A stop by the one that it is on another bus.
stop-from : {B C : Type 0} (h : B → C) (stop : Stop B)
    → (stop ≡ stop_at (stop_along h stop) (machine_at stop)) × (machine_along h (machine_at stop) ≡ machine_at (stop_along h stop))
stop-from h (Ended m) = (refl, refl)
stop-from h stop = (refl, refl)

module _ {S : Type 0} (drawn : S → ℕ → ℕ → ℕ → S) (cartridge : List ℕ) (s : StateFields) (i : InputData) (sink : S) where
  abbrev here : Machine (Console (List Pixel))
  here = machine_at (stop_of (frame_meaning_of with_pixel_logged) (machine_of cartridge s i []))

  -- The stop of the frame that lists its pixels, by the one of the frame that draws them.
  stops : (stop : Stop (Console S)) → stop_of (frame_meaning_of drawn) (machine_of cartridge s i sink) ≡ stop
      → (stop_of (frame_meaning_of with_pixel_logged) (machine_of cartridge s i []) ≡ stop_at stop here) × (machine_along (drawn_on drawn sink) here ≡ machine_at stop)
  stops stop e =
      let along = stop_of-along (frame_meaning_of with_pixel_logged) (frame_meaning_of drawn) (drawn_on drawn sink) (follows drawn sink) (machine_of cartridge s i []) in
      rw (sym along ∙ e) at (stop-from (drawn_on drawn sink) (stop_of (frame_meaning_of with_pixel_logged) (machine_of cartridge s i [])))

  -- A frame that ends on a console with a sink.
  pub plays-on : (there : Machine (Console S)) → stop_of (frame_meaning_of drawn) (machine_of cartridge s i sink) ≡ Ended there
      → PlaysOn drawn cartridge s i sink (state_left there) there.bus.sink there.cycles
  plays-on there e =
      let f = stops (Ended there) e in (
        here,
        f.0,
        ap (λ (m : Machine (Console S)). state_left m) f.1,
        ap (λ (m : Machine (Console S)). m.bus.sink) f.1,
        ap (λ (m : Machine (Console S)). m.cycles) f.1,
      )

  -- And one that does not.
  pub halts-on : (kind : FaultKind) (there : Machine (Console S)) → stop_of (frame_meaning_of drawn) (machine_of cartridge s i sink) ≡ stop_with kind there
      → Halts cartridge s i kind (state_left there) there.cycles
  halts-on kind there e =
      let f = stops (stop_with kind there) e in
      let same = f.1 ∙ machine_at-halted kind there in
      (here, f.0 ∙ stop_at-halted kind there here, ap (λ (m : Machine (Console S)). state_left m) same, ap (λ (m : Machine (Console S)). m.cycles) same)
