-- The pixels of a frame: one for each visible clock since it began, in order.
use Rattle.std.proofs.Common.{◌≡◌, ℕ, zero, suc, ◌+◌, ◌*◌, ◌<◌, ◌≤◌, List, [], ◌∷◌, ◌++◌, map, IsTrue}
use Rattle.std.proofs.Common.{refl, sym, ap, ◌∙◌, arith}
use Rattle.std.specs.List.{All, filter, range_with_len}
use Rattle.std.proofs.lemmas.List.{map-append}
use Rattle.std.proofs.lemmas.List.Elements.{All-append, All-cons, All-filter, All-head, All-nil, All-tail}
use Rattle.std.proofs.lemmas.List.Elements.{filter-append}
use Rattle.riot_map.specs.Place.{place_of}
use Rattle.riot_map.specs.declared.places.Place.{Place}
use Rattle.riot_map.specs.declared.places.Place.TheVariants.{Cart}
use Rattle.tia_core.specs.Beam.{beam_of, beam_of_pixel, is_visible}
use Rattle.tia_core.specs.Clock.{Pixel, pixels}
use Rattle.tia_core.proofs.ClockLemmas.{iterate-clocked-beam, iterate-clocked-clock}
use Rattle.tia_core.proofs.PixelPlaces.{pixels-in_line, pixels-places}
use Rattle.vcs_machine.specs.Consoles.{Console, frame_meaning_of, meaning_of, passed, read_at}
use Rattle.vcs_machine.specs.Consoles.{with_pixel_logged, written_at}
use Rattle.vcs_machine.specs.Frame.{Machine, machine_at, stop_of}
use Rattle.vcs_machine.specs.Inputs.{InputData}
use Rattle.vcs_machine.specs.Outcomes.{machine_of}
use Rattle.vcs_machine.specs.Pictures.{rows_of}
use Rattle.vcs_machine.specs.States.{is_state, line_cycle_of}
use Rattle.vcs_machine.specs.declared.fields.StateFields.{StateFields}
use Rattle.vcs_machine.proofs.BeamLaws.{read_at-clock, written_at-clock}
use Rattle.vcs_machine.proofs.CycleLaws.{read_at-beam, written_at-beam}
use Rattle.vcs_machine.proofs.FrameOutcomes.{stop-way}
use Rattle.vcs_machine.proofs.SinkLemmas.{painted-logged}
use Rattle.vcs_machine.proofs.StateLemmas.{clock-thirds, clock_of}
use Rattle.vcs_machine.proofs.TimedInvariants.{IsTimedInvariant, stop-timed}

-- ---- lists
range-add : (m n a : ℕ) → range_with_len a (m + n) ≡ range_with_len a m ++ range_with_len (a + m) n
range-add zero n a = let e : zero + n ≡ n = omega arith in let f : a + zero ≡ a = omega arith in rw (e, f) refl
range-add (suc m) n a =
    let e : suc m + n ≡ suc (m + n) = omega arith in
    let f : a + suc m ≡ a + 1 + m = omega arith in
    rw (e, f) (ap (λ (xs : List ℕ). a ∷ xs) (range-add m n (a + 1)))

range-below : (n a last : ℕ) → a + n ≤ last → All (λ k. k < last) (range_with_len a n)
range-below zero a last h = All-nil (λ k. k < last)
range-below (suc n) a last h = All-cons (λ k. k < last) a (range_with_len (a + 1) n) (omega arith) (range-below n (a + 1) last (omega arith))

mapped-back : (P : ℕ → Type 0) (ps : List Pixel) → All P (map beam_of_pixel ps) → All (λ p. P (beam_of_pixel p)) ps
mapped-back P [] h = All-nil (λ p. P (beam_of_pixel p))
mapped-back P (p ∷ ps) h =
    All-cons (λ p. P (beam_of_pixel p)) p ps (All-head P (beam_of_pixel p) (map beam_of_pixel ps) h)
    (mapped-back P ps (All-tail P (beam_of_pixel p) (map beam_of_pixel ps) h))

-- ---- a console whose frame began at this place, after so many cycles: before lines are counted
-- round, at the 14,942,208 clocks of 65,536 lines
record IsLogged (start : ℕ) (c : Console (List Pixel)) (t : ℕ) : Type 0 where
  inside : c.tia.fields.clock < 228
  in_line : All (λ p. p.x < 160) c.sink
  beam : start + 3 * t < 14942208 → beam_of c.tia ≡ start + 3 * t
  places : start + 3 * t < 14942208 → map beam_of_pixel c.sink ≡ filter is_visible (range_with_len start (3 * t))

more-places : (start t n : ℕ) (c : Console (List Pixel)) → IsLogged start c t → start + 3 * (t + n) < 14942208
    → map beam_of_pixel (c.sink ++ pixels (3 * n) c.tia) ≡ filter is_visible (range_with_len start (3 * (t + n)))
more-places start t n c h small =
    let at = h.beam (omega arith) in
    let e : 3 * (t + n) ≡ 3 * t + 3 * n = omega arith in
    map-append beam_of_pixel c.sink (pixels (3 * n) c.tia)
    ∙ ap (λ (places : List ℕ). places ++ map beam_of_pixel (pixels (3 * n) c.tia)) (h.places (omega arith))
    ∙ ap (λ (places : List ℕ). filter is_visible (range_with_len start (3 * t)) ++ places)
    (rw at at (pixels-places (3 * n) c.tia h.inside (omega arith)))
    ∙ sym (filter-append is_visible (range_with_len start (3 * t)) (range_with_len (start + 3 * t) (3 * n)))
    ∙ rw e (ap (filter is_visible) (sym (range-add (3 * t) (3 * n) start)))

passed-logged : (start : ℕ) (c : Console (List Pixel)) (t n : ℕ) → IsLogged start c t → IsLogged start (passed with_pixel_logged c n) (t + n)
passed-logged start c t n h =
    let list = painted-logged c.sink (pixels (3 * n) c.tia) in
    record {
      inside = rw (iterate-clocked-clock (3 * n) c.tia h.inside) (omega arith);
      in_line = rw list (All-append (λ p. p.x < 160) c.sink (pixels (3 * n) c.tia) h.in_line (pixels-in_line (3 * n) c.tia h.inside));
      beam = λ small. let at = h.beam (omega arith) in iterate-clocked-beam (3 * n) c.tia h.inside (omega arith) ∙ omega arith;
      places = λ small. rw list (more-places start t n c h small);
    }

-- A call that leaves the beam and the pixels.
still-logged : (start t : ℕ) (before after : Console (List Pixel)) → after.tia.fields.clock ≡ before.tia.fields.clock
    → beam_of after.tia ≡ beam_of before.tia → after.sink ≡ before.sink → IsLogged start before t → IsLogged start after t
still-logged start t before after clock beam sink h = record {
  inside = rw clock h.inside;
  in_line = rw sink h.in_line;
  beam = λ small. beam ∙ h.beam small;
  places = λ small. rw sink (h.places small);
}

read_at-sink : (c : Console (List Pixel)) (place : Place) → (read_at c place).sink ≡ c.sink
read_at-sink c place = grind arith

written_at-sink : (c : Console (List Pixel)) (place : Place) (v : ℕ) → (written_at c place v).sink ≡ c.sink
written_at-sink c (Cart address) v = refl
written_at-sink c other v = refl

keeps_log : (start : ℕ) → IsTimedInvariant (meaning_of with_pixel_logged) (IsLogged start)
unfolding meaning_of
keeps_log start = record {
  passed = λ c t n h. passed-logged start c t n h;
  read = λ c t address h.
      let place = place_of address in
      still-logged start t c (read_at c place) (read_at-clock with_pixel_logged c place) (read_at-beam with_pixel_logged c place) (read_at-sink c place) h;
  written = λ c t address v h.
      let place = place_of address in
      still-logged start t c (written_at c place v) (written_at-clock with_pixel_logged c place v)
      (written_at-beam with_pixel_logged c place v) (written_at-sink c place v) h;
}

-- ---- where a frame stops
module _ (cartridge : List ℕ) (s : StateFields) (i : InputData) (lawful : IsTrue (is_state s)) where
  abbrev here : Machine (Console (List Pixel))
  here = machine_at (stop_of (frame_meaning_of with_pixel_logged) (machine_of cartridge s i []))

  stop-logged : IsLogged (3 * line_cycle_of s) here.bus here.cycles
  stop-logged = stop-timed with_pixel_logged (IsLogged (3 * line_cycle_of s)) (keeps_log (3 * line_cycle_of s))
      (λ c t h. record { inside = h.inside; in_line = h.in_line; beam = h.beam; places = h.places })
      (machine_of cartridge s i [])
      (record {
        inside = clock_of s lawful;
        in_line = All-nil (λ p. p.x < 160);
        beam = λ small. let thirds = clock-thirds s lawful in omega arith;
        places = λ small. refl;
      })

  pub frame-places : map beam_of_pixel here.bus.sink ≡ filter is_visible (range_with_len (3 * line_cycle_of s) (3 * here.cycles))
  frame-places =
      let way = stop-way with_pixel_logged cartridge s i [] lawful in
      let few = way.room in
      stop-logged.places (omega (arith, few))

  pub frame-inside : All (λ p. (p.line < rows_of (line_cycle_of s) here.cycles) × (p.x < 160)) here.bus.sink
  frame-inside k d lt =
      let last = 3 * line_cycle_of s + 3 * here.cycles in
      let all = All-filter is_visible (λ n. n < last) (range_with_len (3 * line_cycle_of s) (3 * here.cycles)) (range-below (3 * here.cycles) (3 * line_cycle_of s) last (omega arith)) in
      let below = mapped-back (λ n. n < last) here.bus.sink (rw frame-places all) k d lt in
      (omega (arith, below), stop-logged.in_line k d lt)
