-- Devices that lag.
use Rattle.std.proofs.Common.{◌≡◌, ◌∙◌, ℕ, zero, suc, ◌+◌, ◌-◌, ◌*◌, ◌<◌, ◌≤◌, Bool, Option, true, false, if◌then◌else◌, refl, sym, ap, arith}
use Rattle.std.specs.Prelude.{min}
use Rattle.std.specs.Fn.{iterate}
use Rattle.std.proofs.lemmas.Bool.{cond-true}
use Rattle.riot_chip.specs.Riot.{RiotState}
use Rattle.riot_chip.specs.Timer.{TimerState, after_step}
use Rattle.tia_chip.specs.Clock.{after_clock, at_pixel}
use Rattle.tia_chip.specs.Clocks.{sink_after_clocks, with_pixel}
use Rattle.tia_chip.specs.Colour.{pixel_of}
use Rattle.tia_chip.specs.declared.pixel.Pixel.{Pixel}
use Rattle.tia_chip.specs.declared.state.TiaState.{TiaState}
use Rattle.tia_chip.proofs.ClocksLemmas.{iterate-add, sink-add}
use Rattle.chip_machine.specs.Consoles.{Console, after_cycle, after_stop, cycles_to_line_start, most_cycles}
use Rattle.chip_machine.specs.Private.Lag.{after_cycles, riot_after_steps}

-- ---- fewer cycles are left

pub riot-later : (riot_left left n : ℕ) (r : RiotState) → n ≤ left → left ≤ riot_left
    → riot_after_steps (riot_left - (left - n)) r ≡ riot_after_steps n (riot_after_steps (riot_left - left) r)
riot-later riot_left left n r few behind =
    let e : riot_left - (left - n) ≡ riot_left - left + n = omega arith in
    rw e (ap (λ (t : TimerState). record r { timer = t }) (iterate-add after_step (riot_left - left) n r.timer))

three : (left n : ℕ) → n ≤ left → left ≤ 76 → 3 * (76 - (left - n)) ≡ 3 * (76 - left) + 3 * n
three left n few most = omega arith

pub tia-later : (left n : ℕ) (t : TiaState) → n ≤ left → left ≤ 76
    → iterate after_clock (3 * (76 - (left - n))) t ≡ iterate after_clock (3 * n) (iterate after_clock (3 * (76 - left)) t)
tia-later left n t few most = rw (three left n few most) (iterate-add after_clock (3 * (76 - left)) (3 * n) t)

pub sink-later : {S : Type 0} (drawn : S → ℕ → ℕ → ℕ → S) (left n : ℕ) (t : TiaState) (s : S) → n ≤ left → left ≤ 76
    → sink_after_clocks drawn s (3 * (76 - (left - n))) t
    ≡ sink_after_clocks drawn (sink_after_clocks drawn s (3 * (76 - left)) t) (3 * n) (iterate after_clock (3 * (76 - left)) t)
sink-later drawn left n t s few most = rw (three left n few most) (sink-add drawn s (3 * (76 - left)) (3 * n) t)

-- ---- a write that is put on its way ahead

abbrev pub DrawsAlike : ℕ → TiaState → TiaState → Type 0
DrawsAlike n t u = (k : ℕ) → k < n → pixel_of (at_pixel (iterate after_clock k t)) ≡ pixel_of (at_pixel (iterate after_clock k u))

sink-same : {S : Type 0} (drawn : S → ℕ → ℕ → ℕ → S) (n : ℕ) (t u : TiaState) (s : S) → DrawsAlike n t u
    → sink_after_clocks drawn s n t ≡ sink_after_clocks drawn s n u
sink-same drawn zero t u s same = refl
sink-same drawn (suc n) t u s same =
    ap (λ (pixel : Option Pixel). sink_after_clocks drawn (with_pixel drawn s pixel) n (after_clock t)) (same 0 (omega arith))
    ∙ sink-same drawn n (after_clock t) (after_clock u) (with_pixel drawn s (pixel_of (at_pixel u))) (λ k few. same (suc k) (omega arith))

pub late-sink : {S : Type 0} (drawn : S → ℕ → ℕ → ℕ → S) (n : ℕ) (t u : TiaState) (s : S) (is_late : Bool)
    → (is_late ≡ true → DrawsAlike n t u) → (is_late ≡ false → t ≡ u) → sink_after_clocks drawn s n t ≡ sink_after_clocks drawn s n u
late-sink drawn n t u s true same kept = sink-same drawn n t u s (same refl)
late-sink drawn n t u s false same kept = ap (sink_after_clocks drawn s n) (kept refl)

pub late-tia : (n : ℕ) (t u after : TiaState) (is_late : Bool) → (is_late ≡ true → iterate after_clock n t ≡ after) → (is_late ≡ false → t ≡ u)
    → iterate after_clock n t ≡ (if is_late then after else iterate after_clock n u)
late-tia n t u after true late kept = late refl
late-tia n t u after false late kept = ap (iterate after_clock n) (kept refl)

-- ---- cycles of a console

module _ {S : Type 0} (drawn : S → ℕ → ℕ → ℕ → S) where
  pub cycles-passed : (n : ℕ) (c : Console S) → c.cycles ≤ most_cycles → iterate (after_cycle drawn) n c ≡ after_cycles drawn n c
  cycles-passed zero c few = ap (λ (k : ℕ). record c { cycles = k }) (omega arith)
  cycles-passed (suc n) c few =
      let clocks : 3 * suc n ≡ 3 + 3 * n = omega arith in
      let count : min (min (c.cycles + 1) most_cycles + n) most_cycles ≡ min (c.cycles + suc n) most_cycles = omega arith in
      let tia = iterate-add after_clock 3 (3 * n) c.tia in
      let sink = sink-add drawn c.sink 3 (3 * n) c.tia in
      cycles-passed n (after_cycle drawn c) (omega arith)
      ∙ rw (clocks, tia, sink, count) refl

  -- Two of them.
  pub two-passed : (c : Console S) (riot : RiotState) (tia : TiaState) (sink : S) (cycles : ℕ) → c.cycles ≤ most_cycles
      → riot ≡ riot_after_steps 2 c.riot → tia ≡ iterate after_clock 6 c.tia → sink ≡ sink_after_clocks drawn c.sink 6 c.tia
      → cycles ≡ min (c.cycles + 2) most_cycles
      → record c { riot = riot; tia = tia; sink = sink; cycles = cycles } ≡ after_cycle drawn (after_cycle drawn c)
  two-passed c riot tia sink cycles few riot_is tia_is sink_is cycles_are =
      rw (riot_is, tia_is, sink_is, cycles_are) (sym (cycles-passed 2 c few))

  -- The stop after WSYNC, where so many cycles lead to the next line.
  pub stop-passed : (c : Console S) (n : ℕ) (riot : RiotState) (tia : TiaState) (sink : S) (cycles : ℕ)
      → c.is_stopped ≡ true → c.cycles ≤ most_cycles → n ≡ cycles_to_line_start c.tia.clock → riot ≡ riot_after_steps n c.riot
      → tia ≡ iterate after_clock (3 * n) c.tia → sink ≡ sink_after_clocks drawn c.sink (3 * n) c.tia → cycles ≡ min (c.cycles + n) most_cycles
      → record c { riot = riot; tia = tia; sink = sink; cycles = cycles; is_stopped = false } ≡ after_stop drawn c
  stop-passed c n riot tia sink cycles stopped few count riot_is tia_is sink_is cycles_are =
      rw (riot_is, tia_is, sink_is, cycles_are)
      (ap (λ (x : Console S). record x { is_stopped = false })
      (sym (cycles-passed n c few) ∙ ap (λ (k : ℕ). iterate (after_cycle drawn) k c) count)
      ∙ sym (cond-true c.is_stopped _ _ stopped))

  -- None, where the processor isn't stopped.
  pub no-stop : (c : Console S) → c.is_stopped ≡ false → c ≡ after_stop drawn c
  no-stop c free = rw free refl
