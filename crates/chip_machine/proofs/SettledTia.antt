-- A TIA between the accesses of a processor, each of which comes after the three clocks of its cycle.
use Rattle.std.proofs.Common.{◌≡◌, ◌∙◌, ℕ, ◌+◌, ◌-◌, ◌%◌, ◌<◌, ◌≤◌, ◌==◌, ◌&&◌, ◌⊎◌, not, Bool, true, false, Option, Some, None, IsTrue, ap, arith, inl, inr, refl}
use Rattle.std.specs.Fn.{iterate}
use Rattle.std.specs.Prelude.{IfSome, is_none, nat_lt}
use Rattle.std.proofs.lemmas.Bool.{and_parts, cond_both, eq-eqb, ltb-false}
use Rattle.tia_chip.specs.AtRest.{hmove_after, is_at_rest}
use Rattle.tia_chip.specs.Clock.{after_clock}
use Rattle.tia_chip.specs.Numbers.{is_settled, is_tia}
use Rattle.tia_chip.specs.PowerOn.{at_frame_start, with_fire}
use Rattle.tia_chip.specs.Read.{tia_after_read}
use Rattle.tia_chip.specs.Registers.{register_of}
use Rattle.tia_chip.specs.Underway.{IsUnderway}
use Rattle.tia_chip.specs.Write.{effect_after, effect_of, tia_after_write}
use Rattle.tia_chip.specs.declared.effect.Effect.TheVariants.{FrameEnd}
use Rattle.tia_chip.specs.declared.register.Register.{Register}
use Rattle.tia_chip.specs.declared.register.Register.TheVariants.{Vsync}
use Rattle.tia_chip.specs.declared.state.TiaState.{TiaState}
use Rattle.tia_chip.proofs.AtRestLemmas.{cycle-is, left-settled, read-kept, write-clock}
use Rattle.tia_chip.proofs.UnderwayLaws.{underway-clock, underway-fire, underway-frame, underway-read, underway-write}
use Rattle.tia_chip.proofs.UnderwayTables.{record-underway, underway-record}

-- Its numbers are those of one that runs, and whole cycles have passed.
pub record IsRunning (t : TiaState) : Type 0 where
  pub underway : IsUnderway t
  pub cycle : t.clock % 3 ≡ 0

abbrev pub IsAtRest : TiaState → Type 0
IsAtRest t = IsTrue (is_at_rest t)

-- An HMOVE that is on its way acts with one of the next n clocks.
abbrev pub IsWithin : ℕ → Option ℕ → Type 0
IsWithin n hmove = IfSome hmove (λ clocks. clocks < n)

pub within-more : (n m : ℕ) (hmove : Option ℕ) → n ≤ m → IsWithin n hmove → IsWithin m hmove
within-more n m None more h = tt
within-more n m (Some clocks) more h = omega arith

pub within-none : (hmove : Option ℕ) → IsWithin 0 hmove → hmove ≡ None
within-none None h = refl
within-none (Some clocks) h = absurd (omega arith)

-- ---- a cycle
abbrev pub tia_after_cycle : TiaState → TiaState
tia_after_cycle t = iterate after_clock 3 t

whole : (before after : ℕ) → before % 3 ≡ 0 → after ≡ (before + 3) % 228 → after % 3 ≡ 0
whole before after h e = omega arith

pub cycle-running : (t : TiaState) → IsRunning t → IsRunning (tia_after_cycle t)
cycle-running t h =
    record {
      underway = underway-clock _ (underway-clock _ (underway-clock t h.underway));
      cycle = whole t.clock (tia_after_cycle t).clock h.cycle (cycle-is t h.underway).clock;
    }

within-passed : (n : ℕ) (hmove : Option ℕ) → IsWithin n hmove → IsWithin (n - 3) (hmove_after 3 hmove)
within-passed n None h = tt
within-passed n (Some clocks) h =
    cond_both (nat_lt clocks 3) _ _ (IsWithin (n - 3)) (λ e. tt) (λ e. let late = ltb-false clocks 3 e in omega arith)

pub cycle-within : (n : ℕ) (t : TiaState) → IsRunning t → IsWithin n t.hmove → IsWithin (n - 3) (tia_after_cycle t).hmove
cycle-within n t h within = rw (cycle-is t h.underway).hmove (within-passed n t.hmove within)

-- Where no HMOVE is on its way past a cycle, nothing is.
pub cycle-at_rest : (t : TiaState) → IsRunning t → (tia_after_cycle t).hmove ≡ None → IsAtRest (tia_after_cycle t)
cycle-at_rest t h none =
    let after = tia_after_cycle t in
    let cycle = cycle-is t h.underway in
    rw (cycle.waiting, none, cycle.changed, eq-eqb after.beam after.clock cycle.beam) refl

none-is : (hmove : Option ℕ) → is_none hmove ≡ true → hmove ≡ None
none-is None h = refl
none-is (Some clocks) h = absurd (cc)

pub at_rest-hmove : (t : TiaState) → IsAtRest t → t.hmove ≡ None
at_rest-hmove t h =
    let still = is_none t.waiting && is_none t.hmove in
    let first = and_parts (still && not t.changed) (t.beam == t.clock) h in
    let second = and_parts still (not t.changed) first.0 in
    none-is t.hmove (and_parts (is_none t.waiting) (is_none t.hmove) second.0).1

-- ---- accesses
pub read-running : (t : TiaState) (number : ℕ) → IsRunning t → IsRunning (tia_after_read t number)
read-running t number h =
    record { underway = underway-read t number h.underway; cycle = ap (λ (n : ℕ). n % 3) (read-kept t number).1 ∙ h.cycle }

pub write-running : (t : TiaState) (number v : ℕ) → IsRunning t → IsRunning (tia_after_write t number v)
write-running t number v h = record { underway = underway-write t number v h.underway; cycle = by (write-clock t number v) }
  where
    by : ((tia_after_write t number v).clock ≡ t.clock) ⊎ ((tia_after_write t number v).clock ≡ 225) → (tia_after_write t number v).clock % 3 ≡ 0
    by (inl e) = ap (λ (n : ℕ). n % 3) e ∙ h.cycle
    by (inr e) = ap (λ (n : ℕ). n % 3) e

-- VSYNC alone ends a frame.
effect-ends : (t : TiaState) (r : Register) (v : ℕ) → effect_after t r v ≡ FrameEnd → r ≡ Vsync
effect-ends t Vsync v e = refl
effect-ends t other v e = absurd (cc)

pub effect-vsync : (t : TiaState) (number v : ℕ) → effect_of t number v ≡ FrameEnd → register_of number ≡ Vsync
effect-vsync t number v e = effect-ends t (register_of number) v e

-- ---- where a frame begins and ends
pub begun-running : (t : TiaState) (fire0 fire1 : Bool) → is_tia t ≡ true → is_settled t ≡ true → t.clock % 3 ≡ 0
    → IsRunning (at_frame_start (with_fire t fire0 fire1))
begun-running t fire0 fire1 lawful settled cycle =
    record {
      underway = underway-frame (with_fire t fire0 fire1) (underway-fire t fire0 fire1 (underway-record t lawful settled));
      cycle = cycle;
    }

-- A TIA of a record, once a frame has left it.
pub left-lawful : (t : TiaState) → IsRunning t → IsAtRest t → is_tia (at_frame_start (with_fire t false false)) ≡ true
left-lawful t h rest =
    record-underway _ (underway-frame (with_fire t false false) (underway-fire t false false h.underway)) (left-settled t rest)
