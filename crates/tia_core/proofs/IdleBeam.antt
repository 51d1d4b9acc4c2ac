-- Clocks that latch nothing move the beam alone.
use Rattle.std.proofs.Common.{◌≡◌, ℕ, zero, suc, ◌+◌, ◌-◌, ◌%◌, ◌<◌, ◌≤◌, ◌==◌, inl, inr, true, false, nat_lt}
use Rattle.std.proofs.Common.{bit_or, refl, sym, ap, ◌∙◌, arith}
use Rattle.std.specs.Fn.{iterate}
use Rattle.std.proofs.lemmas.Bool.{cases_lt}
use Rattle.std.proofs.lemmas.Bool.Decides.{nat_tests}
use Rattle.tia_core.specs.Clock.{after_clock, after_pixel, with_next_beam}
use Rattle.tia_core.specs.Collision.{pairs_of}
use Rattle.tia_core.specs.Objects.{objects_at}
use Rattle.tia_core.specs.Private.ObjectSets.{visible_objects}
use Rattle.tia_core.specs.Private.StretchPairs.{AreApart, IsIdle}
use Rattle.tia_core.specs.TiaState.{TiaState}
use Rattle.tia_core.specs.declared.fields.TiaFields.{TiaFields}
use Rattle.tia_core.proofs.ClockLemmas.{iterate-add}
use Rattle.tia_core.proofs.PairLemmas.{visible-latched}
use Rattle.std.specs.Int.Bits.{or_zero_r}

-- ---- what latches nothing
pub idle-apart : (t : TiaFields) → AreApart t → IsIdle t
idle-apart t apart = λ x h. ap (bit_or t.collisions) (apart x h) ∙ or_zero_r t.collisions

pub idle-latched : (t : TiaFields) → bit_or t.collisions (pairs_of (visible_objects t)) ≡ t.collisions → IsIdle t
idle-latched t e = λ x lt. visible-latched t t.collisions x e

-- ---- the beam
-- the TIA with its beam at another clock of the line
abbrev at_clock : TiaState → ℕ → TiaState
at_clock s clock = record s { fields = record s.fields { clock = clock } }

-- and at a clock of the next line
abbrev in_next_line : TiaState → ℕ → TiaState
in_next_line s clock = record s { fields = record s.fields { clock = clock; comb = 0 }; line = (s.line + 1) % 65536 }

pixel-idle : (s : TiaState) → s.fields.clock < 228 → IsIdle s.fields → after_pixel s ≡ s
pixel-idle s h idle = elim (cases_lt s.fields.clock 68) [
  | inl lt ↦ (let blank : nat_lt s.fields.clock 68 ≡ true = grind (arith, nat_tests) in rw blank refl)
  | inr le ↦ (let visible : nat_lt s.fields.clock 68 ≡ false = grind (arith, nat_tests) in
      rw (visible, idle (s.fields.clock - 68) (omega arith)) refl)
]

-- clocks that don't end the line, and those that end it once
idle-within : (n : ℕ) (s : TiaState) → s.fields.clock + n < 228 → IsIdle s.fields → iterate after_clock n s ≡ at_clock s (s.fields.clock + n)
unfolding objects_at
idle-within zero s h idle = let e : s.fields.clock + 0 ≡ s.fields.clock = omega arith in rw e refl
idle-within (suc n) s h idle =
    let not_last : (s.fields.clock == 227) ≡ false = grind (arith, nat_tests) in
    let e : s.fields.clock + 1 + n ≡ s.fields.clock + suc n = omega arith in
    ap (iterate after_clock n) (ap with_next_beam (pixel-idle s (omega arith) idle) ∙ rw not_last refl)
    ∙ idle-within n (at_clock s (s.fields.clock + 1)) (omega arith) idle
    ∙ rw e refl

last-idle : (s : TiaState) → IsIdle s.fields → after_clock (at_clock s 227) ≡ in_next_line s 0
unfolding objects_at
last-idle s idle = ap with_next_beam (pixel-idle (at_clock s 227) (omega arith) idle)

pub idle-stays : (n : ℕ) (s : TiaState) → s.fields.clock + n < 228 → IsIdle s.fields
    → record s { fields = record s.fields { clock = s.fields.clock + n } } ≡ iterate after_clock n s
idle-stays n s h idle = sym (idle-within n s h idle)

pub idle-wraps : (n : ℕ) (s : TiaState) → s.fields.clock < 228 → n ≤ 228 → 228 ≤ s.fields.clock + n → IsIdle s.fields
    → record s { fields = record s.fields { clock = s.fields.clock + n - 228; comb = 0 }; line = (s.line + 1) % 65536 } ≡ iterate after_clock n s
unfolding objects_at
idle-wraps n s h most wraps idle =
    let before : ℕ = 227 - s.fields.clock in
    let rest : ℕ = s.fields.clock + n - 228 in
    let e : before + suc rest ≡ n = omega arith in
    let last : s.fields.clock + before ≡ 227 = omega arith in
    let first : 0 + rest ≡ rest = omega arith in
    let moved = rw last at (idle-within before s (omega arith) idle) in
    sym (rw e at (iterate-add after_clock before (suc rest) s)
    ∙ ap (iterate after_clock (suc rest)) moved
    ∙ ap (iterate after_clock rest) (last-idle s idle)
    ∙ idle-within rest (in_next_line s 0) (omega arith) idle ∙ ap (in_next_line s) first)
