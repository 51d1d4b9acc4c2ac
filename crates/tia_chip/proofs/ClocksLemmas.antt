-- Clocks one after another.
use Rattle.std.proofs.Common.{◌≡◌, ℕ, zero, suc, ◌+◌, ◌-◌, ◌≤◌, arith, sym}
use Rattle.std.specs.Fn.{iterate}
use Rattle.tia_chip.specs.Clock.{after_clock, at_pixel}
use Rattle.tia_chip.specs.Clocks.{sink_after_clocks, with_pixel}
use Rattle.tia_chip.specs.Colour.{pixel_of}
use Rattle.tia_chip.specs.declared.state.TiaState.{TiaState}

pub iterate-add : {A : Type 0} (f : A → A) (m n : ℕ) (a : A) → iterate f (m + n) a ≡ iterate f n (iterate f m a)
iterate-add f zero n a = let e : zero + n ≡ n = omega arith in rw e
iterate-add f (suc m) n a = let e : suc m + n ≡ suc (m + n) = omega arith in rw e (iterate-add f m n (f a))

pub sink-add : {S : Type 0} (drawn : S → ℕ → ℕ → ℕ → S) (sink : S) (m n : ℕ) (t : TiaState)
    → sink_after_clocks drawn sink (m + n) t ≡ sink_after_clocks drawn (sink_after_clocks drawn sink m t) n (iterate after_clock m t)
sink-add drawn sink zero n t = let e : zero + n ≡ n = omega arith in rw e
sink-add drawn sink (suc m) n t =
    let e : suc m + n ≡ suc (m + n) = omega arith in
    rw e (sink-add drawn (with_pixel drawn sink (pixel_of (at_pixel t))) m n (after_clock t))

-- some clocks, and then the rest of n
pub clocks-in_two : {S : Type 0} (drawn : S → ℕ → ℕ → ℕ → S) (sink : S) (m n : ℕ) (t : TiaState) → m ≤ n → let after = iterate after_clock m t in
    (iterate after_clock (n - m) after ≡ iterate after_clock n t)
    × (sink_after_clocks drawn (sink_after_clocks drawn sink m t) (n - m) after ≡ sink_after_clocks drawn sink n t)
clocks-in_two drawn sink m n t le =
    let e : m + (n - m) ≡ n = omega arith in
    (rw e at (sym (iterate-add after_clock m (n - m) t)), rw e at (sym (sink-add drawn sink m (n - m) t)))
