-- How the count falls.
use Rattle.std.proofs.Common.{◌≡◌, ℕ, zero, suc, ◌+◌, ◌-◌, ◌*◌, ◌/◌, ◌%◌, ◌<◌, ◌≤◌, Bool, true}
use Rattle.std.proofs.Common.{false, refl, sym, ap, arith, ◌∙◌, not}
use Rattle.std.specs.Prelude.{ℤ, pos, negsuc, ◌-ℤ◌, nat_abs, int_le}
use Rattle.std.specs.Fn.{iterate}
use Rattle.std.proofs.lemmas.Bool.Decides.{nat_tests}
use Rattle.std.proofs.lemmas.Int.{ints}
use Rattle.std.proofs.lemmas.Nat.{div-add-mod', div-mul-add, mod-mul-add}
use Rattle.std.proofs.Math.Nat.{div-mul-le_self, le-div_iff_mul-le}
use Rattle.riot_map.specs.Timer.{Countdown, next_count, after_cycle, intim, part_left, is_running}
use Rattle.riot_map.specs.Timer.{count_of, cycles_above, with_clear_flag}
use Rattle.riot_map.specs.Private.Parts.{ArePartsLawful}

abbrev pub timer : ℤ → ℕ → Bool → Countdown
timer r i b = record { count = r; interval = i; flag = b }

-- the count past zero that shows v
abbrev pub below : ℕ → ℤ
below v = pos v -ℤ pos 255

-- past zero
pub stopped-below : (v : ℕ) → v < 256 → int_le (pos 1) (below v) ≡ false
stopped-below v h = grind (arith, ints, nat_tests)

ticked-below : (v i : ℕ) (b : Bool) → v < 256 → after_cycle (timer (below v) i b) ≡ timer (below ((v + 255) % 256)) i b
unfolding after_cycle
ticked-below v i b h = grind (arith, ints, nat_tests)

pub iterate-below : (n v i : ℕ) (b : Bool) → v < 256 → iterate after_cycle n (timer (below v) i b) ≡ timer (below ((v + 255 * n) % 256)) i b
iterate-below zero v i b h = ap (λ w. timer (below w) i b) (omega arith)
iterate-below (suc n) v i b h =
    rw (ticked-below v i b h, iterate-below n ((v + 255) % 256) i b (omega arith)) (ap (λ w. timer (below w) i b) (omega arith))

-- before zero
less_one : (j : ℕ) → pos (j + 1) -ℤ pos 1 ≡ pos j
less_one j = omega (arith, ints)

pub running-pos : (n : ℕ) → 0 < n → int_le (pos 1) (pos n) ≡ true
running-pos n h = grind (arith, nat_tests)

ticked-pos : (j i : ℕ) (b : Bool) → 0 < j → after_cycle (timer (pos (j + 1)) i b) ≡ timer (pos j) i b
unfolding after_cycle
ticked-pos j i b h = grind (arith, ints, nat_tests)

ticked-one : (i : ℕ) (b : Bool) → after_cycle (timer (pos 1) i b) ≡ timer (below 255) i true
unfolding after_cycle
ticked-one i b = refl

pub iterate-pos : (n m r i : ℕ) (b : Bool) → 0 < m → r ≡ m + n → iterate after_cycle n (timer (pos r) i b) ≡ timer (pos m) i b
iterate-pos zero m r i b h e = ap (λ w. timer (pos w) i b) (omega arith)
iterate-pos (suc n) m r i b h e =
    let more : r ≡ m + n + 1 = omega arith in
    rw (more, ticked-pos (m + n) i b (omega arith)) (iterate-pos n m (m + n) i b h refl)

pub iterate-over : (n r i : ℕ) (b : Bool) → 0 < r → r ≤ n → n < 256
    → iterate after_cycle n (timer (pos r) i b) ≡ timer (below (255 - (n - r))) i true
iterate-over zero r i b h k small = absurd (omega arith)
iterate-over (suc n) zero i b h k small = absurd (omega arith)
iterate-over (suc n) (suc zero) i b h k small =
    rw (ticked-one i b, iterate-below n 255 i true (omega arith)) (ap (λ w. timer (below w) i true) (omega arith))
iterate-over (suc n) (suc (suc r)) i b h k small =
    let more : suc (suc r) ≡ suc r + 1 = omega arith in
    rw (more, ticked-pos (suc r) i b (omega arith), iterate-over n (suc r) i b (omega arith) (omega arith) (omega arith))
    (ap (λ w. timer (below w) i true) (omega arith))

-- the parts of a count
pub shown-parts : (v q i : ℕ) (past b : Bool) → ArePartsLawful v q i past → intim (timer (count_of v q i past) i b) ≡ v
unfolding intim
shown-parts v q i true b l = rw (stopped-below v l.byte) (omega (arith, ints))
shown-parts v q i false b l =
    let before : v * i + q ≡ v * i + (q - 1) + 1 = omega arith in
    rw (running-pos (v * i + q) (omega arith), before, less_one (v * i + (q - 1))) (div-mul-add v i (q - 1) (omega arith))

pub part-parts : (v q i : ℕ) (past b : Bool) → ArePartsLawful v q i past → part_left (timer (count_of v q i past) i b) ≡ q
unfolding part_left
part-parts v q i true b l = rw (stopped-below v l.byte) (sym (l.past refl))
part-parts v q i false b l =
    let before : v * i + q ≡ v * i + (q - 1) + 1 = omega arith in
    rw (running-pos (v * i + q) (omega arith), before, less_one (v * i + (q - 1)), mod-mul-add v i (q - 1) (omega arith)) (omega arith)

pub past-parts : (v q i : ℕ) (past b : Bool) → ArePartsLawful v q i past → not (is_running (timer (count_of v q i past) i b)) ≡ past
past-parts v q i true b l = rw (stopped-below v l.byte) refl
past-parts v q i false b l = rw (running-pos (v * i + q) (omega arith)) refl

-- what the parts of a lawful timer show
pub ruleset parts = (shown-parts, part-parts, past-parts)

-- what n cycles leave of the parts
pub cycles-past : (n v q i : ℕ) (past b : Bool) → past ≡ true → v < 256 → n < 256
    → iterate after_cycle n (timer (count_of v q i past) i b) ≡ timer (count_of ((v + (256 - n)) % 256) q i past) i b
cycles-past n v q i true b e h k = rw (iterate-below n v i b h) (ap (λ w. timer (below w) i b) (omega arith))
cycles-past n v q i false b e h k = cc

pub cycles-within : (n v q i : ℕ) (past b : Bool) → past ≡ false → n < q
    → iterate after_cycle n (timer (count_of v q i past) i b) ≡ timer (count_of v (q - n) i past) i b
cycles-within n v q i true b e h = cc
cycles-within n v q i false b e h = iterate-pos n (v * i + (q - n)) (v * i + q) i b (omega arith) (omega arith)

pub cycles-ahead : (n v q i : ℕ) (past b : Bool) → past ≡ false → n < v * i + q
    → iterate after_cycle n (timer (count_of v q i past) i b)
    ≡ timer (count_of ((v * i + q - n - 1) / i) ((v * i + q - n - 1) % i + 1) i past) i b
cycles-ahead n v q i true b e h = cc
cycles-ahead n v q i false b e h =
    iterate-pos n (v * i + q - n) (v * i + q) i b (omega arith) (omega arith)
    ∙ ap (λ w. timer (pos w) i b) (omega (arith, div-add-mod' (v * i + q - n - 1) i))

pub cycles-over : (n v q i : ℕ) (past b : Bool) → past ≡ false → 0 < q → n < 256 → v * i + q ≤ n
    → iterate after_cycle n (timer (count_of v q i past) i b) ≡ timer (count_of (255 - (n - (v * i + q))) 1 i true) i true
cycles-over n v q i true b e some k h = cc
cycles-over n v q i false b e some k h = iterate-over n (v * i + q) i b (omega arith) h k

-- what n cycles leave, in each case
pub ruleset cycles = (cycles-past, cycles-within, cycles-ahead, cycles-over)

-- what INTIM shows, and the flag, while INTIM shows at least so much
pub record ShowsAtLeast (bound : ℕ) (t u : Countdown) : Type 0 where
  pub least : bound ≤ intim u
  pub most : intim u ≤ intim t
  pub flag : u.flag ≡ t.flag

pub less_one-suc : (j : ℕ) → nat_abs (pos (suc j) -ℤ pos 1) ≡ j
less_one-suc j = omega (arith, ints)

pub shown-pos : (j i : ℕ) (b : Bool) → intim (timer (pos (suc j)) i b) ≡ j / i
unfolding intim
shown-pos j i b = rw (running-pos (suc j) (omega arith), less_one-suc j) refl

above-pos : (least j i : ℕ) (b : Bool) → cycles_above least (timer (pos (suc j)) i b) ≡ j - least * i
above-pos least j i b = rw (running-pos (suc j) (omega arith), less_one-suc j) refl

div-mono : (x y i : ℕ) → 0 < i → x ≤ y → x / i ≤ y / i
div-mono x y i some h = (le-div_iff_mul-le some).1 (omega (arith, div-mul-le_self x i))

above-by : (r : ℤ) (least n i : ℕ) (b : Bool) → 0 < i → 0 < cycles_above least (timer r i b) → n ≤ cycles_above least (timer r i b)
    → ShowsAtLeast least (timer r i b) (iterate after_cycle n (timer r i b))
above-by (negsuc k) least n i b some more h = absurd (omega (arith, more))
above-by (pos zero) least n i b some more h = absurd (omega (arith, more))
above-by (pos (suc j)) least n i b some more h =
    let few : n ≤ j - least * i = rw (above-pos least j i b) at h in
    let any : 0 < j - least * i = rw (above-pos least j i b) at more in
    rw (iterate-pos n (suc (j - n)) (suc j) i b (omega arith) (omega arith)) (record {
      least = rw (shown-pos (j - n) i b) ((le-div_iff_mul-le some).1 (omega arith));
      most = rw (shown-pos (j - n) i b, shown-pos j i b) (div-mono (j - n) j i some (omega arith));
      flag = refl;
    })

pub shown-above : (least n : ℕ) (t : Countdown) → 0 < t.interval → 0 < cycles_above least t → n ≤ cycles_above least t
    → ShowsAtLeast least t (iterate after_cycle n t)
shown-above least n t some more h = above-by t.count least n t.interval t.flag some more h

-- the count doesn't see the flag
iterate-but_for_flag : (n : ℕ) (s t : Countdown) → with_clear_flag s ≡ with_clear_flag t
    → with_clear_flag (iterate after_cycle n s) ≡ with_clear_flag (iterate after_cycle n t)
unfolding after_cycle
iterate-but_for_flag zero s t e = e
iterate-but_for_flag (suc n) s t e =
    iterate-but_for_flag n (after_cycle s) (after_cycle t) (ap (λ (u : Countdown). timer (next_count u.count) u.interval false) e)

pub clear-again : (n : ℕ) (t : Countdown) → with_clear_flag (iterate after_cycle n (with_clear_flag t)) ≡ with_clear_flag (iterate after_cycle n t)
clear-again n t = iterate-but_for_flag n (with_clear_flag t) t refl

pub intim-again : (n : ℕ) (t : Countdown) → intim (iterate after_cycle n (with_clear_flag t)) ≡ intim (iterate after_cycle n t)
unfolding intim
intim-again n t = ap intim (clear-again n t)
