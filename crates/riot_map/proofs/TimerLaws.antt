-- What the timer shows after a write that starts it.
use Rattle.std.proofs.Common.{◌≡◌, ℕ, zero, suc, ◌+◌, ◌-◌, ◌*◌, ◌/◌, ◌%◌, ◌<◌, ◌≤◌, Bool, true}
use Rattle.std.proofs.Common.{false, refl, ap, arith, ◌∙◌, if◌then◌else◌, div-lt_iff_lt-mul, mod-lt}
use Rattle.std.specs.Prelude.{pos}
use Rattle.std.proofs.lemmas.Int.{ints}
use Rattle.std.specs.Fn.{iterate}
use Rattle.std.proofs.lemmas.Bool.Decides.{nat_tests}
use Rattle.std.proofs.lemmas.Nat.{div-add-mod', div-mul-add}
use Rattle.riot_map.specs.Timer.{Countdown, after_cycle, intim, interval_of, timer_of_write}
use Rattle.riot_map.specs.Timer.{with_clear_flag}
use Rattle.riot_map.specs.Riot.{RiotState, after_cycles, after_read, after_timer_read, after_write}
use Rattle.riot_map.specs.Riot.{riot_read}
use Rattle.riot_map.proofs.RiotNumbers.{interval-positive}
use Rattle.riot_map.proofs.TimerLemmas.{timer, below, iterate-below, iterate-pos, intim-again}
use Rattle.riot_map.proofs.TimerLemmas.{shown-pos, stopped-below}

pub iterate-add : {A : Type 0} (f : A → A) (m n : ℕ) (a : A) → iterate f (m + n) a ≡ iterate f n (iterate f m a)
iterate-add f zero n a = let e : zero + n ≡ n = omega arith in rw e
iterate-add f (suc m) n a = let e : suc m + n ≡ suc (m + n) = omega arith in rw e (iterate-add f m n (f a))

-- the write
started : (r : RiotState) (code n : ℕ) → code < 4 → after_write r (20 + code) n ≡ record r { timer = timer_of_write (interval_of code) n }
unfolding after_write
started r zero n h = refl
started r (suc zero) n h = refl
started r (suc (suc zero)) n h = refl
started r (suc (suc (suc zero))) n h = refl
started r (suc (suc (suc (suc code)))) n h = absurd (omega arith)

-- before zero
spread : (k q i : ℕ) → (k + q + 1) * i ≡ k * i + q * i + i
spread k q i = omega arith

quotient : (n i t : ℕ) → 0 < i → 0 < t → t ≤ n * i → (n * i - t) / i ≡ n - 1 - (t - 1) / i
quotient n i t some any most =
    let q : (t - 1) / i < n = (div-lt_iff_lt-mul some).1 (omega arith) in
    let parts = div-add-mod' (t - 1) i in
    let part : (t - 1) % i < i = mod-lt (t - 1) some in
    let room : n * i ≡ (n - 1 - (t - 1) / i) * i + (t - 1) / i * i + i = ap (λ (m : ℕ). m * i) (omega arith) ∙ spread (n - 1 - (t - 1) / i) ((t - 1) / i) i in
    let rest : n * i - t ≡ (n - 1 - (t - 1) / i) * i + (i - 1 - (t - 1) % i) = omega arith in
    rw rest (div-mul-add (n - 1 - (t - 1) / i) i (i - 1 - (t - 1) % i) (omega arith))

running : (n i t : ℕ) → t ≤ n * i → iterate after_cycle t (timer_of_write i n) ≡ timer (pos (suc (n * i - t))) i false
unfolding timer_of_write
running n i t h = iterate-pos t (suc (n * i - t)) (n * i + 1) i false (omega arith) (omega arith)

pub shown-running : (n i t : ℕ) → 0 < i → 0 < t → t ≤ n * i
    → (intim (iterate after_cycle t (timer_of_write i n)) ≡ n - 1 - (t - 1) / i) × ((iterate after_cycle t (timer_of_write i n)).flag ≡ false)
shown-running n i t some any most = rw (running n i t most) (shown-pos (n * i - t) i false ∙ quotient n i t some any most, refl)

-- past zero
at_zero : (n i : ℕ) → iterate after_cycle (n * i + 1) (timer_of_write i n) ≡ timer (below 255) i true
unfolding after_cycle timer_of_write
at_zero n i = iterate-add after_cycle (n * i) 1 (timer_of_write i n) ∙ ap after_cycle (iterate-pos (n * i) 1 (n * i + 1) i false (omega arith) (omega arith))

after_zero : (n i t : ℕ) → iterate after_cycle (n * i + 1 + t) (timer_of_write i n) ≡ timer (below (255 - t % 256)) i true
after_zero n i t =
    iterate-add after_cycle (n * i + 1) t (timer_of_write i n)
    ∙ ap (iterate after_cycle t) (at_zero n i)
    ∙ iterate-below t 255 i true (omega arith) ∙ ap (λ v. timer (below v) i true) (omega arith)

shown-below : (v i : ℕ) (b : Bool) → v < 256 → intim (timer (below v) i b) ≡ v
unfolding intim
shown-below v i b h = rw (stopped-below v h) (omega (arith, ints))

pub shown-past : (n i t : ℕ)
    → (intim (iterate after_cycle (n * i + 1 + t) (timer_of_write i n)) ≡ 255 - t % 256)
    × ((iterate after_cycle (n * i + 1 + t) (timer_of_write i n)).flag ≡ true)
shown-past n i t = rw (after_zero n i t) (shown-below (255 - t % 256) i true (omega arith), refl)

-- once it was read past zero the flag stays clear
pub clear-past : (n i t u : ℕ)
    → (iterate after_cycle u (with_clear_flag (iterate after_cycle (n * i + 1 + t) (timer_of_write i n)))).flag ≡ false
clear-past n i t u = rw (after_zero n i t, iterate-below u (255 - t % 256) i false (omega arith)) refl

-- the same of a RIOT
pub read-running : (r : RiotState) (code n t : ℕ) → code < 4 → 0 < t → t ≤ n * interval_of code
    → let after = after_cycles t (after_write r (20 + code) n) in
    (riot_read after 4 ≡ n - 1 - (t - 1) / interval_of code) × (riot_read after 5 ≡ 0)
unfolding riot_read after_cycles
read-running r code n t known some most =
    let shown = shown-running n (interval_of code) t (interval-positive code) some most in
    rw (started r code n known) (shown.0, ap (λ (b : Bool). if b then 128 else 0) shown.1)

pub read-past : (r : RiotState) (code n t : ℕ) → code < 4
    → let after = after_cycles (n * interval_of code + 1 + t) (after_write r (20 + code) n) in
    (riot_read after 4 ≡ 255 - t % 256) × (riot_read after 5 ≡ 128)
unfolding riot_read after_cycles
read-past r code n t known =
    let shown = shown-past n (interval_of code) t in
    rw (started r code n known) (shown.0, ap (λ (b : Bool). if b then 128 else 0) shown.1)

pub read-cleared : (r : RiotState) (code n t u : ℕ) → code < 4
    → let after = after_cycles (n * interval_of code + 1 + t) (after_write r (20 + code) n) in
    riot_read (after_cycles u (after_read after 4)) 5 ≡ 0
unfolding riot_read after_cycles after_read after_timer_read
read-cleared r code n t u known =
    rw (started r code n known) (ap (λ (b : Bool). if b then 128 else 0) (clear-past n (interval_of code) t u))

-- reads change nothing of what INTIM shows later
pub intim-after_read : (r : RiotState) (register n : ℕ) → riot_read (after_cycles n (after_read r register)) 4 ≡ riot_read (after_cycles n r) 4
unfolding riot_read after_read after_timer_read after_cycles
intim-after_read r register n = grind (arith, nat_tests, intim-again n r.timer)

-- cycles one after another
pub riot-none : (r : RiotState) → after_cycles 0 r ≡ r
unfolding after_cycles
riot-none r = refl

pub riot-one : (r : RiotState) → after_cycles 1 r ≡ record r { timer = after_cycle r.timer }
unfolding after_cycles
riot-one r = refl

pub riot-add : (m n : ℕ) (r : RiotState) → after_cycles (m + n) r ≡ after_cycles n (after_cycles m r)
unfolding after_cycles
riot-add m n r = ap (λ (t : Countdown). record r { timer = t }) (iterate-add after_cycle m n r.timer)
