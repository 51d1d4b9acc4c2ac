-- Many cycles at once.
use Rattle.std.proofs.Common.{◌≡◌, ◌∙◌, ℕ, zero, suc, ◌+◌, ◌-◌, ◌*◌, ◌/◌, ◌%◌, ◌<◌, ◌≤◌, Bool, false, true}
use Rattle.std.proofs.Common.{refl, sym, ap, arith}
use Rattle.std.specs.Fn.{iterate}
use Rattle.std.proofs.lemmas.Bool.Decides.{nat_tests}
use Rattle.std.proofs.lemmas.Nat.{div-mul-add}
use Rattle.std.proofs.Math.Nat.{add-mul, le-div_iff_mul-le}
use Rattle.riot_map.proofs.TimerLaws.{iterate-add}
use Rattle.riot_chip.specs.Riot.{RiotState, riot_after_step}
use Rattle.riot_chip.specs.Timer.{TimerState, ShowsAtLeast, after_step}

abbrev timer : ℕ → ℕ → ℕ → Bool → TimerState
timer value part interval flag = record { value = value; part = part; interval = interval; flag = flag }

-- ---- zero is behind

fall-last : (v i : ℕ) → v < 256 → after_step (timer v 1 i true) ≡ timer ((v + 255) % 256) i i true
fall-last v i byte = grind (arith, nat_tests)

fall-within : (v q i : ℕ) → v < 256 → 1 ≤ q → after_step (timer v (suc q) i true) ≡ timer ((v + 255) % 256) q i true
fall-within v q i byte more = grind (arith, nat_tests)

-- Where n cycles end m intervals, so much is left of the last.
fallen : (n v q i m left : ℕ) → v < 256 → 1 ≤ q → q ≤ i → 1 ≤ left → left ≤ i → left + n ≡ q + m * i
    → iterate after_step n (timer v q i true) ≡ timer ((v + 255 * n) % 256) left i true
fallen zero v q i zero left byte some most least bound e =
    let part : left ≡ q = omega arith in
    let value : (v + 255 * 0) % 256 ≡ v = omega arith in
    rw (part, value) refl
fallen zero v q i (suc m) left byte some most least bound e = absurd (omega arith)
fallen (suc n) v zero i m left byte some most least bound e = absurd (omega arith)
fallen (suc n) v (suc zero) i zero left byte some most least bound e = absurd (omega arith)
fallen (suc n) v (suc zero) i (suc m) left byte some most least bound e =
    let value : ((v + 255) % 256 + 255 * n) % 256 ≡ (v + 255 * suc n) % 256 = omega arith in
    ap (iterate after_step n) (fall-last v i byte)
    ∙ fallen n ((v + 255) % 256) i i m left (omega arith) (omega arith) (omega arith) least bound (omega arith)
    ∙ ap (λ (w : ℕ). timer w left i true) value
fallen (suc n) v (suc (suc q)) i m left byte some most least bound e =
    let value : ((v + 255) % 256 + 255 * n) % 256 ≡ (v + 255 * suc n) % 256 = omega arith in
    ap (iterate after_step n) (fall-within v (suc q) i byte (omega arith))
    ∙ fallen n ((v + 255) % 256) (suc q) i m left (omega arith) (omega arith) (omega arith) least bound (omega arith)
    ∙ ap (λ (w : ℕ). timer w left i true) value

-- n cycles leave the part of an interval that they don't fill.
pub fallen-within : (n v q i : ℕ) → v < 256 → 1 ≤ q → q ≤ i → n % i < q
    → iterate after_step n (timer v q i true) ≡ timer ((v + (256 - n % 256)) % 256) (q - n % i) i true
fallen-within n v q i byte some most less =
    let value : (v + 255 * n) % 256 ≡ (v + (256 - n % 256)) % 256 = omega arith in
    fallen n v q i (n / i) (q - n % i) byte some most (omega arith) (omega arith) (omega arith)
    ∙ ap (λ (w : ℕ). timer w (q - n % i) i true) value

pub fallen-past : (n v q i : ℕ) → v < 256 → 1 ≤ q → q ≤ i → q ≤ n % i
    → iterate after_step n (timer v q i true) ≡ timer ((v + (256 - n % 256)) % 256) (q + i - n % i) i true
fallen-past n v q i byte some most past =
    let value : (v + 255 * n) % 256 ≡ (v + (256 - n % 256)) % 256 = omega arith in
    fallen n v q i (suc (n / i)) (q + i - n % i) byte some most (omega arith) (omega arith) (omega arith)
    ∙ ap (λ (w : ℕ). timer w (q + i - n % i) i true) value

-- ---- zero is ahead

last : (v i : ℕ) → after_step (timer (suc v) 1 i false) ≡ timer v i i false
last v i = grind (arith, nat_tests)

within : (v q i : ℕ) → 1 ≤ q → after_step (timer v (suc q) i false) ≡ timer v q i false
within v q i more = grind (arith, nat_tests)

-- The same value from the same count of cycles.
same-value : (v q w p i : ℕ) → 1 ≤ q → q ≤ i → 1 ≤ p → p ≤ i → w * i + p ≡ v * i + q → w ≡ v
same-value v q w p i some most least bound e =
    let one = div-mul-add v i (q - 1) (omega arith) in
    let other = div-mul-add w i (p - 1) (omega arith) in
    let same : w * i + (p - 1) ≡ v * i + (q - 1) = omega arith in
    sym other ∙ ap (λ (n : ℕ). n / i) same ∙ one

-- Where n cycles lead to this value and part, which zero is still ahead of.
running : (n v q w p i : ℕ) → 1 ≤ q → q ≤ i → 1 ≤ p → p ≤ i → w * i + p + n ≡ v * i + q
    → iterate after_step n (timer v q i false) ≡ timer w p i false
running zero v q w p i some most least bound e =
    let value : w ≡ v = same-value v q w p i some most least bound (omega arith) in
    let part : p ≡ q = omega (arith, ap (λ (u : ℕ). u * i) value) in
    rw (value, part) refl
running (suc n) v zero w p i some most least bound e = absurd (omega arith)
running (suc n) zero (suc zero) w p i some most least bound e = absurd (omega arith)
running (suc n) (suc v) (suc zero) w p i some most least bound e =
    ap (iterate after_step n) (last v i)
    ∙ running n v i w p i (omega arith) (omega arith) least bound (omega arith)
running (suc n) v (suc (suc q)) w p i some most least bound e =
    ap (iterate after_step n) (within v (suc q) i (omega arith))
    ∙ running n v (suc q) w p i (omega arith) (omega arith) least bound (omega arith)

pub ahead : (n v q i : ℕ) → 1 ≤ q → q ≤ i → n < v * i + q
    → iterate after_step n (timer v q i false) ≡ timer ((v * i + q - n - 1) / i) ((v * i + q - n - 1) % i + 1) i false
ahead n v q i some most less =
    let left : ℕ = v * i + q - n - 1 in
    running n v q (left / i) (left % i + 1) i some most (omega arith) (omega arith) (omega arith)

-- Past the cycle in which the flag is set.
pub over : (n v q i : ℕ) → 1 ≤ q → q ≤ i → v * i + q ≤ n
    → iterate after_step n (timer v q i false) ≡ iterate after_step (n - (v * i + q)) (timer 255 i i true)
over n v q i some most past =
    let before : ℕ = v * i + q - 1 in
    let all : n ≡ before + suc (n - (v * i + q)) = omega arith in
    ap (λ (k : ℕ). iterate after_step k (timer v q i false)) all
    ∙ iterate-add after_step before (suc (n - (v * i + q))) (timer v q i false)
    ∙ ap (iterate after_step (suc (n - (v * i + q)))) (running before v q 0 1 i some most (omega arith) (omega arith) (omega arith))

-- How long INTIM shows at least so much.
pub shown : (least n v q i : ℕ) → 1 ≤ q → q ≤ i → least ≤ v → n < (v - least) * i + q
    → ShowsAtLeast least (iterate after_step n (timer v q i false))
shown least n v q i some most above few =
    let both : v - least + least ≡ v = omega arith in
    let more : v * i ≡ (v - least) * i + least * i = rw both at (add-mul (v - least) least i) in
    let interval : 0 < i = omega arith in
    let left : ℕ = v * i + q - n - 1 in
    let enough : least * i ≤ left = omega arith in
    rw (ahead n v q i some most (omega arith)) (record { ahead = refl; shown = (le-div_iff_mul-le {x = least} {y = left} interval).1 enough })

-- ---- the RIOT

-- Its timer alone makes the steps.
pub riot-steps : (n : ℕ) (r : RiotState) → iterate riot_after_step n r ≡ record r { timer = iterate after_step n r.timer }
riot-steps zero r = refl
riot-steps (suc n) r = riot-steps n (riot_after_step r)

pub ruleset falls = (fallen-within, fallen-past)

pub ruleset cycles = (ahead, over)

pub ruleset steps = (riot-steps)
