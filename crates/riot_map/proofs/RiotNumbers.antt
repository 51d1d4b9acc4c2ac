-- A RIOT and its numbers: each comes back from the other.
use Rattle.riot_map.proofs.RiotFieldLemmas.{lawful_codes, lawful_parts}
use Rattle.riot_map.proofs.TimerLemmas.{timer, shown-parts, part-parts, past-parts, running-pos, less_one-suc}
use Rattle.riot_map.specs.Private.Parts.{ArePartsLawful}
use Rattle.riot_map.specs.Riot.{RiotState, IsRiot, riot_of, fields_of, with_pins}
use Rattle.riot_map.specs.RiotFields.{is_riot, timer_of, AreInRange}
use Rattle.riot_map.specs.Timer.{Countdown, IsTimer, intim, part_left, interval_code, count_of}
use Rattle.riot_map.specs.Timer.{interval_of, is_interval, is_running}
use Rattle.riot_map.specs.declared.fields.RiotFields.{RiotFields}
use Rattle.std.proofs.Common.{rules, arith, not, ◌==◌, if◌then◌else◌, mul-le-mul_right, div-lt_iff_lt-mul, ◌≡◌, ℕ, zero, suc, ◌*◌, ◌<◌, ◌≤◌}
use Rattle.std.proofs.Common.{Bool, true, false, refl}
use Rattle.std.proofs.lemmas.Bool.Decides.{nat_tests}
use Rattle.std.proofs.lemmas.Int.{ints}
use Rattle.std.proofs.lemmas.Nat.{div-add-mod'}
use Rattle.std.specs.Prelude.{ℤ, pos, negsuc, ◌≤ℤ◌}

pub is_interval-of : (code : ℕ) → is_interval (interval_of code) ≡ true
is_interval-of code = grind (arith, nat_tests)

pub interval-back : (i : ℕ) → is_interval i ≡ true → interval_of (interval_code i) ≡ i
interval-back i h = grind (arith, nat_tests)

pub interval-positive : (code : ℕ) → 0 < interval_of code
interval-positive code = grind (arith, nat_tests)

-- the parts that a count shows are lawful, and the count is theirs
abbrev past_zero : Countdown → Bool
past_zero t = not (is_running t)

abbrev ShowsParts : Countdown → Type 0
ShowsParts t =
    ArePartsLawful (intim t) (part_left t) t.interval (past_zero t) × (count_of (intim t) (part_left t) t.interval (past_zero t) ≡ t.count)

shows_parts-at : (r : ℤ) (i : ℕ) (b : Bool) → 0 < i → negsuc 254 ≤ℤ r → r ≤ℤ pos (256 * i) → ShowsParts (timer r i b)
unfolding intim part_left
shows_parts-at (pos zero) i b h l m =
    (record { byte = omega arith; some = omega arith; most = omega arith; past = λ _. refl }, refl)
shows_parts-at (negsuc n) i b h l m =
    (record { byte = omega (arith, ints); some = omega arith; most = omega arith; past = λ _. refl }, omega (arith, ints))
shows_parts-at (pos (suc n)) i b h l m =
    rw (running-pos (suc n) (omega arith), less_one-suc n) (
      record { byte = (div-lt_iff_lt-mul h).1 (omega (arith, ints)); some = omega arith; most = omega arith; past = λ e. cc },
      omega (arith, ints, div-add-mod' n i),
    )

shows_parts : (t : Countdown) → IsTimer t → ShowsParts t
shows_parts t h =
    let positive : 0 < t.interval = rw (interval-back t.interval h.interval) at (interval-positive (interval_code t.interval)) in
    shows_parts-at t.count t.interval t.flag positive h.least h.most

past_again : (b : Bool) → ((if b then 0 else 1) == 1) ≡ not b
past_again b = grind (arith, nat_tests)

flag_again : (b : Bool) → ((if b then 1 else 0) == 1) ≡ b
flag_again b = grind (arith, nat_tests)

code-small : (i : ℕ) → interval_code i < 4
code-small i = grind (arith, nat_tests)

-- a RIOT comes back from its numbers
pub riot_of-fields_of : (r : RiotState) → IsRiot r → riot_of (fields_of r) ≡ with_pins 255 255 r
unfolding riot_of fields_of timer_of
riot_of-fields_of r h =
    rw (interval-back r.timer.interval h.timer.interval, past_again (is_running r.timer), (shows_parts r.timer h.timer).1, flag_again r.timer.flag) refl

pub is_riot-fields_of : (r : RiotState) → IsRiot r → is_riot (fields_of r) ≡ true
unfolding fields_of is_riot
is_riot-fields_of r h =
    let l = (shows_parts r.timer h.timer).0 in
    grind (arith, nat_tests, interval-back r.timer.interval h.timer.interval, code-small r.timer.interval, l.some, l.most, l.past)

pub AreInRange-fields_of : (r : RiotState) → IsRiot r → AreInRange (fields_of r)
unfolding fields_of
AreInRange-fields_of r h = search (rules, (shows_parts r.timer h.timer).0.byte)

-- lawful numbers make a RIOT
IsTimer-parts : (v q i : ℕ) (past b : Bool) → ArePartsLawful v q i past → is_interval i ≡ true → IsTimer (timer (count_of v q i past) i b)
IsTimer-parts v q i true b l e = record { interval = e; least = omega (arith, ints); most = omega (arith, ints) }
IsTimer-parts v q i false b l e =
    let few : v * i ≤ 255 * i = mul-le-mul_right {m = v} {n = 255} i (omega arith) in
    record { interval = e; least = omega (arith, ints); most = omega (arith, ints) }

pub IsRiot-riot_of : (f : RiotFields) → AreInRange f → is_riot f ≡ true → IsRiot (riot_of f)
unfolding riot_of timer_of
IsRiot-riot_of f k h =
    let timer = IsTimer-parts f.timer f.part _ (f.past_zero == 1) (f.flag == 1) (lawful_parts f k.timer h) (is_interval-of f.interval) in
    search (rules, timer)

-- lawful numbers come back from the RIOT that they make
bit_back : (n : ℕ) → n < 2 → (if n == 1 then 1 else 0) ≡ n
bit_back n h = grind (arith, nat_tests)

not_back : (b : Bool) (n : ℕ) → n < 2 → not b ≡ (n == 1) → (if b then 0 else 1) ≡ n
not_back b n h e = grind (arith, nat_tests)

code_back : (n : ℕ) → n < 4 → interval_code (interval_of n) ≡ n
code_back n h = grind (arith, nat_tests)

pub fields_back : (f : RiotFields) → f.timer < 256 → is_riot f ≡ true → fields_of (riot_of f) ≡ f
unfolding fields_of riot_of timer_of
fields_back f k h =
    let l = lawful_parts f k h in
    let past = past-parts f.timer f.part (interval_of f.interval) (f.past_zero == 1) (f.flag == 1) l in
    rw (
      shown-parts f.timer f.part (interval_of f.interval) (f.past_zero == 1) (f.flag == 1) l,
      part-parts f.timer f.part (interval_of f.interval) (f.past_zero == 1) (f.flag == 1) l,
      not_back _ f.past_zero (lawful_codes f h).1 past,
      bit_back f.flag (lawful_codes f h).2,
      code_back f.interval (lawful_codes f h).0,
    ) refl
