-- Quiet missiles: what they show, and what a step and n steps make of them.
use Rattle.std.proofs.Common.{◌≡◌, ◌∙◌, ℕ, zero, suc, ◌+◌, ◌%◌, ◌<◌, ◌==◌, ◌&&◌, inl, inr, not, Bool, true, false, arith, refl, ap, if◌then◌else◌}
use Rattle.std.proofs.Common.{Option, Some, None}
use Rattle.std.proofs.lemmas.Bool.Decides.{nat_tests}
use Rattle.std.specs.Fn.{iterate}
use Rattle.std.specs.Prelude.{nat_le}
use Rattle.tia_chip.proofs.QuietAges.{age-next, age-small, alike-three, below-alike, counter-later, counter-next, counter-now, table}
use Rattle.tia_chip.proofs.UnderwayMissiles.{IsSize, IsSize-of}
use Rattle.tia_chip.specs.Counter.{beginnings_of, begins_copy, next_counter}
use Rattle.tia_chip.specs.Missile.{begins_missile, copy_about_to_show, copy_before_step, is_locked, is_missile_drawn}
use Rattle.tia_chip.specs.Missile.{missile_after_step, size_of, stepped_missile_copy}
use Rattle.tia_chip.specs.Quiet.{IsQuietMissile, age_of, counter_after, is_dot_of_age, keeps_quiet, missile_copy_at}
use Rattle.tia_chip.specs.Quiet.{missile_copy_of_age, missile_mask, quiet_missile_after}
use Rattle.tia_chip.specs.declared.missile.Missile.{Missile}
use Rattle.tia_chip.specs.declared.missile.MissileCopy.{MissileCopy}

-- a copy as a step finds it, given what it is at place 3
found : MissileCopy → Option MissileCopy → Option MissileCopy
found shown None = None
found shown (Some copy) = if copy.place == 3 then Some shown else Some copy

before-found : (size clock : ℕ) (moves : Bool) (copy : Option MissileCopy) → copy_before_step size clock moves copy ≡ found (copy_about_to_show size clock moves) copy
unfolding found
before-found size clock moves None = refl
before-found size clock moves (Some copy) = refl

shown-as : ℕ → MissileCopy
shown-as size = record { place = 3; own_size = size }

abbrev Keeps : Bool → ℕ → Type 0
Keeps moves clock = not (moves && (nat_le 1 (clock % 4) && nat_le (clock % 4) 2)) ≡ true

about-to-show : (size clock : ℕ) (moves : Bool) → Keeps moves clock → copy_about_to_show size clock moves ≡ shown-as size
unfolding shown-as
about-to-show size clock false h = refl
about-to-show size clock true h =
    let one : (clock % 4 == 1) ≡ false = grind (arith, nat_tests, h) in
    let two : (clock % 4 == 2) ≡ false = grind (arith, nat_tests, h) in
    rw (one, two) refl

found-as : (size clock : ℕ) (moves : Bool) (copy : Option MissileCopy) → Keeps moves clock → copy_before_step size clock moves copy ≡ found (shown-as size) copy
found-as size clock moves copy h = before-found size clock moves copy ∙ ap (λ s. found s copy) (about-to-show size clock moves h)

-- a copy, by its age
copy-begun : (size : ℕ) → IsSize size → Some (record { place = 0; own_size = 1 }) ≡ missile_copy_of_age size 0
copy-begun size (inl e) = rw e refl
copy-begun size (inr (inl e)) = rw e refl
copy-begun size (inr (inr (inl e))) = rw e refl
copy-begun size (inr (inr (inr e))) = rw e refl

after-found : ℕ → Bool → ℕ → Option MissileCopy
after-found size moves age = stepped_missile_copy size moves (found (shown-as size) (missile_copy_of_age size age))

copy-stepped : (size age : ℕ) (moves : Bool) → IsSize size → age < 160 → after-found size moves age ≡ missile_copy_of_age size (age + 1)
unfolding after-found found shown-as table
copy-stepped size age true (inl e) l = rw e (below-alike (after-found 1 true) (λ a. missile_copy_of_age 1 (a + 1)) 160 age refl l)
copy-stepped size age false (inl e) l = rw e (below-alike (after-found 1 false) (λ a. missile_copy_of_age 1 (a + 1)) 160 age refl l)
copy-stepped size age true (inr (inl e)) l = rw e (below-alike (after-found 2 true) (λ a. missile_copy_of_age 2 (a + 1)) 160 age refl l)
copy-stepped size age false (inr (inl e)) l = rw e (below-alike (after-found 2 false) (λ a. missile_copy_of_age 2 (a + 1)) 160 age refl l)
copy-stepped size age true (inr (inr (inl e))) l = rw e (below-alike (after-found 4 true) (λ a. missile_copy_of_age 4 (a + 1)) 160 age refl l)
copy-stepped size age false (inr (inr (inl e))) l = rw e (below-alike (after-found 4 false) (λ a. missile_copy_of_age 4 (a + 1)) 160 age refl l)
copy-stepped size age true (inr (inr (inr e))) l = rw e (below-alike (after-found 8 true) (λ a. missile_copy_of_age 8 (a + 1)) 160 age refl l)
copy-stepped size age false (inr (inr (inr e))) l = rw e (below-alike (after-found 8 false) (λ a. missile_copy_of_age 8 (a + 1)) 160 age refl l)

drawn-found : ℕ → ℕ → Bool
drawn-found size age = is_missile_drawn (found (shown-as size) (missile_copy_of_age size age))

copy-drawn : (size age : ℕ) → IsSize size → age < 160 → drawn-found size age ≡ is_dot_of_age size age
unfolding drawn-found found shown-as table
copy-drawn size age (inl e) l = rw e (below-alike (drawn-found 1) (is_dot_of_age 1) 160 age refl l)
copy-drawn size age (inr (inl e)) l = rw e (below-alike (drawn-found 2) (is_dot_of_age 2) 160 age refl l)
copy-drawn size age (inr (inr (inl e))) l = rw e (below-alike (drawn-found 4) (is_dot_of_age 4) 160 age refl l)
copy-drawn size age (inr (inr (inr e))) l = rw e (below-alike (drawn-found 8) (is_dot_of_age 8) 160 age refl l)

-- a copy, or none where it is locked
copy-next : (locked begins moves : Bool) (size age : ℕ) → IsSize size → age < 160
    → (if begins && not locked then Some (record { place = 0; own_size = 1 }) else stepped_missile_copy size moves (found (shown-as size) (if locked then None else missile_copy_of_age size age)))
    ≡ (if locked then None else missile_copy_of_age size (if begins then 0 else age + 1))
unfolding found after-found
copy-next true true moves size age h l = refl
copy-next true false moves size age h l = refl
copy-next false true moves size age h l = copy-begun size h
copy-next false false moves size age h l = copy-stepped size age moves h l

drawn-next : (locked : Bool) (size age : ℕ) → IsSize size → age < 160
    → is_missile_drawn (found (shown-as size) (if locked then None else missile_copy_of_age size age)) ≡ (not locked && is_dot_of_age size age)
unfolding found drawn-found
drawn-next true size age h l = refl
drawn-next false size age h l = copy-drawn size age h l

-- a missile with the copy of a quiet one
quieted : ℕ → Missile → Missile
quieted nusiz m = record m { copy = missile_copy_at nusiz m m.counter }

is-quieted : (nusiz : ℕ) (m : Missile) → IsQuietMissile nusiz m → m ≡ quieted nusiz m
unfolding quieted
is-quieted nusiz m h = ap (λ (copy : Option MissileCopy). record m { copy = copy }) h.copy

-- a step
copy-after : (nusiz clock : ℕ) (m : Missile) → m.counter < 160 → Keeps m.moves clock
    → (if begins_missile nusiz m then Some (record { place = 0; own_size = 1 }) else stepped_missile_copy (size_of nusiz) m.moves (copy_before_step (size_of nusiz) clock m.moves (missile_copy_at nusiz m m.counter)))
    ≡ missile_copy_at nusiz m (next_counter m.counter)
copy-after nusiz clock m l k =
    let mode = nusiz % 8 in
    rw (found-as (size_of nusiz) clock m.moves (missile_copy_at nusiz m m.counter) k, age-next mode m.counter (omega arith) l)
    (copy-next (is_locked m) (begins_copy mode m.counter) m.moves (size_of nusiz) (age_of mode m.counter) (IsSize-of nusiz) (age-small (beginnings_of mode) m.counter))

seen-after : (nusiz clock : ℕ) (m : Missile) → Keeps m.moves clock
    → is_missile_drawn (copy_before_step (size_of nusiz) clock m.moves (missile_copy_at nusiz m m.counter)) ≡ missile_mask nusiz m m.counter
seen-after nusiz clock m k =
    let mode = nusiz % 8 in
    rw (found-as (size_of nusiz) clock m.moves (missile_copy_at nusiz m m.counter) k)
    (drawn-next (is_locked m) (size_of nusiz) (age_of mode m.counter) (IsSize-of nusiz) (age-small (beginnings_of mode) m.counter))

quieted-step : (nusiz clock : ℕ) (m : Missile) → m.counter < 160 → Keeps m.moves clock
    → missile_after_step nusiz clock (quieted nusiz m) ≡ quiet_missile_after nusiz 1 m
unfolding quieted
quieted-step nusiz clock m l k =
    alike-three (λ (counter : ℕ) (copy : Option MissileCopy) (seen : Bool). record m { counter = counter; copy = copy; seen = seen })
    (next_counter m.counter) (counter_after 1 m.counter)
    (if begins_missile nusiz m then Some (record { place = 0; own_size = 1 }) else stepped_missile_copy (size_of nusiz) m.moves (copy_before_step (size_of nusiz) clock m.moves (missile_copy_at nusiz m m.counter)))
    (missile_copy_at nusiz m (counter_after 1 m.counter))
    (is_missile_drawn (copy_before_step (size_of nusiz) clock m.moves (missile_copy_at nusiz m m.counter))) (missile_mask nusiz m (counter_after 0 m.counter))
    (counter-next m.counter l) (copy-after nusiz clock m l k ∙ ap (λ c. missile_copy_at nusiz m c) (counter-next m.counter l))
    (seen-after nusiz clock m k ∙ ap (λ c. missile_mask nusiz m c) (counter-now m.counter l))

pub missile-step : (nusiz clock : ℕ) (m : Missile) → IsQuietMissile nusiz m → keeps_quiet clock m ≡ true → missile_after_step nusiz clock m ≡ quiet_missile_after nusiz 1 m
missile-step nusiz clock m h k = ap (λ (q : Missile). missile_after_step nusiz clock q) (is-quieted nusiz m h) ∙ quieted-step nusiz clock m h.counter k

-- what a look sees
drawn-of-age : (size age : ℕ) → IsSize size → age < 160 → is_missile_drawn (missile_copy_of_age size age) ≡ is_dot_of_age size age
unfolding table
drawn-of-age size age (inl e) l = rw e (below-alike (λ a. is_missile_drawn (missile_copy_of_age 1 a)) (is_dot_of_age 1) 160 age refl l)
drawn-of-age size age (inr (inl e)) l = rw e (below-alike (λ a. is_missile_drawn (missile_copy_of_age 2 a)) (is_dot_of_age 2) 160 age refl l)
drawn-of-age size age (inr (inr (inl e))) l = rw e (below-alike (λ a. is_missile_drawn (missile_copy_of_age 4 a)) (is_dot_of_age 4) 160 age refl l)
drawn-of-age size age (inr (inr (inr e))) l = rw e (below-alike (λ a. is_missile_drawn (missile_copy_of_age 8 a)) (is_dot_of_age 8) 160 age refl l)

drawn-unless : (locked : Bool) (size age : ℕ) → IsSize size → age < 160
    → is_missile_drawn (if locked then None else missile_copy_of_age size age) ≡ (not locked && is_dot_of_age size age)
drawn-unless true size age h l = refl
drawn-unless false size age h l = drawn-of-age size age h l

pub missile-shows : (nusiz : ℕ) (m : Missile) → IsQuietMissile nusiz m → is_missile_drawn m.copy ≡ missile_mask nusiz m m.counter
missile-shows nusiz m h =
    let mode = nusiz % 8 in
    rw h.copy (drawn-unless (is_locked m) (size_of nusiz) (age_of mode m.counter) (IsSize-of nusiz) (age-small (beginnings_of mode) m.counter))

-- n steps
pub missile-quiet : (nusiz : ℕ) (m : Missile) (n : ℕ) → IsQuietMissile nusiz m → IsQuietMissile nusiz (quiet_missile_after nusiz n m)
missile-quiet nusiz m zero h = h
missile-quiet nusiz m (suc n) h = record { counter = omega arith; copy = refl }

after-one : (nusiz : ℕ) (m : Missile) (n : ℕ) → quiet_missile_after nusiz n (quiet_missile_after nusiz 1 m) ≡ quiet_missile_after nusiz (suc n) m
after-one nusiz m zero = refl
after-one nusiz m (suc n) =
    let later = counter-later (suc n) m.counter in
    alike-three (λ (counter : ℕ) (copy : Option MissileCopy) (seen : Bool). record m { counter = counter; copy = copy; seen = seen })
    (counter_after (suc n) (counter_after 1 m.counter)) (counter_after (suc (suc n)) m.counter)
    (missile_copy_at nusiz m (counter_after (suc n) (counter_after 1 m.counter))) (missile_copy_at nusiz m (counter_after (suc (suc n)) m.counter))
    (missile_mask nusiz m (counter_after n (counter_after 1 m.counter))) (missile_mask nusiz m (counter_after (suc n) m.counter)) later
    (ap (λ c. missile_copy_at nusiz m c) later) (ap (λ c. missile_mask nusiz m c) (counter-later n m.counter))

pub missile-steps : (nusiz clock : ℕ) (m : Missile) (n : ℕ) → IsQuietMissile nusiz m → keeps_quiet clock m ≡ true
    → iterate (missile_after_step nusiz clock) n m ≡ quiet_missile_after nusiz n m
missile-steps nusiz clock m zero h k = refl
missile-steps nusiz clock m (suc n) h k =
    ap (λ (q : Missile). iterate (missile_after_step nusiz clock) n q) (missile-step nusiz clock m h k)
    ∙ (missile-steps nusiz clock (quiet_missile_after nusiz 1 m) n (missile-quiet nusiz m 1 h) k ∙ after-one nusiz m n)
