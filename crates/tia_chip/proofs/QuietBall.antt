-- A quiet ball: what it shows, and what a step and n steps make of it.
use Rattle.std.proofs.Common.{◌≡◌, ◌∙◌, ℕ, zero, suc, ◌+◌, ◌-◌, ◌%◌, ◌<◌, ◌==◌, ◌&&◌, ◌||◌, ◌⊎◌, inl, inr, not, Bool, true, false, arith, refl, ap, sym, if◌then◌else◌}
use Rattle.std.proofs.Common.{Option, Some}
use Rattle.std.proofs.lemmas.Bool.{cases_Bool, le-ltb, lt-ltb, ltb-false, ltb-true, false≢true}
use Rattle.std.specs.Fn.{iterate}
use Rattle.std.specs.Prelude.{nat_le, nat_lt}
use Rattle.tia_chip.proofs.QuietAges.{age-next, age-small, below-alike, counter-later, counter-next, counter-now, table}
use Rattle.tia_chip.proofs.UnderwayMissiles.{IsSize, IsSize-of}
use Rattle.tia_chip.specs.Ball.{ball_after_step, begun_place, begun_size, ending_size, is_ball_drawn, looked_at_ball, stepped_place}
use Rattle.tia_chip.specs.Counter.{beginnings_of, begins_copy, next_counter}
use Rattle.tia_chip.specs.Missile.{size_of}
use Rattle.tia_chip.specs.Quiet.{IsQuietBall, age_of, ball_mask, ball_place_at, ball_place_of_age, begins_within}
use Rattle.tia_chip.specs.Quiet.{counter_after, is_dot_of_age, quiet_ball_after}
use Rattle.tia_chip.specs.declared.ball.Ball.{Ball}

alike-four : {A B C D E : Type 0} (f : A → B → C → D → E) (a a' : A) (b b' : B) (c c' : C) (d d' : D)
    → a ≡ a' → b ≡ b' → c ≡ c' → d ≡ d' → f a b c d ≡ f a' b' c' d'
alike-four f a a' b b' c c' d d' i j k l = cc

-- a place, by its copy's age
place-stepped : (size age : ℕ) → IsSize size → age < 160 → stepped_place size (ball_place_of_age size age) ≡ ball_place_of_age size (age + 1)
unfolding table
place-stepped size age (inl e) l = rw e (below-alike (λ a. stepped_place 1 (ball_place_of_age 1 a)) (λ a. ball_place_of_age 1 (a + 1)) 160 age refl l)
place-stepped size age (inr (inl e)) l = rw e (below-alike (λ a. stepped_place 2 (ball_place_of_age 2 a)) (λ a. ball_place_of_age 2 (a + 1)) 160 age refl l)
place-stepped size age (inr (inr (inl e))) l = rw e (below-alike (λ a. stepped_place 4 (ball_place_of_age 4 a)) (λ a. ball_place_of_age 4 (a + 1)) 160 age refl l)
place-stepped size age (inr (inr (inr e))) l = rw e (below-alike (λ a. stepped_place 8 (ball_place_of_age 8 a)) (λ a. ball_place_of_age 8 (a + 1)) 160 age refl l)

place-begun : (size : ℕ) → IsSize size → Some 0 ≡ ball_place_of_age size 0
place-begun size (inl e) = rw e refl
place-begun size (inr (inl e)) = rw e refl
place-begun size (inr (inr (inl e))) = rw e refl
place-begun size (inr (inr (inr e))) = rw e refl

place-next : (begins : Bool) (size age : ℕ) → IsSize size → age < 160
    → (if begins then Some 0 else stepped_place size (ball_place_of_age size age)) ≡ ball_place_of_age size (if begins then 0 else age + 1)
place-next true size age h l = place-begun size h
place-next false size age h l = place-stepped size age h l

drawn-of-age : (size age : ℕ) → IsSize size → age < 160 → is_ball_drawn (ball_place_of_age size age) ≡ is_dot_of_age size age
unfolding table
drawn-of-age size age (inl e) l = rw e (below-alike (λ a. is_ball_drawn (ball_place_of_age 1 a)) (is_dot_of_age 1) 160 age refl l)
drawn-of-age size age (inr (inl e)) l = rw e (below-alike (λ a. is_ball_drawn (ball_place_of_age 2 a)) (is_dot_of_age 2) 160 age refl l)
drawn-of-age size age (inr (inr (inl e))) l = rw e (below-alike (λ a. is_ball_drawn (ball_place_of_age 4 a)) (is_dot_of_age 4) 160 age refl l)
drawn-of-age size age (inr (inr (inr e))) l = rw e (below-alike (λ a. is_ball_drawn (ball_place_of_age 8 a)) (is_dot_of_age 8) 160 age refl l)

place-shows : (ctrlpf counter : ℕ) → is_ball_drawn (ball_place_at ctrlpf counter) ≡ ball_mask ctrlpf counter
place-shows ctrlpf counter = drawn-of-age (size_of ctrlpf) (age_of 0 counter) (IsSize-of ctrlpf) (age-small (beginnings_of 0) counter)

pub ball-shows : (ctrlpf : ℕ) (b : Ball) → IsQuietBall ctrlpf b → is_ball_drawn b.place ≡ ball_mask ctrlpf b.counter
ball-shows ctrlpf b h = rw h.place (place-shows ctrlpf b.counter)

-- a ball that doesn't move in the picture
abbrev Keeps : Bool → Bool → Type 0
Keeps moves in_blank = (not moves || in_blank) ≡ true

early-none : (phase moves in_blank small : Bool) → Keeps moves in_blank → ◌≡◌ {A = ℕ} (if phase && moves && not in_blank && small then 1 else 0) 0
early-none true true true small h = refl
early-none true true false small h = absurd (false≢true h)
early-none true false true small h = refl
early-none true false false small h = refl
early-none false true true small h = refl
early-none false true false small h = refl
early-none false false true small h = refl
early-none false false false small h = refl

ending-by : (moves in_blank : Bool) (own size : ℕ) → Keeps moves in_blank → (if moves && not in_blank then own else size) ≡ size
ending-by true true own size h = refl
ending-by true false own size h = absurd (false≢true h)
ending-by false in_blank own size h = refl

-- a ball with the place of a quiet one
quieted : ℕ → Ball → Ball
quieted ctrlpf b = record b { place = ball_place_at ctrlpf b.counter }

is-quieted : (ctrlpf : ℕ) (b : Ball) → IsQuietBall ctrlpf b → b ≡ quieted ctrlpf b
unfolding quieted
is-quieted ctrlpf b h = ap (λ (place : Option ℕ). record b { place = place }) h.place

-- a step
joined : (b : Ball) (begins : Bool) (begun later : Option ℕ) (size : ℕ)
    → (if begins then record b { place = begun; own_size = size } else record b { place = later })
    ≡ record b { place = if begins then begun else later; own_size = if begins then size else b.own_size }
joined b true begun later size = refl
joined b false begun later size = refl

place-after : (ctrlpf : ℕ) (in_blank : Bool) (b : Ball) → b.counter < 160 → Keeps b.moves in_blank
    → (if begins_copy 0 b.counter then Some (begun_place ctrlpf in_blank b) else stepped_place (ending_size ctrlpf in_blank b) (ball_place_at ctrlpf b.counter))
    ≡ ball_place_at ctrlpf (next_counter b.counter)
place-after ctrlpf in_blank b l k =
    rw (early-none (b.phase == 1) b.moves in_blank (nat_le (size_of ctrlpf) 2) k, ending-by b.moves in_blank b.own_size (size_of ctrlpf) k, age-next 0 b.counter (omega arith) l)
    (place-next (begins_copy 0 b.counter) (size_of ctrlpf) (age_of 0 b.counter) (IsSize-of ctrlpf) (age-small (beginnings_of 0) b.counter))

begins-alike : (counter : ℕ) → counter < 160 → begins_copy 0 counter ≡ begins_within 1 counter
unfolding table
begins-alike counter l = below-alike (begins_copy 0) (begins_within 1) 160 counter refl l

quieted-step : (ctrlpf : ℕ) (in_blank : Bool) (b : Ball) → b.counter < 160 → Keeps b.moves in_blank
    → ball_after_step ctrlpf in_blank (quieted ctrlpf b) ≡ quiet_ball_after ctrlpf 1 b
unfolding quieted
quieted-step ctrlpf in_blank b l k =
    let q = quieted ctrlpf b in
    let seen = record (looked_at_ball q) { counter = next_counter b.counter } in
    joined seen (begins_copy 0 b.counter) (Some (begun_place ctrlpf in_blank b)) (stepped_place (ending_size ctrlpf in_blank b) (ball_place_at ctrlpf b.counter)) (begun_size ctrlpf b.phase)
    ∙ alike-four (λ (counter : ℕ) (place : Option ℕ) (own_size : ℕ) (seen : Bool). record b { counter = counter; place = place; own_size = own_size; seen = seen })
    (next_counter b.counter) (counter_after 1 b.counter)
    (if begins_copy 0 b.counter then Some (begun_place ctrlpf in_blank b) else stepped_place (ending_size ctrlpf in_blank b) (ball_place_at ctrlpf b.counter)) (ball_place_at ctrlpf (counter_after 1 b.counter))
    (if begins_copy 0 b.counter then begun_size ctrlpf b.phase else b.own_size) (if begins_within 1 b.counter then begun_size ctrlpf b.phase else b.own_size)
    (is_ball_drawn (ball_place_at ctrlpf b.counter)) (ball_mask ctrlpf (counter_after 0 b.counter))
    (counter-next b.counter l) (place-after ctrlpf in_blank b l k ∙ ap (λ c. ball_place_at ctrlpf c) (counter-next b.counter l))
    (ap (λ (begins : Bool). if begins then begun_size ctrlpf b.phase else b.own_size) (begins-alike b.counter l))
    (place-shows ctrlpf b.counter ∙ ap (λ c. ball_mask ctrlpf c) (counter-now b.counter l))

pub ball-step : (ctrlpf : ℕ) (in_blank : Bool) (b : Ball) → IsQuietBall ctrlpf b → (not b.moves || in_blank) ≡ true
    → ball_after_step ctrlpf in_blank b ≡ quiet_ball_after ctrlpf 1 b
ball-step ctrlpf in_blank b h k = ap (λ (q : Ball). ball_after_step ctrlpf in_blank q) (is-quieted ctrlpf b h) ∙ quieted-step ctrlpf in_blank b h.counter k

-- n steps
pub ball-quiet : (ctrlpf : ℕ) (b : Ball) (n : ℕ) → IsQuietBall ctrlpf b → IsQuietBall ctrlpf (quiet_ball_after ctrlpf n b)
ball-quiet ctrlpf b zero h = h
ball-quiet ctrlpf b (suc n) h = record { counter = omega arith; place = refl }

-- a copy begins with one of the next n + 1 steps where it does with the first or with one of the n after it
own-same : (later : Bool) (begun : ℕ) → (if later then begun else begun) ≡ begun
own-same true begun = refl
own-same false begun = refl

less-by : (a b n : ℕ) → suc a ≡ b → (nat_lt a n ≡ true) ⊎ (nat_lt a n ≡ false) → nat_lt a n ≡ nat_lt b (suc n)
less-by a b n e (inl t) = t ∙ sym (lt-ltb b (suc n) (omega (arith, ltb-true a n t)))
less-by a b n e (inr t) = t ∙ sym (le-ltb b (suc n) (omega (arith, ltb-false a n t)))

own-later : (n counter begun own : ℕ) → (nat_lt ((316 - counter) % 160) 1 ≡ true) ⊎ (nat_lt ((316 - counter) % 160) 1 ≡ false) → counter < 160
    → (if begins_within n (counter_after 1 counter) then begun else (if begins_within 1 counter then begun else own)) ≡ (if begins_within (suc n) counter then begun else own)
own-later n counter begun own (inl e) l =
    let now : nat_lt ((316 - counter) % 160) (suc n) ≡ true = lt-ltb _ _ (omega (arith, ltb-true ((316 - counter) % 160) 1 e)) in
    rw (e, now) (own-same (begins_within n (counter_after 1 counter)) begun)
own-later n counter begun own (inr e) l =
    let first = ltb-false ((316 - counter) % 160) 1 e in
    let less : suc ((316 - counter_after 1 counter) % 160) ≡ (316 - counter) % 160 = omega arith in
    let same : nat_lt ((316 - counter_after 1 counter) % 160) n ≡ nat_lt ((316 - counter) % 160) (suc n) = less-by _ _ n less (cases_Bool (nat_lt ((316 - counter_after 1 counter) % 160) n)) in
    rw (e, same) refl

after-one : (ctrlpf : ℕ) (b : Ball) (n : ℕ) → b.counter < 160 → quiet_ball_after ctrlpf n (quiet_ball_after ctrlpf 1 b) ≡ quiet_ball_after ctrlpf (suc n) b
after-one ctrlpf b zero l = refl
after-one ctrlpf b (suc n) l =
    let later = counter-later (suc n) b.counter in
    let begun = begun_size ctrlpf b.phase in
    alike-four (λ (counter : ℕ) (place : Option ℕ) (own_size : ℕ) (seen : Bool). record b { counter = counter; place = place; own_size = own_size; seen = seen })
    (counter_after (suc n) (counter_after 1 b.counter)) (counter_after (suc (suc n)) b.counter)
    (ball_place_at ctrlpf (counter_after (suc n) (counter_after 1 b.counter))) (ball_place_at ctrlpf (counter_after (suc (suc n)) b.counter))
    (if begins_within (suc n) (counter_after 1 b.counter) then begun else (if begins_within 1 b.counter then begun else b.own_size)) (if begins_within (suc (suc n)) b.counter then begun else b.own_size)
    (ball_mask ctrlpf (counter_after n (counter_after 1 b.counter))) (ball_mask ctrlpf (counter_after (suc n) b.counter)) later
    (ap (λ c. ball_place_at ctrlpf c) later) (own-later (suc n) b.counter begun b.own_size (cases_Bool (begins_within 1 b.counter)) l) (ap (λ c. ball_mask ctrlpf c) (counter-later n b.counter))

pub ball-steps : (ctrlpf : ℕ) (in_blank : Bool) (b : Ball) (n : ℕ) → IsQuietBall ctrlpf b → (not b.moves || in_blank) ≡ true
    → iterate (ball_after_step ctrlpf in_blank) n b ≡ quiet_ball_after ctrlpf n b
ball-steps ctrlpf in_blank b zero h k = refl
ball-steps ctrlpf in_blank b (suc n) h k =
    ap (λ (q : Ball). iterate (ball_after_step ctrlpf in_blank) n q) (ball-step ctrlpf in_blank b h k)
    ∙ (ball-steps ctrlpf in_blank (quiet_ball_after ctrlpf 1 b) n (ball-quiet ctrlpf b 1 h) k ∙ after-one ctrlpf b n h.counter)
