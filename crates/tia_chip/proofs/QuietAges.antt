-- Ages of copies by the counter, and tables of the values of a function: two that compute to one are
-- of functions that agree.
use Rattle.std.proofs.Common.{◌≡◌, ℕ, zero, suc, ◌+◌, ◌<◌, ◌≤◌, ◌==◌, ◌⊎◌, inl, inr, arith, refl, if◌then◌else◌}
use Rattle.std.proofs.lemmas.Bool.{cond_both, cases_lt}
use Rattle.std.specs.Prelude.{List, [], ◌∷◌}
use Rattle.tia_chip.specs.Counter.{begins_copy, next_counter}
use Rattle.tia_chip.specs.Quiet.{age_among, age_of, counter_after}

-- the values below n, the last first
unfoldable pub table : {A : Type 0} → (ℕ → A) → ℕ → List A
table f zero = []
table f (suc n) = f n ∷ table f n

first-alike : {A : Type 0} (x y : A) (xs ys : List A) → x ∷ xs ≡ y ∷ ys → x ≡ y
first-alike x y xs ys e = cc

rest-alike : {A : Type 0} (x y : A) (xs ys : List A) → x ∷ xs ≡ y ∷ ys → xs ≡ ys
rest-alike x y xs ys e = cc

last-or-below : {A : Type 0} (f g : ℕ → A) (n k : ℕ) → f n ≡ g n → (k < n → f k ≡ g k) → k < suc n → (k < n) ⊎ (n ≤ k) → f k ≡ g k
last-or-below f g n k e h l (inl b) = h b
last-or-below f g n k e h l (inr b) = let s : k ≡ n = omega arith in rw s e

pub below-alike : {A : Type 0} (f g : ℕ → A) (n k : ℕ) → table f n ≡ table g n → k < n → f k ≡ g k
unfolding table
below-alike f g zero k e l = absurd (omega arith)
below-alike f g (suc n) k e l =
    last-or-below f g n k (first-alike (f n) (g n) (table f n) (table g n) e)
    (λ b. below-alike f g n k (rest-alike (f n) (g n) (table f n) (table g n) e) b) l (cases_lt k n)

-- what a function of three values gives for equal ones
pub alike-three : {A B C D : Type 0} (f : A → B → C → D) (a a' : A) (b b' : B) (c c' : C) → a ≡ a' → b ≡ b' → c ≡ c' → f a b c ≡ f a' b' c'
alike-three f a a' b b' c c' i j k = cc

-- ages
pub age-small : (beginnings : List ℕ) (counter : ℕ) → age_among beginnings counter < 160
age-small [] counter = omega arith
age-small (b ∷ bs) counter = omega (arith, age-small bs counter)

age-row : (mode : ℕ) → mode < 8
    → table (λ c. age_of mode (next_counter c)) 160 ≡ table (λ c. if begins_copy mode c then 0 else age_of mode c + 1) 160
unfolding table
age-row zero h = refl
age-row (suc zero) h = refl
age-row (suc (suc zero)) h = refl
age-row (suc (suc (suc zero))) h = refl
age-row (suc (suc (suc (suc zero)))) h = refl
age-row (suc (suc (suc (suc (suc zero))))) h = refl
age-row (suc (suc (suc (suc (suc (suc zero)))))) h = refl
age-row (suc (suc (suc (suc (suc (suc (suc zero))))))) h = refl
age-row (suc (suc (suc (suc (suc (suc (suc (suc mode)))))))) h = absurd (omega arith)

-- a step begins a copy, or the last one is a step older
pub age-next : (mode counter : ℕ) → mode < 8 → counter < 160
    → age_of mode (next_counter counter) ≡ (if begins_copy mode counter then 0 else age_of mode counter + 1)
age-next mode counter h l =
    below-alike (λ c. age_of mode (next_counter c)) (λ c. if begins_copy mode c then 0 else age_of mode c + 1) 160 counter (age-row mode h) l

-- counters
pub counter-next : (counter : ℕ) → counter < 160 → next_counter counter ≡ counter_after 1 counter
counter-next counter l =
    cond_both (counter == 159) _ _ (λ n. n ≡ counter_after 1 counter) (λ e. let s : counter ≡ 159 = grind (arith, e) in omega arith) (λ e. let s : counter < 159 = grind (arith, e, l) in omega arith)

pub counter-now : (counter : ℕ) → counter < 160 → counter ≡ counter_after 0 counter
counter-now counter l = omega arith

pub counter-later : (n counter : ℕ) → counter_after n (counter_after 1 counter) ≡ counter_after (suc n) counter
counter-later n counter = omega arith
