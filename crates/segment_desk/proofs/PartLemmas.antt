-- What the events do to one ticket's part.
use Rattle.std.proofs.Common.{◌≡◌, ℕ, ◌+◌, ◌<◌, ◌≤◌, ◌≢◌, ◌⊎◌, min, Bool, true}
use Rattle.std.proofs.Common.{if◌then◌else◌, ◌||◌, nat_lt, List, [], ◌∷◌, ◌++◌, refl, sym, ap, ◌∙◌}
use Rattle.std.proofs.Common.{inr, ⊎_elim, arith, Option}
use Rattle.std.proofs.Common.{Some, None}
use Rattle.segment_desk.specs.Desk.{times, with_number, fresh_part, spent_part, with_drawn}
use Rattle.segment_desk.specs.Desk.{at_end, with_passed, look_at, report_at, smaller_of}
use Rattle.segment_desk.specs.Desk.{with_handed_in}
use Rattle.segment_desk.specs.Private.DeskSteps.{staying_part}
use Rattle.segment_desk.proofs.InvariantLemmas.{ended_share, IsSound}
use Rattle.segment_desk.specs.declared.part.Part.{Part}
use Rattle.segment_desk.proofs.ListLemmas.{times-append, times-snoc}

-- A test of two numbers, by its two cases.
pub tested : {A : Type 0} (F : A → Type 0) (x y : ℕ) (a b : A) → (x < y → F a) → (y ≤ x → F b) → F (if nat_lt x y then a else b)
tested F x y a b hit miss = grind arith

-- With j in a list, no number stands in it more often than in one where j stands.
with_number_le : (j k : ℕ) (xs ds : List ℕ) → 0 < times j ds → times k xs ≤ times k ds → times k (with_number j xs) ≤ times k ds
with_number_le j k xs ds drawn le = tested (λ (ys : List ℕ). times k ys ≤ times k ds) 0 (times j xs) xs (xs ++ j ∷ []) (λ _. le)
    (λ none. times-snoc k j xs
    (λ is one. let a : times k xs ≡ times j xs = ap (λ (z : ℕ). times z xs) is in
    let b : times k ds ≡ times j ds = ap (λ (z : ℕ). times z ds) is in omega arith)
    (λ ne same. omega arith))

-- Another number stands in it as often as before.
pub with_number-else : (j k : ℕ) (xs : List ℕ) → k ≢ j → times k (with_number j xs) ≡ times k xs
with_number-else j k xs ne = tested (λ (ys : List ℕ). times k ys ≡ times k xs) 0 (times j xs) xs (xs ++ j ∷ []) (λ _. refl)
    (λ none. times-snoc k j xs (λ is one. absurd (ne is)) (λ ne same. same))

-- And j stands in it.
pub with_number-here : (j : ℕ) (xs : List ℕ) → 0 < times j (with_number j xs)
with_number-here j xs = tested (λ (ys : List ℕ). 0 < times j ys) 0 (times j xs) xs (xs ++ j ∷ []) (λ some. some)
    (λ none. times-snoc j j xs (λ is one. omega arith) (λ ne same. absurd (ne refl)))

-- What a look passes over was drawn, and is above the least number.
with_passed-sound : (x : ℕ) (last : Option ℕ) (ps ds : List ℕ) → ((k : ℕ) → last ≡ Some k → 0 < times k ds)
    → ((k : ℕ) → times k ps ≤ times k ds) → ((k : ℕ) → k ≤ x → times k ps ≡ 0)
    → (k : ℕ) → (times k (with_passed x last ps) ≤ times k ds) × (k ≤ x → times k (with_passed x last ps) ≡ 0)
with_passed-sound x None ps ds drawn le behind k = (le k, behind k)
with_passed-sound x (Some m) ps ds drawn le behind k =
    tested (λ (ys : List ℕ). (times k ys ≤ times k ds) × (k ≤ x → times k ys ≡ 0)) x m (with_number m ps) ps
    (λ lt. (
      with_number_le m k ps ds (drawn m refl) (le k),
      λ (h : k ≤ x). let ne : k ≢ m = λ (e : k ≡ m). absurd (omega arith) in with_number-else m k ps ne ∙ behind k h,
    ))
    (λ _. (le k, behind k))

-- What is at most each of two numbers is at most the smaller.
smaller_of-above : (x : ℕ) (a b : Option ℕ) → ((k : ℕ) → a ≡ Some k → x ≤ k) → ((k : ℕ) → b ≡ Some k → x ≤ k)
    → (k : ℕ) → smaller_of a b ≡ Some k → x ≤ k
smaller_of-above x a b ha hb k e = grind arith

-- One of two is true where either is.
or_true : (a b : Bool) → (a || b) ≡ true → (a ≡ true) ⊎ (b ≡ true)
or_true a b e = grind arith

-- What ended tickets stand for: at most what the joined one does.
either_share : (a b : Bool) (x y : ℕ) → (if a then x else 0) + (if b then y else 0) ≤ (if a || b then x + y else 0)
either_share a b x y = grind arith

pub both_ended : (v u : Part) → ended_share v + ended_share u ≤ ended_share (with_handed_in v u)
both_ended v u = either_share v.ended u.ended v.share u.share

module _ (n w : ℕ) where
  -- It stays true as the count grows and the least number falls.
  pub later : (c l c' l' : ℕ) (v : Part) → IsSound n w c l v → c ≤ c' → l' ≤ l → IsSound n w c' l' v
  later c l c' l' v s more less = record {
    sized = s.sized;
    reports = s.reports;
    passes = s.passes;
    behind = λ k h. s.behind k (omega arith);
    last_drawn = s.last_drawn;
    seen_above = λ k e. omega (arith, s.seen_above k e);
    done = λ e. omega (arith, s.done e);
  }

  -- A ticket that was not handed in has the desk's size beside it, also with another share.
  pub size_of : (c l : ℕ) (v : Part) → IsSound n w c l v → 0 < v.share → (v.segments ≡ n) × (v.workers ≡ w)
  size_of c l v s pos = grind arith

  sized_as : (c l : ℕ) (v : Part) → IsSound n w c l v → 0 < v.share → (share : ℕ) → 0 < share → (v.segments ≡ n) × (v.workers ≡ w) × (0 < share)
  sized_as c l v s pos share more = let z = size_of c l v s pos in (z.0, z.1, more)

  -- Each event keeps it.
  pub sound_drawn : (c l : ℕ) (v : Part) → IsSound n w c l v → 0 < v.share → IsSound n w (c + 1) l (with_drawn c v)
  sound_drawn c l v s pos = record {
    sized = inr (sized_as c l v s pos v.share pos);
    reports = λ k. omega (arith, s.reports k, times-append k v.drawn (c ∷ []));
    passes = λ k. omega (arith, s.passes k, times-append k v.drawn (c ∷ []));
    behind = s.behind;
    last_drawn = λ k e. let is : c ≡ k = cc in
        times-snoc k c v.drawn (λ _ one. omega arith) (λ ne _. absurd (ne (sym is)));
    seen_above = s.seen_above;
    done = λ e. omega (arith, s.done e);
  }

  pub sound_end : (c l : ℕ) (v : Part) → IsSound n w c l v → 0 < v.share → n ≤ c → IsSound n w (c + 1) l (at_end v)
  sound_end c l v s pos h = grind arith

  pub sound_look : (c l : ℕ) (v : Part) → IsSound n w c l v → 0 < v.share → IsSound n w c l (look_at l v)
  sound_look c l v s pos = let p = with_passed-sound l v.last v.passed_over v.drawn s.last_drawn s.passes s.behind in record {
    sized = inr (sized_as c l v s pos v.share pos);
    reports = s.reports;
    passes = λ k. (p k).0;
    behind = λ k. (p k).1;
    last_drawn = s.last_drawn;
    seen_above = λ k e. let is : l ≡ k = cc in omega arith;
    done = s.done;
  }

  pub sound_report : (c l f : ℕ) (v : Part) → IsSound n w c l v → 0 < v.share → v.last ≡ Some f → IsSound n w c (min l f) (report_at l f v)
  sound_report c l f v s pos last = record {
    sized = inr (sized_as c l v s pos v.share pos);
    reports = λ k. with_number_le f k v.reported v.drawn (s.last_drawn f last) (s.reports k);
    passes = s.passes;
    behind = λ k h. s.behind k (omega arith);
    last_drawn = s.last_drawn;
    seen_above = λ k e. let is : min l f ≡ k = cc in omega arith;
    done = s.done;
  }

  pub sound_kept : (c l : ℕ) (v : Part) → IsSound n w c l v → 1 < v.share → IsSound n w c l (staying_part v)
  sound_kept c l v s more = grind arith

  pub sound_fresh : (c l a b share : ℕ) → (a ≡ n) × (b ≡ w) × (0 < share) → IsSound n w c l (fresh_part a b share)
  sound_fresh c l a b share size = grind arith

  pub sound_spent : (c l : ℕ) → IsSound n w c l spent_part
  sound_spent c l = grind arith

  pub sound_handed : (c l : ℕ) (v u : Part) → IsSound n w c l v → IsSound n w c l u → 0 < v.share → IsSound n w c l (with_handed_in v u)
  sound_handed c l v u s t pos = record {
    sized = inr (sized_as c l v s pos (v.share + u.share) (omega arith));
    reports = λ k. omega (arith, s.reports k, t.reports k, times-append k v.drawn u.drawn, times-append k v.reported u.reported);
    passes = λ k. omega (arith, s.passes k, t.passes k, times-append k v.drawn u.drawn, times-append k v.passed_over u.passed_over);
    behind = λ k h. omega (arith, s.behind k h, t.behind k h, times-append k v.passed_over u.passed_over);
    last_drawn = λ k e. omega (arith, s.last_drawn k e, times-append k v.drawn u.drawn);
    seen_above = smaller_of-above l v.seen u.seen s.seen_above t.seen_above;
    done = λ e. ⊎_elim s.done t.done (or_true v.ended u.ended e);
  }

-- The end of a ticket that has ended changes nothing.
pub end_again : (v : Part) → v.ended ≡ true → v ≡ at_end v
end_again v h = ap (λ (b : Bool). record v { ended = b }) h
