-- Each event keeps the invariant, and what follows from it.
use Rattle.std.proofs.Common.{◌≡◌, ℕ, ◌+◌, ◌-◌, ◌^◌, ◌<◌, ◌≤◌, ◌≢◌, min, Bool, true}
use Rattle.std.proofs.Common.{false, if◌then◌else◌, List, [], ◌∷◌, ◌++◌, set, refl, sym, ap, ◌∙◌}
use Rattle.std.proofs.Common.{subst, ⊎_elim, arith, lt_of_not-le, Some, sum_by}
use mathlib.Core.Logic.{dite}
use mathlib.Core.Option.{some}
use native.Mathlib.Decide.{dec_le}
use lib.ListN.{get_elem?}
use Rattle.std.proofs.lemmas.List.Sums.{sum_by-append}
use Rattle.atomic_table.proofs.Lists.{at_set, at_snoc, set_else}
use Rattle.segment_desk.specs.Desk.{times, fresh_part, spent_part, with_drawn, at_end, draw_at}
use Rattle.segment_desk.specs.Desk.{look_at, report_at, with_handed_in}
use Rattle.segment_desk.specs.Private.DeskSteps.{staying_part, split_of}
use Rattle.segment_desk.specs.Kept.{IsWhole, IsKnown}
use Rattle.segment_desk.proofs.InvariantLemmas.{drawn_of, reported_of, share_of, ended_share}
use Rattle.segment_desk.proofs.InvariantLemmas.{IsSound, IsLawful}
use Rattle.segment_desk.specs.declared.part.Part.{Part}
use Rattle.segment_desk.proofs.ListLemmas.{sum_by-set-at, term_le, sum_by-le-each, alone}
use Rattle.segment_desk.proofs.ListLemmas.{times-append, times-snoc}
use Rattle.segment_desk.proofs.PartLemmas.{tested, with_number-else, with_number-here, both_ended}
use Rattle.segment_desk.proofs.PartLemmas.{later, size_of, sound_drawn, sound_end, sound_look}
use Rattle.segment_desk.proofs.PartLemmas.{sound_report, sound_kept, sound_fresh, sound_spent}
use Rattle.segment_desk.proofs.PartLemmas.{sound_handed}

abbrev All : ℕ → ℕ → ℕ → ℕ → List Part → Type 0
All n w c l ps = (j : ℕ) (v : Part) → get_elem? ps j ≡ some v → IsSound n w c l v

-- What ended tickets stand for is at most what they do.
at_most : (b : Bool) (x : ℕ) → (if b then x else 0) ≤ x
at_most b x = grind arith

ended_le : (v : Part) → ended_share v ≤ v.share
ended_le v = at_most v.ended v.share

module _ (n w : ℕ) where
  -- Where one part changes, the others stay sound.
  all_set : (c l c' l' : ℕ) (ps : List Part) (j : ℕ) (v : Part) → All n w c l ps → c ≤ c' → l' ≤ l → IsSound n w c' l' v
      → All n w c' l' (set ps j v)
  all_set c l c' l' ps j v all more less s i u e =
      ⊎_elim (λ (t : (i ≡ j) × (v ≡ u)). subst (IsSound n w c' l') t.1 s)
      (λ (t : (i ≢ j) × (get_elem? ps i ≡ some u)). later n w c l c' l' u (all i u t.1) more less) (at_set ps j i v u e)

  module _ (c l : ℕ) (ps : List Part) (o : IsLawful n w c l ps) where
    pub count_le : c ≤ n + w
    count_le = let few = o.few in let le = sum_by-le-each share_of ended_share ps ended_le in let all = o.shares in omega arith

    -- No number is drawn twice.
    once_at_most : (k : ℕ) → sum_by (drawn_of k) ps ≤ 1
    once_at_most k = grind arith

    -- Parts that have each number drawn and reported as often, and the same shares, are lawful
    -- where each is sound.
    same_numbers : (c' : ℕ) (ps' : List Part) → c ≤ c' → ((k : ℕ) → k < c' → k < n → k < c)
        → ((k : ℕ) → sum_by (drawn_of k) ps' ≡ sum_by (drawn_of k) ps) → ((k : ℕ) → sum_by (reported_of k) ps' ≡ sum_by (reported_of k) ps)
        → sum_by share_of ps' ≡ sum_by share_of ps → c' ≤ n + sum_by ended_share ps' → All n w c' l ps' → IsLawful n w c' l ps'
    same_numbers c' ps' more below drawn reported shares few each = grind arith

    module _ (j : ℕ) (v : Part) (at : get_elem? ps j ≡ some v) (pos : 0 < v.share) where
      abbrev s : IsSound n w c l v
      s = o.each j v at

      pub size : (v.segments ≡ n) × (v.workers ≡ w)
      size = size_of n w c l v s pos

      -- A ticket of all shares has all that there is.
      only_here : (f : Part → ℕ) → f spent_part ≡ 0 → v.share ≡ v.workers → sum_by f ps ≡ f v
      only_here f zero_there all = grind (arith, alone, share_of, size_of)

      pub whole : v.ended ≡ true → v.share ≡ v.workers → IsWhole v
      whole ended all = let size = size_of n w c l v s pos in record {
        all_drawn = λ k h. let le = s.done ended in let one = o.once k (omega arith) (omega arith) in sym (only_here (drawn_of k) refl all) ∙ one;
        none_missed = λ k some_passed.
            let above : l < k = lt_of_not-le (λ (h : k ≤ l). absurd (omega (arith, s.behind k h))) in
            let below : k < n = lt_of_not-le (λ (h : n ≤ k). absurd (omega (arith, s.passes k, term_le (drawn_of k) ps j v at, o.within k h))) in
            let there = o.is_reported (omega arith) in (l, above, omega (arith, only_here (reported_of l) refl all));
      }

      pub knows : IsKnown v
      knows = let size = size_of n w c l v s pos in record {
        apart = λ k. omega (arith, once_at_most k, term_le (drawn_of k) ps j v at);
        within = λ k h. omega (arith, o.within k (omega arith), term_le (drawn_of k) ps j v at);
        reports = s.reports;
        passes = s.passes;
        last_drawn = s.last_drawn;
        whole = whole;
      }

      -- What is drawn is below the count.
      pub drawn_below : (k : ℕ) → 0 < times k v.drawn → k < c
      drawn_below k h = lt_of_not-le (λ (le : c ≤ k). absurd (omega (arith, o.not_yet k le, term_le (drawn_of k) ps j v at)))

      -- What is reported is not below the least number.
      pub reported_above : (k : ℕ) → 0 < times k v.reported → l ≤ k
      reported_above k h = dite (dec_le l k) (λ le. le)
          (λ lt. absurd (omega (arith, o.none_below k (lt_of_not-le lt), term_le (reported_of k) ps j v at)))

      draws_more : c < n → IsLawful n w (c + 1) l (set ps j (with_drawn c v))
      draws_more lt = let v' : Part = with_drawn c v in
          let D : (k : ℕ) → sum_by (drawn_of k) (set ps j v') + times k v.drawn ≡ sum_by (drawn_of k) ps + times k (v.drawn ++ c ∷ []) =
          λ k. sum_by-set-at (drawn_of k) ps j v v' at in
          let R : (k : ℕ) → sum_by (reported_of k) (set ps j v')
          ≡ sum_by (reported_of k) ps = λ k. omega
          (arith, sum_by-set-at (reported_of k) ps j v v' at) in record {
            small = o.small;
            once = λ k h h'. times-snoc k c v.drawn
                (λ is one. omega (arith, D k, o.not_yet k (omega (arith, is))))
                (λ ne same. omega (arith, D k, o.once k (omega arith) h'));
            not_yet = λ k h. times-snoc k c v.drawn (λ is one. absurd (omega arith)) (λ ne same. omega (arith, D k, o.not_yet k (omega arith)));
            within = λ k h. times-snoc k c v.drawn (λ is one. absurd (omega arith)) (λ ne same. omega (arith, D k, o.within k h));
            few = omega arith;
            least_le = o.least_le;
            none_below = λ k h. R k ∙ o.none_below k h;
            is_reported = λ h. omega (arith, R l, o.is_reported h);
            shares = omega (arith, sum_by-set-at share_of ps j v v' at, o.shares);
            each = all_set c l (c + 1) l ps j v' o.each (omega arith) (omega arith) (sound_drawn n w c l v s pos);
          }

      draws_none : n ≤ c → v.ended ≡ false → IsLawful n w (c + 1) l (set ps j (at_end v))
      draws_none le going = let v' : Part = at_end v in
          let same : (f : Part → ℕ) → f v' ≡ f v → sum_by f (set ps j v') ≡ sum_by f ps = λ f e. omega (arith, sum_by-set-at f ps j v v' at) in
          let none_yet : ended_share v ≡ 0 = ap (λ b. if b then v.share else 0) going in
          same_numbers (c + 1) (set ps j v') (omega arith) (λ k h h'. omega arith) (λ k. same (drawn_of k) refl) (λ k. same (reported_of k) refl)
          (same share_of refl) (omega (arith, sum_by-set-at ended_share ps j v v' at, o.few))
          (all_set c l (c + 1) l ps j v' o.each (omega arith) (omega arith) (sound_end n w c l v s pos le))

      pub draws : v.ended ≡ false → IsLawful n w (c + 1) l (set ps j (draw_at c v))
      draws going = let size = (size_of n w c l v s pos).0 in
          tested (λ (u : Part). IsLawful n w (c + 1) l (set ps j u)) c v.segments (with_drawn c v) (at_end v)
          (λ h. draws_more (omega arith)) (λ h. draws_none (omega arith) going)

      pub looks : IsLawful n w c l (set ps j (look_at l v))
      looks = let v' : Part = look_at l v in
          let same : (f : Part → ℕ) → f v' ≡ f v → sum_by f (set ps j v') ≡ sum_by f ps = λ f e. omega (arith, sum_by-set-at f ps j v v' at) in
          same_numbers c (set ps j v') (omega arith) (λ k h h'. h) (λ k. same (drawn_of k) refl) (λ k. same (reported_of k) refl)
          (same share_of refl) (omega (arith, same ended_share refl, o.few))
          (all_set c l c l ps j v' o.each (omega arith) (omega arith) (sound_look n w c l v s pos))

      pub reports : (f : ℕ) → v.last ≡ Some f → IsLawful n w c (min l f) (set ps j (report_at l f v))
      reports f last = let v' : Part = report_at l f v in
          let same : (g : Part → ℕ) → g v' ≡ g v → sum_by g (set ps j v') ≡ sum_by g ps = λ g e. omega (arith, sum_by-set-at g ps j v v' at) in
          let other : (k : ℕ) → k ≢ f → sum_by (reported_of k) (set ps j v') ≡ sum_by (reported_of k) ps =
          λ k ne. same (reported_of k) (with_number-else f k v.reported ne) in record {
            small = o.small;
            once = λ k h h'. same (drawn_of k) refl ∙ o.once k h h';
            not_yet = λ k h. same (drawn_of k) refl ∙ o.not_yet k h;
            within = λ k h. same (drawn_of k) refl ∙ o.within k h;
            few = omega (arith, same ended_share refl, o.few);
            least_le = omega (arith, o.least_le);
            none_below = λ k h. other k (λ (e : k ≡ f). absurd (omega arith)) ∙ o.none_below k (omega arith);
            is_reported = λ h. dite (dec_le f l)
                (λ le. let is : f ≡ min l f = omega arith in
                let mine = with_number-here f v.reported in let in_mine = term_le (reported_of f) ps j v at in
                let here : 0 < sum_by (reported_of f) (set ps j v') = omega (arith, sum_by-set-at (reported_of f) ps j v v' at) in
                subst (λ (k : ℕ). 0 < sum_by (reported_of k) (set ps j v')) is here)
                (λ nle. let lt : l < f = lt_of_not-le nle in let is : l ≡ min l f = omega arith in let before = o.is_reported (omega arith) in
                let same_one = other l (λ (e : l ≡ f). absurd (omega arith)) in
                subst (λ (k : ℕ). 0 < sum_by (reported_of k) (set ps j v')) is (omega arith));
            shares = same share_of refl ∙ o.shares;
            each = all_set c l c (min l f) ps j v' o.each (omega arith) (omega arith) (sound_report n w c l f v s pos last);
          }

      pub splits : 1 < v.share → v.ended ≡ false → IsLawful n w c l (set ps j (staying_part v) ++ split_of v ∷ [])
      splits more going = let v' : Part = staying_part v in let u' : Part = split_of v in let size = size_of n w c l v s pos in
          let ps' : List Part = set ps j v' ++ u' ∷ [] in
          let same : (f : Part → ℕ) → f v' + f u' ≡ f v → sum_by f ps' ≡ sum_by f ps =
          λ f e. omega (arith, sum_by-set-at f ps j v v' at, sum_by-append f (set ps j v') (u' ∷ [])) in
          let before : ended_share v ≡ 0 = ap (λ b. if b then v.share else 0) going in
          let after : ended_share v' ≡ 0 = ap (λ b. if b then v.share - 1 else 0) going in
          same_numbers c ps' (omega arith) (λ k h h'. h) (λ k. same (drawn_of k) (omega arith)) (λ k. same (reported_of k) (omega arith))
          (same share_of (omega arith)) (omega (arith, same ended_share (omega arith), o.few))
          (λ i u e. ⊎_elim (all_set c l c l ps j v' o.each (omega arith) (omega arith) (sound_kept n w c l v s more) i u)
          (λ (is : u' ≡ u). subst (IsSound n w c l) is (sound_fresh n w c l v.segments v.workers 1 (size.0, size.1, omega arith)))
          (at_snoc (set ps j v') u' u i e))

      pub joins : (i : ℕ) (u : Part) → i ≢ j → get_elem? (set ps j (with_handed_in v u)) i ≡ some u
          → IsLawful n w c l (set (set ps j (with_handed_in v u)) i spent_part)
      joins i u ne at' = let b : Part = with_handed_in v u in let ps' : List Part = set ps j b in
          let there : get_elem? ps i ≡ some u = sym (set_else ps j i b ne) ∙ at' in
          let same : (f : Part → ℕ) → f b ≡ f v + f u → f spent_part ≡ 0 → sum_by f (set ps' i spent_part) ≡ sum_by f ps =
          λ f e z. omega (arith, sum_by-set-at f ps j v b at, sum_by-set-at f ps' i u spent_part at') in
          same_numbers c (set ps' i spent_part) (omega arith) (λ k h h'. h)
          (λ k. same (drawn_of k) (times-append k v.drawn u.drawn) refl) (λ k. same (reported_of k) (times-append k v.reported u.reported) refl)
          (same share_of refl refl)
          (omega (
            arith,
            sum_by-set-at ended_share ps j v b at,
            sum_by-set-at ended_share ps' i u spent_part at',
            both_ended v u,
            o.few,
          ))
          (all_set c l c l ps' i spent_part
          (all_set c l c l ps j b o.each (omega arith) (omega arith) (sound_handed n w c l v u s (o.each i u there) pos))
          (omega arith) (omega arith) (sound_spent n w c l))

-- The desk at the start.
first_sound : (n w : ℕ) → 0 < w → (j : ℕ) (v : Part) → get_elem? (fresh_part n w w ∷ []) j ≡ some v → IsSound n w 0 n v
first_sound n w pos j v e = grind arith

pub opens : (n w : ℕ) → n + w < 2 ^ 33 → 0 < w → IsLawful n w 0 n (fresh_part n w w ∷ [])
opens n w small pos = let each = first_sound n w pos in grind arith
