-- From the events to what the table asks of each step, and what the calls' clauses say of a step.
use Rattle.std.proofs.Common.{◌≡◌, ℕ, ◌+◌, ◌%◌, ◌^◌, ◌<◌, ◌≤◌, min, false, List, [], ◌∷◌}
use Rattle.std.proofs.Common.{◌++◌, length, get_or, set, refl, sym, ap, ◌∙◌, subst, arith}
use Rattle.std.proofs.Common.{length-set, get_or-set_same, get_or-set_other, lt_of_not-le}
use Rattle.std.proofs.Common.{Some}
use mathlib.Core.Logic.{dite}
use native.Mathlib.Decide.{dec_le}
use mathlib.Core.Option.{none, some}
use lib.ListN.{get_elem?}
use lib.Seq.{set-get_or}
use Rattle.atomic_table.specs.Table.{step, keeps, opening, Allows, Splits, Joins}
use Rattle.atomic_table.proofs.Lists.{set_here, set_again, set_else}
use Rattle.std.proofs.lemmas.Option.{slice_get_within}
use Rattle.segment_desk.specs.Desk.{times, fresh_part, spent_part, with_drawn, at_end}
use Rattle.segment_desk.specs.Desk.{draw_at, look_at, report_at, with_handed_in}
use Rattle.segment_desk.specs.Desk.{Reached, opened, went_on, DeskState, desk_at, StandsIn}
use Rattle.segment_desk.specs.Private.DeskSteps.{staying_part, split_of, Seat, Drew, Looked, Reported}
use Rattle.segment_desk.specs.Private.DeskSteps.{Settled}
use Rattle.segment_desk.specs.Desk as event
use Rattle.segment_desk.specs.Kept.{IsKnown}
use Rattle.segment_desk.proofs.InvariantLemmas.{IsSound, IsLawful}
use Rattle.segment_desk.proofs.ReachLemmas.{lawful}
use Rattle.segment_desk.specs.Tables.{TableState, IsRuled}
use Rattle.segment_desk.specs.declared.part.Part.{Part}
use Rattle.segment_desk.proofs.ListLemmas.{slice_get-of_some, times-append}
use Rattle.segment_desk.proofs.PartLemmas.{tested, size_of}
use Rattle.segment_desk.proofs.EventLemmas.{count_le, knows, drawn_below, reported_above}

-- A draw leaves the share.
draw_at-share : (x : ℕ) (v : Part) → (draw_at x v).share ≡ v.share
draw_at-share x v = tested (λ (u : Part). u.share ≡ v.share) x v.segments (with_drawn x v) (at_end v) (λ _. refl) (λ _. refl)

-- A place where a part stands is within the list.
within : (l : List Part) (j : ℕ) (v : Part) → get_elem? l j ≡ some v → j < length l
within l j v e = slice_get_within l j v (slice_get-of_some l j v e)

module _ (n w : ℕ) where
  abbrev At : ℕ → ℕ → List Part → Type 0
  At c l ps = Reached n w (desk_at c l ps)

  at_words : (c l c' l' : ℕ) (ps : List Part) → c' ≡ c → l' ≡ l → At c l ps → At c' l' ps
  at_words c l c' l' ps a b r = subst (λ (z : ℕ × ℕ). At z.0 z.1 ps) (λ i. (sym a i, sym b i)) r

  -- The invariant of such a state.
  law : (c l : ℕ) (ps : List Part) → At c l ps → IsLawful n w c l ps
  law c l ps r = lawful n w (desk_at c l ps) r

  -- What a seat knows once its part has become v.
  seats : (c l : ℕ) (ps : List Part) (j : ℕ) (u v : Part) → get_elem? ps j ≡ some u → 0 < v.share
      → At c l (set ps j v) → IsKnown v
  seats c l ps j u v at pos r =
      knows n w c l (set ps j v) (law c l (set ps j v) r) j v (set_here ps j v (within ps j u at)) pos

  -- The part that a seat has in such a state.
  stands : (c l : ℕ) (ps : List Part) (j : ℕ) (v : Part) (holds : DeskState → Type 0) → At c l ps → get_elem? ps j ≡ some v → 0 < v.share
      → holds (desk_at c l ps) → StandsIn holds v
  stands c l ps j v holds r at pos h = grind (arith, size_of, law, slice_get-of_some)

  -- A draw by a seat that has not ended.
  pub allows_draw : (slots id : ℕ) (m : Seat) → m.1 ≡ [] → 0 < m.0.share → m.0.ended ≡ false
      → Allows (IsRuled n w) slots id m 0 (λ x. (x + 1) % 2 ^ 64) (Drew (step slots 0 1 0 none) m)
  allows_draw slots id m empty pos going s r wide at fits =
      let ws : List ℕ = s.words in let x : ℕ = get_or ws 0 0 in let y : ℕ = get_or ws 1 0 in let z : ℕ = (x + 1) % 2 ^ 64 in
      let o : IsLawful n w x y s.views = law x y s.views r.1 in
      let bound : x ≤ n + w = count_le n w x y s.views o in let small = o.small in
      let is : z ≡ x + 1 = omega arith in
      let long : length ws ≡ 2 = r.0 in
      let v : Part = draw_at x m.0 in
      let r' : At (x + 1) y (set s.views id v) = went_on _ _ r.1 (event.draws x y s.views id m.0 (slice_get-of_some s.views id m.0 at, pos) going) in (
        v,
        keeps,
        tt,
        (
          length-set ws 0 z ∙ long,
          at_words (x + 1) y (get_or (set ws 0 z) 0 0) (get_or (set ws 0 z) 1 0) (set s.views id v)
              (get_or-set_same ws 0 z 0 (omega arith) ∙ is) (get_or-set_other ws 0 1 z 0 (λ e. omega arith)) r',
        ),
        (
          (
            empty,
            refl,
            seats (x + 1) y s.views id m.0 v at
                (let same = draw_at-share x m.0 in omega arith) r',
          ),
          drawn_below n w x y s.views o id m.0 at pos,
          stands x y s.views id m.0 (λ t. t.count ≡ x) r.1 at pos refl,
        ),
      )

  -- A load leaves the words.
  loaded : (s : TableState) (i : ℕ) (ps : List Part) → IsRuled n w s → At (get_or s.words 0 0) (get_or s.words 1 0) ps
      → (length (set s.words i (get_or s.words i 0)) ≡ 2)
      × At (get_or (set s.words i (get_or s.words i 0)) 0 0) (get_or (set s.words i (get_or s.words i 0)) 1 0) ps
  loaded s i ps r r' = let same : set s.words i (get_or s.words i 0) ≡ s.words = set-get_or s.words i 0 in
      subst (λ (ws : List ℕ). (length ws ≡ 2) × At (get_or ws 0 0) (get_or ws 1 0) ps) (sym same) (r.0, r')

  -- A look.
  pub allows_look : (slots id : ℕ) (m : Seat) → m.1 ≡ [] → 0 < m.0.share
      → Allows (IsRuled n w) slots id m 1 (λ x. x) (Looked (step slots 1 0 0 none) m)
  allows_look slots id m empty pos s r wide at fits =
      let x : ℕ = get_or s.words 0 0 in let y : ℕ = get_or s.words 1 0 in let o : IsLawful n w x y s.views = law x y s.views r.1 in
      let sound : IsSound n w x y m.0 = o.each id m.0 at in let size = size_of n w x y m.0 sound pos in
      let v : Part = look_at y m.0 in
      let r' : At x y (set s.views id v) = went_on _ _ r.1 (event.looks x y s.views id m.0 (slice_get-of_some s.views id m.0 at, pos)) in (
        v,
        keeps,
        tt,
        loaded s 1 (set s.views id v) r r',
        (
          (empty, refl, seats x y s.views id m.0 v at pos r'),
          (let le = o.least_le in omega arith),
          (sound.seen_above, reported_above n w x y s.views o id m.0 at pos),
          stands x y s.views id m.0 (λ t. t.least ≡ y) r.1 at pos refl,
        ),
      )

  -- A report of the number that was drawn last and is not passed over.
  pub allows_report : (slots id : ℕ) (m : Seat) (f : ℕ) → m.1 ≡ [] → 0 < m.0.share → m.0.last ≡ Some f → times f m.0.passed_over ≡ 0
      → Allows (IsRuled n w) slots id m 1 (λ x. min x f) (Reported (step slots 1 f 0 none) m)
  allows_report slots id m f empty pos last not_passed s r wide at fits =
      let ws : List ℕ = s.words in let x : ℕ = get_or ws 0 0 in let y : ℕ = get_or ws 1 0 in let z : ℕ = min y f in
      let o : IsLawful n w x y s.views = law x y s.views r.1 in let long : length ws ≡ 2 = r.0 in
      let sound : IsSound n w x y m.0 = o.each id m.0 at in let size = size_of n w x y m.0 sound pos in
      let v : Part = report_at y f m.0 in
      let r' : At x z (set s.views id v) = went_on _ _ r.1
      (event.reports x y s.views id m.0 f (slice_get-of_some s.views id m.0 at, pos) last not_passed) in (
        v,
        keeps,
        tt,
        (
          length-set ws 1 z ∙ long,
          at_words x z (get_or (set ws 1 z) 0 0) (get_or (set ws 1 z) 1 0) (set s.views id v)
              (get_or-set_other ws 1 0 z 0 (λ e. omega arith)) (get_or-set_same ws 1 z 0 (omega arith)) r',
        ),
        (
          (empty, refl, seats x z s.views id m.0 v at pos r'),
          (let le = o.least_le in omega arith),
          (sound.seen_above, reported_above n w x y s.views o id m.0 at pos),
          stands x y s.views id m.0 (λ t. t.least ≡ y) r.1 at pos refl,
        ),
      )

  -- The load after a seat was joined.
  pub allows_settle : (slots id : ℕ) (m : Seat) → m.1 ≡ [] → 0 < m.0.share
      → Allows (IsRuled n w) slots id m 0 (λ x. x) (Settled (step slots 0 0 0 none) m)
  allows_settle slots id m empty pos s r wide at fits =
      let x : ℕ = get_or s.words 0 0 in let y : ℕ = get_or s.words 1 0 in
      let r' : At x y (set s.views id m.0) = subst (At x y) (sym (set_again s.views id m.0 at)) r.1 in (
        m.0,
        keeps,
        tt,
        loaded s 0 (set s.views id m.0) r r',
        (empty, refl, knows n w x y s.views (law x y s.views r.1) id m.0 at pos),
      )

  -- A fresh ticket is split.
  pub splits_seat : (id share : ℕ) (v : Part) → v ≡ fresh_part n w share → 1 < share → Splits (IsRuled n w) id v (staying_part v) (split_of v)
  splits_seat id share v is more s r at = let x : ℕ = get_or s.words 0 0 in let y : ℕ = get_or s.words 1 0 in (
    r.0,
    subst (λ (u : Part). At x y (set s.views id (staying_part u) ++ split_of u ∷ [])) (sym is)
        (went_on _ _ r.1 (event.splits x y s.views id share (slice_get-of_some s.views id v at ∙ ap (λ (u : Part). Some u) is, omega arith) more)),
  )

  -- A ticket takes another in.
  pub joins_seat : (id : ℕ) (v : Part) (other : ℕ) (u : Part) → 0 < v.share → 0 < u.share
      → Joins (IsRuled n w) id v other u (with_handed_in v u) spent_part
  joins_seat id v other u pos pos' s r at ne there = let x : ℕ = get_or s.words 0 0 in let y : ℕ = get_or s.words 1 0 in (
    r.0,
    went_on _ _ r.1 (event.hands_in x y s.views id v other u (slice_get-of_some s.views id v at, pos)
        (slice_get-of_some s.views other u (sym (set_else s.views id other (with_handed_in v u) ne) ∙ there), pos') ne),
  )

  -- The new table.
  pub opens_table : n + w < 2 ^ 33 → 0 < w → IsRuled n w (opening (0 ∷ n ∷ []) [] (fresh_part n w w))
  opens_table small pos = (refl, opened small pos)

-- A ticket that took another in shares no number with it.
pub apart_of : (v u m : Part) → m ≡ with_handed_in v u → IsKnown m → (k : ℕ) → times k v.drawn + times k u.drawn ≤ 1
apart_of v u m is known k =
    let le : times k (v.drawn ++ u.drawn) ≤ 1 = subst (λ (p : Part). times k p.drawn ≤ 1) is (known.apart k) in
    omega (arith, times-append k v.drawn u.drawn)

-- A number above all that were drawn is not passed over.
new_number : (v : Part) (k : ℕ) → IsKnown v → ((j : ℕ) → 0 < times j v.drawn → j < k) → times k v.passed_over ≡ 0
new_number v k known above = dite (dec_le (times k v.passed_over) 0) (λ h. omega arith)
    (λ h. let some_passed = lt_of_not-le h in absurd (omega (arith, above k (omega (arith, known.passes k)))))

-- A number that is drawn is not passed over in that step.
pub drawn_fresh : (v u : Part) (k : ℕ) → u ≡ draw_at k v → IsKnown v → ((j : ℕ) → 0 < times j v.drawn → j < k) → times k u.passed_over ≡ 0
drawn_fresh v u k is known above = ap (λ (p : Part). times k p.passed_over) is
    ∙ (ap (times k) (tested (λ (p : Part). p.passed_over ≡ v.passed_over) k v.segments (with_drawn k v) (at_end v) (λ _. refl) (λ _. refl))
    ∙ new_number v k known above)
