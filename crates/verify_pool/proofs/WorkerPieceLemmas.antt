-- What the steps of a worker do to its pieces, beside its ticket's part.
use Rattle.std.proofs.Common.{◌≡◌, ℕ, ◌+◌, ◌<◌, ◌≤◌, if◌then◌else◌, nat_lt, List, [], ◌∷◌}
use Rattle.std.proofs.Common.{◌++◌, refl, sym, ap, ◌∙◌, subst, arith, lt_of_not-le, Option, Some}
use Rattle.std.proofs.Common.{None, Bool, true, false, OnErr}
use Rattle.std.proofs.lemmas.List.{map-append}
use Rattle.std.proofs.lemmas.List.Elements.{All-push, All-append}
use Rattle.std.proofs.lemmas.Grind.{flat_map-append}
use Rattle.std.proofs.lemmas.Result.{on_err_weaker}
use Rattle.replay_segments.specs.Pieces.{PieceData, Job, passed, TakesMemory}
use Rattle.segment_desk.specs.declared.part.Part.{Part}
use Rattle.segment_desk.specs.Desk.{times, with_number, with_drawn, at_end, look_at, report_at}
use Rattle.segment_desk.specs.Desk.{with_handed_in}
use Rattle.verify_pool.specs.Private.Draws.{to_draw, left_of}
use Rattle.verify_pool.specs.WorkerPieces.{piece_numbers, if_bad, bad_numbers, IsExact}
use Rattle.verify_pool.specs.WorkerPieces.{WantsMemory}
use Rattle.verify_pool.specs.Private.Replays.{IsReplayed}
use Rattle.segment_desk.specs.Kept.{IsKnown}
use Rattle.segment_desk.proofs.PartLemmas.{tested}
use Rattle.segment_desk.proofs.ListLemmas.{times-append}

times-numbers : (k : ℕ) (ps qs : List PieceData) → times k (piece_numbers (ps ++ qs)) ≡ times k (piece_numbers ps) + times k (piece_numbers qs)
times-numbers k ps qs = ap (times k) (map-append (λ (p : PieceData). p.number) ps qs) ∙ times-append k (piece_numbers ps) (piece_numbers qs)

times-bad : (k : ℕ) (ps qs : List PieceData) → times k (bad_numbers (ps ++ qs)) ≡ times k (bad_numbers ps) + times k (bad_numbers qs)
times-bad k ps qs = ap (times k) (flat_map-append (λ (p : PieceData). if_bad p.number p.outcome) ps qs) ∙ times-append k (bad_numbers ps) (bad_numbers qs)

-- A number that is not in the list is put behind it.
added : (k : ℕ) (xs : List ℕ) → times k xs ≡ 0 → with_number k xs ≡ xs ++ k ∷ []
added k xs none = tested (λ (ys : List ℕ). ys ≡ xs ++ k ∷ []) 0 (times k xs) xs (xs ++ k ∷ []) (λ some. absurd (omega arith)) (λ _. refl)

-- What a replay reports of its own number, beside what was reported before.
reports : (good : Bool) (k : ℕ) (old new : Part) → times k old.reported ≡ 0 → IsReplayed good k old new
    → (j : ℕ) → times j new.reported ≡ times j old.reported + times j (if good then [] else k ∷ [])
reports true k old new none is j = omega (arith, ap (λ (v : Part). times j v.reported) is)
reports false k old new none is j =
    omega (arith, ap (λ (v : Part). times j v.reported) is.1, ap (times j) (added k old.reported none), times-append j old.reported (k ∷ []))

-- It changes nothing that is said of other fields.
pub replay_keeps : {A : Type 0} (f : Part → A) → ((x k : ℕ) (v : Part) → f (report_at x k v) ≡ f v) → (good : Bool) (k : ℕ) (old new : Part)
    → IsReplayed good k old new → f new ≡ f old
replay_keeps f same true k old new is = ap f is
replay_keeps f same false k old new is = ap f is.1 ∙ same is.0 k old

-- A worker draws k, which is above all that its ticket drew before.
module _ (job : Job) (pieces : List PieceData) (v : Part) (k : ℕ) (exact : IsExact job v pieces) (known : IsKnown v)
    (above : (j : ℕ) → 0 < times j v.drawn → j < k) where
  undrawn : times k v.drawn ≡ 0
  undrawn = grind (arith, above k)

  -- Where a smaller number is bad it gets no piece.
  pub exact_over : (x : ℕ) (w : Part) → x < k → w ≡ look_at x (with_drawn k v) → IsExact job w pieces
  exact_over x w lt is = let unpassed : times k v.passed_over ≡ 0 = omega (arith, known.passes k, undrawn) in
      let over : (if nat_lt x k then with_number k v.passed_over else v.passed_over) ≡ v.passed_over ++ k ∷ [] =
      tested (λ (ys : List ℕ). ys ≡ v.passed_over ++ k ∷ []) x k (with_number k v.passed_over) v.passed_over (λ _. added k v.passed_over unpassed)
      (λ le. absurd (omega arith)) in
      subst (λ (u : Part). IsExact job u pieces) (sym is) (record {
        names = exact.names;
        pieces_of = λ j. omega (arith, exact.pieces_of j, ap (times j) over, times-append j v.passed_over (k ∷ []), times-append j v.drawn (k ∷ []));
        reports_of = exact.reports_of;
        memory = exact.memory;
      })

  -- Else it gets a piece.
  pub exact_more : (x : ℕ) (old new : Part) (p : PieceData) → k ≤ x → old ≡ look_at x (with_drawn k v) → p.number ≡ k → p.job ≡ job
      → OnErr p.outcome (TakesMemory job k)
      → IsReplayed (passed p.outcome) k old new → IsExact job new (pieces ++ p ∷ [])
  exact_more x old new p le is number of wants replayed = let unreported : times k v.reported ≡ 0 = omega (arith, known.reports k, undrawn) in
      let stays : (if nat_lt x k then with_number k v.passed_over else v.passed_over) ≡ v.passed_over =
      tested (λ (ys : List ℕ). ys ≡ v.passed_over) x k (with_number k v.passed_over) v.passed_over (λ lt. absurd (omega arith)) (λ _. refl) in
      let over : new.passed_over ≡ v.passed_over =
      replay_keeps (λ (u : Part). u.passed_over) (λ _ _ _. refl) (passed p.outcome) k old new replayed ∙ (ap (λ (u : Part). u.passed_over) is ∙ stays) in
      let drawn : new.drawn ≡ v.drawn ++ k ∷ [] =
      replay_keeps (λ (u : Part). u.drawn) (λ _ _ _. refl) (passed p.outcome) k old new replayed ∙ ap (λ (u : Part). u.drawn) is in
      let before : old.reported ≡ v.reported = ap (λ (u : Part). u.reported) is in
      let told = reports (passed p.outcome) k old new (ap (times k) before ∙ unreported) replayed in record {
        names = All-push (λ (q : PieceData). q.job ≡ job) pieces p exact.names of;
        pieces_of = λ j. omega (
          arith,
          exact.pieces_of j,
          times-numbers j pieces (p ∷ []),
          ap (λ (n : ℕ). times j (n ∷ [])) number,
          ap (times j) over,
          ap (times j) drawn,
          times-append j v.drawn (k ∷ []),
        );
        reports_of = λ j. omega (
          arith,
          exact.reports_of j,
          times-bad j pieces (p ∷ []),
          times-append j (if_bad p.number p.outcome) [],
          ap (λ (n : ℕ). times j (if_bad n p.outcome)) number,
          told j,
          ap (times j) before,
        );
        memory = All-push WantsMemory pieces p exact.memory
            (on_err_weaker p.outcome (λ takes. subst (λ (j : Job). TakesMemory j p.number) (sym of) (subst (TakesMemory job) (sym number) takes)) wants);
      }

pub exact_end : (job : Job) (pieces : List PieceData) (v w : Part) → w ≡ at_end v → IsExact job v pieces → IsExact job w pieces
exact_end job pieces v w is e = rw is (record { names = e.names; pieces_of = e.pieces_of; reports_of = e.reports_of; memory = e.memory })

-- Who has drawn nothing has nothing reported or passed over.
pub exact_start : (job : Job) (pieces : List PieceData) (v : Part) → pieces ≡ [] → v.drawn ≡ [] → IsKnown v → IsExact job v pieces
exact_start job pieces v empty none known = rw empty (record {
  names = λ k d lt. absurd (omega arith);
  pieces_of = λ k. omega (arith, known.passes k, ap (times k) none);
  reports_of = λ k. omega (arith, known.reports k, ap (times k) none);
  memory = λ k d lt. absurd (omega arith);
})

pub exact_handed : (job : Job) (ps qs rs : List PieceData) (v u w : Part) → rs ≡ ps ++ qs → w ≡ with_handed_in v u → IsExact job v ps
    → IsExact job u qs → IsExact job w rs
exact_handed job ps qs rs v u w items is a b = rw (items, is) (record {
  names = All-append (λ (q : PieceData). q.job ≡ job) ps qs a.names b.names;
  pieces_of = λ k. omega
      (arith, a.pieces_of k, b.pieces_of k, times-numbers k ps qs, times-append k v.passed_over u.passed_over, times-append k v.drawn u.drawn);
  reports_of = λ k. omega (arith, a.reports_of k, b.reports_of k, times-bad k ps qs, times-append k v.reported u.reported);
  memory = All-append WantsMemory ps qs a.memory b.memory;
})

-- How many draws are left.

some_left : (n : ℕ) (last : Option ℕ) → ((k : ℕ) → last ≡ Some k → k < n) → 0 < to_draw n last
some_left n None below = omega arith
some_left n (Some k) below = let h = below k refl in omega arith

pub left_pos : (v : Part) → IsKnown v → 0 < left_of v
left_pos v known = some_left v.segments v.last (λ k e. lt_of_not-le (λ (h : v.segments ≤ k). absurd (omega (arith, known.last_drawn k e, known.within k h))))

pub left_le : (n : ℕ) (last : Option ℕ) → to_draw n last ≤ n + 1
left_le n None = omega arith
left_le n (Some k) = omega arith
