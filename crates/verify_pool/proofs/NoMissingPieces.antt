-- The pieces of a hand that stands for all tickets and has ended miss no number up to the first bad
-- one.
use Rattle.std.proofs.Common.{◌≡◌, ℕ, zero, suc, ◌+◌, ◌<◌, ◌≤◌, List, [], ◌∷◌, Some, slice_get}
use Rattle.std.proofs.Common.{refl, ap, sym, ◌∙◌, arith, Bool, true, false, if◌then◌else◌}
use Rattle.std.proofs.Common.{IsTrue, Result}
use Rattle.std.specs.declared.alloc.AllocError.{AllocError}
use Rattle.replay_segments.specs.declared.verdict.Verdict.{Verdict}
use Rattle.replay_segments.specs.Gathering.{IsMissing, IsFirstMissing}
use Rattle.replay_segments.specs.Pieces.{PieceData, Job, passed}
use Rattle.verify_pool.specs.declared.hand.Hand.{Hand}
use Rattle.verify_pool.specs.Crew.{IsWorked}
use Rattle.segment_desk.specs.Desk.{times}
use Rattle.verify_pool.specs.WorkerPieces.{piece_numbers, if_bad, bad_numbers}
use Rattle.segment_desk.specs.Views.{DeskView}
use Rattle.segment_desk.proofs.ListLemmas.{times-append, times-same, times-other}

-- The number of a first piece, and those of the others.
times-numbers-cons : (k : ℕ) (p : PieceData) (ps : List PieceData) → times k (piece_numbers (p ∷ ps)) ≡ times k (p.number ∷ []) + times k (piece_numbers ps)
times-numbers-cons k p ps = times-append k (p.number ∷ []) (piece_numbers ps)

missing-none : (k : ℕ) (ps : List PieceData) → IsMissing ps k → times k (piece_numbers ps) ≡ 0
missing-none k [] missing = refl
missing-none k (p ∷ ps) missing =
    omega (arith, times-numbers-cons k p ps, times-other k p.number (missing 0 p refl), missing-none k ps (λ i q at. missing (suc i) q at))

bad_one : (k number : ℕ) (o : Result Verdict AllocError) → times k (if_bad number o) ≤ times k (number ∷ [])
bad_one k number o =
    elim (passed o) as (λ good. times k (if good then [] else number ∷ []) ≤ times k (number ∷ [])) [ true ↦ omega arith | false ↦ omega arith ]

-- A first piece adds no more to the bad numbers than to the numbers.
more_bad : (k : ℕ) (p : PieceData) (ps : List PieceData)
    → times k (bad_numbers (p ∷ ps)) + times k (piece_numbers ps) ≤ times k (bad_numbers ps) + times k (piece_numbers (p ∷ ps))
more_bad k p ps = omega (arith, bad_one k p.number p.outcome, times-numbers-cons k p ps, times-append k (if_bad p.number p.outcome) (bad_numbers ps))

passed_one : (k number : ℕ) (o : Result Verdict AllocError) → IsTrue (passed o) → times k (if_bad number o) ≡ 0
passed_one k number o good = ap (λ (b : Bool). times k (if b then [] else number ∷ [])) good

bad-le : (k : ℕ) (ps : List PieceData) → times k (bad_numbers ps) ≤ times k (piece_numbers ps)
bad-le k [] = omega arith
bad-le k (p ∷ ps) = omega (arith, bad-le k ps, more_bad k p ps)

-- A number with a piece that passed has fewer bad pieces than pieces.
passed-less : (k : ℕ) (ps : List PieceData) (i : ℕ) (p : PieceData) → slice_get ps i ≡ Some p → p.number ≡ k → IsTrue (passed p.outcome)
    → times k (bad_numbers ps) < times k (piece_numbers ps)
passed-less k [] i p at is good = absurd cc
passed-less k (q ∷ ps) zero p at is good = let same : q ≡ p = cc in
    let here : times k (q.number ∷ []) ≡ 1 = ap (λ (n : ℕ). times k (n ∷ [])) (ap (λ (x : PieceData). x.number) same ∙ is) ∙ times-same k k refl in
    let none : times k (if_bad q.number q.outcome) ≡ 0 =
    ap (λ (x : PieceData). times k (if_bad x.number x.outcome)) same ∙ passed_one k p.number p.outcome good in
    omega (arith, bad-le k ps, here, none, times-numbers-cons k q ps, times-append k (if_bad q.number q.outcome) (bad_numbers ps))
passed-less k (q ∷ ps) (suc i) p at is good = omega (arith, passed-less k ps i p at is good, more_bad k q ps)

-- No piece is missing whose segment would have to be known.
pub none_missing : (desk : DeskView) (job : Job) (hand : Hand) (k : ℕ) → IsWorked desk job desk.workers hand
    → IsFirstMissing hand.pieces.items desk.segments k → ⊥
none_missing desk job hand k worked (less, missing, below) =
    let v = hand.ticket.part in
    let pieces = hand.pieces.items in
    let whole = worked.known.whole worked.ended (worked.share_is ∙ sym worked.own.2) in
    let segments = worked.own.1 in
    let one : times k v.drawn ≡ 1 = whole.all_drawn k (omega arith) in
    let over : 0 < times k v.passed_over = omega (arith, worked.exact.pieces_of k, missing-none k pieces missing) in
    let first = whole.none_missed k over in
    let has = below first.0 first.1 in
    let fewer = passed-less first.0 pieces has.0 has.1 has.2 has.3 has.4 in
    omega (arith, fewer, first.2, worked.exact.reports_of first.0, worked.exact.pieces_of first.0, worked.known.apart first.0)
