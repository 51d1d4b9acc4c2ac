-- What pieces answer, by the first number without a piece that passed.
use Rattle.std.proofs.Common.{◌≡◌, ℕ, zero, suc, ◌<◌, ◌↔◌, List, [], ◌++◌, Result, Ok, Err, IfOk}
use Rattle.std.proofs.Common.{refl, arith, ap, ◌∙◌, subst, sym, add-one, ◌⊎◌, inl, IsTrue}
use Rattle.std.proofs.Common.{IsFalse}
use Rattle.std.proofs.lemmas.Bool.{cases_lt}
use Rattle.std.specs.declared.alloc.AllocError.{AllocError}
use Rattle.vcs_machine.specs.Pictures.{Rows}
use Rattle.refused.specs.declared.Refused.{Refused}
use Rattle.refused.specs.declared.Refused.TheVariants.{Of, NoMemory}
use Rattle.replay_segments.specs.declared.gathering.Missing.{Missing}
use Rattle.replay_segments.specs.declared.verdict.Verdict.{Verdict}
use Rattle.replay_segments.specs.declared.verdict.Verdict.TheVariants.{Genuine}
use Rattle.replay_segments.specs.Private.Finding.{ArePassedBelow, IsFirstUnpassed, IsAnswer}
use Rattle.replay_segments.specs.Gathering.{NamesAll, HasPassed, PassedBelow, IsMissing, AllRefused}
use Rattle.replay_segments.specs.Gathering.{IsFirstMissing, IsFirstRefused, picture_count}
use Rattle.replay_segments.specs.Pieces.{PieceData, Job, passed, segments_of}
use Rattle.replay_segments.specs.Verdicts.{IsVerdict}
use Rattle.replay_segments.proofs.OneUnbrokenRun.{IsPrefix, IsPrefix-start, IsPrefix-next}
use Rattle.replay_segments.proofs.OneUnbrokenRun.{IsVerdict-bad}
use Rattle.replay_segments.proofs.FindLemmas.{PassedBelow-found}
use Rattle.replay_segments.proofs.TakeLemmas.{of_job}

passed_pictures : (o : Result Verdict AllocError) → IsTrue (passed o) → (kept : List Rows) × (o ≡ Ok (Genuine kept))
passed_pictures o good = grind arith

-- Segments that passed are a genuine beginning.
prefix_of : (job : Job) (pieces : List PieceData) → NamesAll job pieces → (number : ℕ) → ArePassedBelow pieces number
    → (kept : List Rows) × IsPrefix job number kept
prefix_of job pieces names zero below = ([], IsPrefix-start job)
prefix_of job pieces names (suc k) below =
    let (kept, begun) = prefix_of job pieces names k (λ j less. below j (omega arith)) in
    let (i, (p, at, is, good, lawful)) = below k (omega arith) in
    let (more, judged) = passed_pictures p.outcome good in
    let of = of_job job pieces i p k (Genuine more) names at is judged lawful in
    (kept ++ more, subst (λ (n : ℕ). IsPrefix job n (kept ++ more)) (add-one k) (IsPrefix-next job of.0 k of.1 kept begun more of.2))

missing_none : (pieces : List PieceData) (k : ℕ) → IsMissing pieces k → HasPassed pieces k → ⊥
missing_none pieces k missing (i, p, at, is, good) = missing i p at is

refused_none : (pieces : List PieceData) (k : ℕ) → AllRefused pieces k → HasPassed pieces k → ⊥
refused_none pieces k refused (i, p, at, is, good) = let none = refused i p at is in absurd cc

-- Where each number has a piece that passed, none is missing and none is without memory.
pub none_missing : {P : Type 0} (pieces : List PieceData) (n k : ℕ) → PassedBelow pieces n → IsFirstMissing pieces n k → P
none_missing pieces n k all (less, missing, _) = absurd (missing_none pieces k missing (all k less))

pub none_refused : {P : Type 0} (pieces : List PieceData) (n k : ℕ) → PassedBelow pieces n → IsFirstRefused pieces n k → P
none_refused pieces n k all (less, has, refused, _) = absurd (refused_none pieces k refused (all k less))

module _ (pieces : List PieceData) (n number : ℕ) (first : IsFirstUnpassed pieces n number) where
  passed_below : PassedBelow pieces number
  passed_below = PassedBelow-found pieces number first.below

  same_first : (k : ℕ) → (HasPassed pieces k → ⊥) → PassedBelow pieces k → k ≡ number
  same_first k none below = grind (arith, cases_lt, passed_below)

  missing_is : (k : ℕ) → IsFirstMissing pieces n k → k ≡ number
  missing_is k (less, missing, below) = same_first k (missing_none pieces k missing) below

  refused_is : (k : ℕ) → IsFirstRefused pieces n k → k ≡ number
  refused_is k (less, has, refused, below) = same_first k (refused_none pieces k refused) below

  pub verdict-answer : (r : Result Verdict (Refused Missing)) → IsAnswer pieces number r
      → IfOk r (λ v. (job : Job) → NamesAll job pieces → n ≡ segments_of job → IsVerdict job.movie job.keep v)
  verdict-answer (Ok v) (i, p, at, is, judged, bad, lawful) = λ job names whole.
      let (kept, begun) = prefix_of job pieces names number first.below in
      let of = of_job job pieces i p number v names at is judged lawful in
      IsVerdict-bad job of.0 number of.1 kept begun v of.2 (subst (λ (o : Result Verdict AllocError). IsFalse (passed o)) judged bad)
  verdict-answer (Err e) answer = tt

  pub missing-answer : (r : Result Verdict (Refused Missing)) → IsAnswer pieces number r → (k : ℕ) → (r ≡ Err (Of (record { segment = k }))) ↔ IsFirstMissing pieces n k
  missing-answer (Ok v) (i, p, at, is, judged, bad, lawful) k = (λ e. absurd cc, λ first. absurd (first.1 i p at (is ∙ sym (missing_is k first))))
  missing-answer (Err (Of named)) (here, missing) k = (
    λ e. let same : number ≡ k = cc in rw (← same) (first.within, missing, passed_below),
    λ other. ap (λ (x : ℕ). Err (Of (record { segment = x }))) (here ∙ sym (missing_is k other)),
  )
  missing-answer (Err NoMemory) ((i, p, at, is), _) k = (λ e. absurd cc, λ first. absurd (first.1 i p at (is ∙ sym (missing_is k first))))

  pub refused-answer : (r : Result Verdict (Refused Missing)) → IsAnswer pieces number r → (k : ℕ) → IsFirstRefused pieces n k → r ≡ Err NoMemory
  refused-answer (Ok v) (i, p, at, is, judged, bad, lawful) k first = let none = first.2 i p at (is ∙ sym (refused_is k first)) in absurd cc
  refused-answer (Err (Of named)) (here, missing) k first = let (i, p, at, is) = first.1 in absurd (missing i p at (is ∙ refused_is k first))
  refused-answer (Err NoMemory) answer k first = refl

  pub memory-answer : (r : Result Verdict (Refused Missing)) → IsAnswer pieces number r → r ≡ Err NoMemory
      → ((k : ℕ) × IsFirstRefused pieces n k) ⊎ (PassedBelow pieces n × (0 < picture_count pieces))
  memory-answer (Ok v) answer e = absurd cc
  memory-answer (Err (Of named)) answer e = absurd cc
  memory-answer (Err NoMemory) (has, refused) e = inl (number, (first.within, has, refused, passed_below))
