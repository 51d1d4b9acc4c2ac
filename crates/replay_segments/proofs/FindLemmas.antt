-- Pieces that are looked for one after another.
use Rattle.std.proofs.Common.{◌≡◌, ◌≢◌, ℕ, ◌+◌, ◌<◌, ◌≤◌, List, length, Option, Some, None, Err, alloc_error}
use Rattle.std.proofs.Common.{true, IsFalse, IfSome, slice_get, arith}
use Rattle.std.proofs.lemmas.Bool.{false_from_ne_true}
use Rattle.std.specs.Option.{is_some}
use Rattle.std.proofs.lemmas.Option.{slice_get_within}
use Rattle.refused.specs.declared.Refused.{Refused}
use Rattle.refused.specs.declared.Refused.TheVariants.{Of, NoMemory}
use Rattle.replay_segments.specs.declared.gathering.Missing.{Missing}
use Rattle.replay_segments.specs.Private.Finding.{ArePassedBelow, IsAnswer}
use Rattle.replay_segments.specs.Gathering.{HasNumber, HasPassed, PassedBelow}
use Rattle.replay_segments.specs.Pieces.{PieceData, passed}
use Rattle.replay_segments.proofs.ListLemmas.{each-below}

-- What is no None is found.
pub found : (P : ℕ → Type 0) (o : Option ℕ) → is_some o ≡ true → IfSome o P → (i : ℕ) × P i
found P (Some i) is holds = (i, holds)
found P None is holds = absurd cc

pub PassedBelow-found : (pieces : List PieceData) (n : ℕ) → ArePassedBelow pieces n → PassedBelow pieces n
PassedBelow-found pieces n below k less = let (i, (p, at, is, good, lawful)) = below k less in (i, p, at, is, good)

-- The piece passed, or it is without memory.
abbrev pub IsUnjudged : PieceData → Type 0
IsUnjudged p = IsFalse (passed p.outcome) → p.outcome ≡ Err alloc_error

-- What is answered where only the first n pieces are looked at, of which none was judged bad.
abbrev pub IsAnswerBelow : List PieceData → ℕ → ℕ → Refused Missing → Type 0
IsAnswerBelow pieces number n (Of missing) =
    (missing.segment ≡ number) × ((i : ℕ) (p : PieceData) → i < n → slice_get pieces i ≡ Some p → p.number ≢ number)
IsAnswerBelow pieces number n NoMemory =
    HasNumber pieces number × ((i : ℕ) (p : PieceData) → i < n → slice_get pieces i ≡ Some p → p.number ≡ number → IsUnjudged p)

-- The next piece has another number.
pub IsAnswerBelow-other : (pieces : List PieceData) (number n : ℕ) (answer : Refused Missing) (q : PieceData) → IsAnswerBelow pieces number n answer
    → slice_get pieces n ≡ Some q → q.number ≢ number → IsAnswerBelow pieces number (n + 1) answer
IsAnswerBelow-other pieces number n answer q below at other = grind arith

-- The next piece has this number, and was not judged bad.
pub IsAnswerBelow-may : (pieces : List PieceData) (number n : ℕ) (answer : Refused Missing) (q : PieceData) → IsAnswerBelow pieces number n answer
    → slice_get pieces n ≡ Some q → q.number ≡ number → IsUnjudged q → IsAnswerBelow pieces number (n + 1) NoMemory
IsAnswerBelow-may pieces number n answer q below at is may =
    ((n, q, at, is), each-below (λ (p : PieceData). p.number ≡ number → IsUnjudged p) pieces n q at (λ _. may) (old answer below))
  where
    old : (a : Refused Missing) → IsAnswerBelow pieces number n a → (i : ℕ) (p : PieceData) → i < n → slice_get pieces i ≡ Some p → p.number ≡ number → IsUnjudged p
    old (Of missing) b = λ i p low here same. absurd (b.1 i p low here same)
    old NoMemory b = b.1

pub IsAnswer-whole : (pieces : List PieceData) (number n : ℕ) (answer : Refused Missing) → length pieces ≤ n → (HasPassed pieces number → ⊥)
    → IsAnswerBelow pieces number n answer → IsAnswer pieces number (Err answer)
IsAnswer-whole pieces number n (Of missing) past none below =
    (below.0, λ i p here. below.1 i p (let w = slice_get_within pieces i p here in omega arith) here)
IsAnswer-whole pieces number n NoMemory past none below = (
  below.0,
  λ i p here is.
      let may = below.1 i p (let w = slice_get_within pieces i p here in omega arith) here is in
      may (false_from_ne_true (passed p.outcome) (λ good. none (i, p, here, is, good))),
)
