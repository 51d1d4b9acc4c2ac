-- Hands of a crew, and one more.
use Rattle.std.proofs.Common.{◌≡◌, ℕ, ◌+◌, ◌*◌, ◌<◌, ◌≤◌, List, [], ◌∷◌, ◌++◌, length}
use Rattle.std.proofs.Common.{length-append, refl, ap, sym, subst, ◌∙◌, arith, Some, vec_len}
use Rattle.std.proofs.Common.{vec_capacity}
use Rattle.std.proofs.lemmas.List.Elements.{All-pop}
use Rattle.movie_file.specs.Movie.{MovieData}
use Rattle.replay_segments.specs.Pieces.{Job, job_of}
use Rattle.replay_plan.specs.declared.keep.Keep.{Keep}
use Rattle.verify_pool.specs.declared.hand.Hand.{Hand}
use Rattle.verify_pool.specs.declared.workers.WorkerPromise.{WorkerPromise}
use Rattle.verify_pool.specs.Crew.{IsReady, AreReady, IsWorked, first_room, shares}
use Rattle.segment_desk.specs.Desk.{with_handed_in}
use Rattle.segment_desk.specs.Kept.{IsKnown}
use Rattle.segment_desk.specs.Views.{DeskView, IsOf}
use Rattle.verify_pool.proofs.WorkerPieceLemmas.{exact_handed}
use Rattle.std.proofs.lemmas.List.Sums.{sum_by-append}

pub shares-append : (hands : List Hand) (hand : Hand) → shares (hands ++ hand ∷ []) ≡ shares hands + hand.ticket.part.share
shares-append hands hand = omega (arith, sum_by-append (λ (h : Hand). h.ticket.part.share) hands (hand ∷ []))

pub first_room-append : (hands : List Hand) (hand : Hand) → 0 < length hands → first_room (hands ++ hand ∷ []) ≡ first_room hands
first_room-append [] hand some = absurd (omega arith)
first_room-append (first ∷ hands) hand some = refl

-- Without their last one hands are ready, where others are left.
pub ready-pop : (desk : DeskView) (all rest : List Hand) (last : Hand) → all ≡ rest ++ last ∷ [] → 0 < length rest → AreReady desk all → AreReady desk rest
ready-pop desk all rest last is some ready =
    let each = All-pop (IsReady desk) all rest (Some last) is ready.each in
    let whole : length all ≡ length rest + 1 = ap length is ∙ length-append rest (last ∷ []) in
    let first : desk.segments * length all ≤ first_room rest = rw (← first_room-append rest last some, ← is) ready.first in
    record { some = some; each = each.0; first = omega (arith, first, ap (λ n. desk.segments * n) whole) }

pub worked_united : (desk : DeskView) (job : Job) (a b : ℕ) (first second hand : Hand) → IsOf desk hand.ticket → IsKnown hand.ticket.part
    → hand.ticket.part ≡ with_handed_in first.ticket.part second.ticket.part → hand.pieces.items ≡ first.pieces.items ++ second.pieces.items
    → IsWorked desk job a first → IsWorked desk job b second → IsWorked desk job (a + b) hand
worked_united desk job a b first second hand own known part items one two = record {
  own = own;
  known = known;
  ended = rw (part, one.ended) refl;
  share_is = rw part (omega (arith, one.share_is, two.share_is));
  exact = exact_handed job _ _ _ _ _ _ items part one.exact two.exact;
}

-- What a worker promised, at the values that the promise was made of.
pub promised : (m : MovieData) (cuts : List ℕ) (keep : Keep) (desk : DeskView) (given : Hand) (p : WorkerPromise)
    → p.movie.value ≡ m → p.cuts.value ≡ cuts → p.keep ≡ keep → p.desk.value ≡ desk → p.hand.value ≡ given
    → (hand : Hand)
    → IsWorked p.desk.value (job_of p.movie.value p.cuts.value p.keep) p.hand.value.ticket.part.share hand × (vec_len hand.pieces ≤ p.desk.value.segments)
    → IsWorked desk (job_of m cuts keep) given.ticket.part.share hand × (vec_len hand.pieces ≤ desk.segments)
promised m cuts keep desk given p of_movie of_cuts of_keep of_desk of_hand hand kept = rw (of_movie, of_cuts, of_keep, of_desk, of_hand) at kept

module _ (desk : DeskView) (all rest : List Hand) (last : Hand) (is : all ≡ rest ++ last ∷ []) (some : 0 < length rest) where
  more : desk.segments * length all ≡ desk.segments * length rest + desk.segments
  more = omega (arith, ap (λ n. desk.segments * n) (ap length is ∙ length-append rest (last ∷ [])))

  -- The pieces of the last hand fit behind those of the rest.
  pub pieces_fit : (theirs others room : ℕ) → AreReady desk all → first_room rest ≤ room → theirs ≤ desk.segments * length rest
      → others ≤ desk.segments → theirs + others ≤ room
  pieces_fit theirs others room ready le few one =
      let first : desk.segments * length all ≤ first_room rest = rw (← first_room-append rest last some, ← is) ready.first in omega (arith, first, more)

  pub worked_all : (job : Job) (hand : Hand) → IsWorked desk job (shares rest + last.ticket.part.share) hand → IsWorked desk job (shares all) hand
  worked_all job hand worked = subst (λ n. IsWorked desk job n hand) (sym (ap shares is ∙ shares-append rest last)) worked

-- A hand behind others is the first only where there is no other.
pub first_room-more : (need : ℕ) (hands : List Hand) (hand : Hand) → (length hands ≡ 0 → need ≤ vec_capacity hand.pieces)
    → (0 < length hands → need ≤ first_room hands) → need ≤ first_room (hands ++ hand ∷ [])
first_room-more need [] hand alone others = alone refl
first_room-more need (first ∷ hands) hand alone others = others (omega arith)
