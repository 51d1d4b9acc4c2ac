-- What holds of each state that events reach.
use Rattle.std.proofs.Common.{◌≡◌, ℕ, Some, slice_get, ◌<◌, ◌≤◌, ◌∙◌, sym, refl, arith}
use Rattle.std.proofs.Common.{lt_of_not-le}
use Rattle.segment_desk.specs.declared.part.Part.{Part}
use Rattle.segment_desk.specs.Desk.{fresh_part, DeskState, Event, draws, looks, reports, splits}
use Rattle.segment_desk.specs.Desk.{hands_in, Reached, opened, went_on, with_handed_in}
use Rattle.segment_desk.specs.Kept.{IsDesk}
use Rattle.segment_desk.proofs.InvariantLemmas.{drawn_of, IsSound, IsLawful}
use Rattle.segment_desk.proofs.ListLemmas.{some-of_slice_get, term_le}
use Rattle.segment_desk.proofs.EventLemmas.{count_le, whole, opens}
use Rattle.segment_desk.proofs.EventLemmas as law
use Rattle.atomic_table.proofs.Lists.{set_else}

module _ (n w : ℕ) where
  abbrev Law : DeskState → Type 0
  Law s = IsLawful n w s.count s.least s.parts

  -- Each event keeps the invariant.
  keeps : (s t : DeskState) → Law s → Event n w s t → Law t
  keeps s t o (draws c l ps j v is going) = law.draws n w c l ps o j v (some-of_slice_get ps j v is.0) is.1 going
  keeps s t o (looks c l ps j v is) = law.looks n w c l ps o j v (some-of_slice_get ps j v is.0) is.1
  keeps s t o (reports c l ps j v k is last not_passed) = law.reports n w c l ps o j v (some-of_slice_get ps j v is.0) is.1 k last
  keeps s t o (splits c l ps j share is more) = law.splits n w c l ps o j (fresh_part n w share)
      (some-of_slice_get ps j (fresh_part n w share) is.0) is.1 more refl
  keeps s t o (hands_in c l ps j v i u is other ne) = law.joins n w c l ps o j v (some-of_slice_get ps j v is.0) is.1 i u ne
      (set_else ps j i (with_handed_in v u) ne ∙ some-of_slice_get ps i u other.0)

  -- So each state that events reach has it.
  pub lawful : (s : DeskState) → Reached n w s → Law s
  lawful s (opened small pos) = opens n w small pos
  lawful s (went_on t s' r e) = keeps t s' (lawful t r) e

  -- And what is claimed of such a state follows.
  pub kept : (s : DeskState) → Reached n w s → IsDesk n w s
  kept s r = let o = lawful s r in
      let each : (j : ℕ) (v : Part) → slice_get s.parts j ≡ Some v → IsSound n w s.count s.least v =
      λ j v at. o.each j v (some-of_slice_get s.parts j v at) in record {
        sized = λ j v is. law.size n w s.count s.least s.parts o j v (some-of_slice_get s.parts j v is.0) is.1;
        drawn_once = o.once;
        not_yet = o.not_yet;
        within = o.within;
        count_le = count_le n w s.count s.least s.parts o;
        least_le = o.least_le;
        none_below = o.none_below;
        is_reported = o.is_reported;
        seen = λ j v k at e. (each j v at).seen_above k e;
        own_reports = λ j v k at. (each j v at).reports k;
        own_passes = λ j v k at. (each j v at).passes k;
        smaller_reported = λ j v k at some_passed. let v-sound = each j v at in
            let above : s.least < k = lt_of_not-le (λ (h : k ≤ s.least). absurd (omega (arith, v-sound.behind k h))) in
            let below : k < n = lt_of_not-le
            (λ (h : n ≤ k). absurd
            (omega (
              arith,
              v-sound.passes k,
              term_le (drawn_of k) s.parts j v (some-of_slice_get s.parts j v at),
              o.within k h,
            ))) in
            (s.least, above, o.is_reported (omega arith));
        shares = o.shares;
        whole = λ j v is ended all. let at = some-of_slice_get s.parts j v is.0 in
            whole n w s.count s.least s.parts o j v at is.1 ended (all ∙ sym (law.size n w s.count s.least s.parts o j v at is.1).1);
      }
