-- The signs that a verdict tells.
use Rattle.std.proofs.Common.{◌≡◌, ℕ, zero, suc, ◌+◌, ◌-◌, ◌<◌, ◌≤◌, List, length, Some}
use Rattle.std.proofs.Common.{slice_get, refl, arith, subst, sym, inl, inr, true, false, Bool}
use Rattle.std.specs.Prelude.{if◌then◌else◌}
use Rattle.std.specs.List.{Contains}
use Rattle.std.proofs.lemmas.Bool.{cases_lt, eqb-true}
use Rattle.std.proofs.lemmas.Option.{slice_get_within, slice_get_past, slice_get_read}
use Rattle.movie_machine.specs.Outcomes.{Failed}
use Rattle.vcs_machine.specs.declared.fault.FaultKind.{FaultKind}
use Rattle.movie_machine.specs.declared.state.State.{State}
use Rattle.movie_file.specs.Movie.{MovieData, IsMovie}
use Rattle.movie_file.specs.Judgement.{AllSound}
use Rattle.movie_file.specs.Run.{frame_after, run}
use Rattle.movie_file.specs.declared.checkpoint.Checkpoint.{Checkpoint}
use Rattle.movie_file.proofs.RunLemmas.{run-shift}
use Rattle.replay_plan.specs.declared.keep.Keep.{Keep}
use Rattle.replay_segments.specs.Cuts.{Fits, IsEvery}
use Rattle.replay_segments.specs.KeptPictures.{pictures}
use Rattle.replay_segments.specs.NextCheckpoint.{IsNext}
use Rattle.replay_segments.specs.Segments.{end_of, from_of, start_of}
use Rattle.replay_segments.specs.Verdicts.{HasVerdict}
use Rattle.replay_segments.specs.declared.verdict.Verdict.TheVariants.{Genuine, FalseCheckpoint, Fault}
use Rattle.replay_segments.proofs.CheckpointLemmas.{frames_rise}
use Rattle.replay_segments.proofs.ListLemmas.{slice_get-below}
use Rattle.replay_segments.proofs.RunStateLemmas.{claim_of_sound}
use Rattle.replay_segments.proofs.SegmentLemmas.{AtCut, at_cut, end_of-cut, end_of-last, end_of-within, from_of-after}
use Rattle.replay_segments.proofs.SegmentLemmas.{from_of-below, start_of-after}
use Rattle.movie_report.specs.CheckpointFacts.{last_frame, last_of}
use Rattle.movie_report.specs.Private.FirstSigns.{IsFirst, IsFirstIn}
use Rattle.movie_report.specs.Segments.{HasSign, ends_with_checkpoint}
use Rattle.movie_report.specs.declared.segments.Sign.TheVariants.{Passes, Differs, Faults}

-- ---- from where a run stands

module _ (m : MovieData) (a : ℕ) (t : State) (is : run m m.start 0 a ≡ Some t) where
  run_later : (j : ℕ) → run m m.start 0 (a + j) ≡ run m t a j
  run_later j = let whole : 0 + a ≡ a = omega arith in
      subst (λ (y : ℕ). run m m.start 0 (a + j) ≡ run m t y j) whole (run-shift m m.start 0 a t is j)

  -- Sound frames of the whole run are sound from there.
  sound_later : (k len : ℕ) → AllSound m m.start 0 k → a + len ≤ k → AllSound m t a len
  sound_later k len sound le x less =
      let (state, ran, claims) = sound (a + x) (omega arith) in
      let more : a + x + 1 ≡ a + (x + 1) = omega arith in
      let there : run m m.start 0 (a + (x + 1)) ≡ Some state = subst (λ (y : ℕ). run m m.start 0 y ≡ Some state) more ran in
      (state, rw (← run_later (x + 1)) there, λ j c at here. claims j c at (omega (arith, here)))

-- ---- a movie that is cut at every checkpoint

module _ (m : MovieData) (cuts : List ℕ) (fits : Fits cuts m) (every : IsEvery 1 (length m.checkpoints) cuts) where
  -- A number stands at the place of its cut, if those below it do.
  place_of : (k : ℕ) → ((j : ℕ) → j < k → slice_get cuts j ≡ Some (j + 1)) → (p : ℕ) → slice_get cuts p ≡ Some (k + 1) → p ≡ k
  place_of k below p at =
      elim (cases_lt p k) [
        | inl low ↦ let is = below p low in let same : p + 1 ≡ k + 1 = cc in absurd (omega (arith, same, low))
        | inr high ↦
            elim (cases_lt k p) [
              | inl more ↦
                  let (x, here) = slice_get-below cuts k (omega (arith, slice_get_within cuts p (k + 1) at, more)) in
                  let range = fits.range k x here in
                  let rise = fits.rising k p x (k + 1) more here at in
                  let x-is : x - 1 + 1 ≡ x = omega (arith, range.0) in
                  let was : slice_get cuts (x - 1) ≡ Some x = subst (λ (y : ℕ). slice_get cuts (x - 1) ≡ Some y) x-is (below (x - 1) (omega (arith, range.0, rise))) in
                  let no = fits.rising (x - 1) k x x (omega (arith, range.0, rise)) was here in absurd (omega (arith, no))
              | inr le ↦ omega arith
            ]
      ]

  -- The cut after a checkpoint has its place.
  next_place : (k : ℕ) → k < length m.checkpoints → ((j : ℕ) → j < k → slice_get cuts j ≡ Some (j + 1)) → slice_get cuts k ≡ Some (k + 1)
  next_place k less below =
      let contains : Contains cuts (k + 1) = (every (k + 1)).1 (omega arith, omega arith, grind arith) in
      let at : slice_get cuts contains.0 ≡ Some (k + 1) = slice_get_read cuts (length cuts) contains.0 (k + 1) refl contains.1 (sym contains.2) in
      let here = place_of k below contains.0 at in rw here at at

  places : (k : ℕ) → k ≤ length m.checkpoints → (j : ℕ) → j < k → slice_get cuts j ≡ Some (j + 1)
  places zero le j less = absurd (omega arith)
  places (suc k) le j less =
      let below : (i : ℕ) → i < k → slice_get cuts i ≡ Some (i + 1) = places k (omega arith) in
      elim (cases_lt j k) [
        | inl low ↦ below j low
        | inr high ↦ let same : j ≡ k = omega arith in rw same (next_place k (omega arith) below)
      ]

  -- The cut of this index is at the checkpoint of the same index.
  at_checkpoint : (j : ℕ) (c : Checkpoint) → slice_get m.checkpoints j ≡ Some c → AtCut m cuts j (j + 1) c
  at_checkpoint j c here =
      let less = slice_get_within m.checkpoints j c here in
      let same : j + 1 - 1 ≡ j = omega arith in
      record { cut = places (length m.checkpoints) (omega arith) j less; positive = omega arith; checkpoint = rw same here }

  cuts_least : length m.checkpoints ≤ length cuts
  cuts_least = elim (cases_lt (length cuts) (length m.checkpoints)) [
    | inl less ↦
        let within = slice_get_within cuts (length cuts) (length cuts + 1) (places (length m.checkpoints) (omega arith) (length cuts) less) in
        absurd (omega arith)
    | inr le ↦ le
  ]

  cuts_most : length cuts ≤ length m.checkpoints
  cuts_most = elim (cases_lt (length m.checkpoints) (length cuts)) [
    | inl less ↦
        let n = length m.checkpoints in
        let (x, here) = slice_get-below cuts n less in
        let range = fits.range n x here in
        let x-is : x - 1 + 1 ≡ x = omega (arith, range.0) in
        let was : slice_get cuts (x - 1) ≡ Some x =
        subst (λ (y : ℕ). slice_get cuts (x - 1) ≡ Some y) x-is (places n (omega arith) (x - 1) (omega (arith, range.0, range.1))) in
        let no = fits.rising (x - 1) n x x (omega (arith, range.0, range.1)) was here in absurd (omega (arith, no))
    | inr le ↦ le
  ]

  pub signs_least : (signs : ℕ) → signs ≡ length cuts + 1 - (if ends_with_checkpoint m then 1 else 0) → length m.checkpoints ≤ signs
  signs_least signs is = by (ends_with_checkpoint m) is
    where
      by : (ends : Bool) → signs ≡ length cuts + 1 - (if ends then 1 else 0) → length m.checkpoints ≤ signs
      by true e = omega (arith, e, cuts_least)
      by false e = omega (arith, e, cuts_least)

module _ (m : MovieData) (movie : IsMovie m) (cuts : List ℕ) (fits : Fits cuts m) (every : IsEvery 1 (length m.checkpoints) cuts) where
  begins_within : (i : ℕ) → from_of m cuts i ≤ length m.inputs
  begins_within zero = omega arith
  begins_within (suc i) = end_of-within m cuts movie fits i

  begins_before_end : (i : ℕ) → from_of m cuts i ≤ end_of m cuts i
  begins_before_end i = elim (cases_lt i (length cuts)) [
    | inl low ↦ let below = from_of-below m cuts movie fits i low in omega (arith, below)
    | inr high ↦ rw (end_of-last m cuts i high) (begins_within i)
  ]

  module _ (k : ℕ) (sound : AllSound m m.start 0 k) where
    -- Where a segment begins after sound frames, the run stands.
    stands : (i : ℕ) → i ≤ length cuts → from_of m cuts i ≤ k → run m m.start 0 (from_of m cuts i) ≡ Some (start_of m cuts i)
    stands zero le before = refl
    stands (suc i) le before =
        let (n, c, cut) = at_cut m cuts movie fits i (omega arith) in
        let e = end_of-cut m cuts i n c cut in
        let more : i + 1 ≡ suc i = omega arith in
        let there : run m m.start 0 (from_of m cuts (i + 1)) ≡ Some (start_of m cuts (i + 1)) =
        rw (from_of-after m cuts i n c cut, start_of-after m cuts i n c cut)
        (claim_of_sound m k (n - 1) c movie sound cut.checkpoint (omega (arith, e, before))) in
        subst (λ (j : ℕ). run m m.start 0 (from_of m cuts j) ≡ Some (start_of m cuts j)) more there

    -- A segment of sound frames passes.
    passes : (keep : Keep) (i : ℕ) → i ≤ length cuts → end_of m cuts i ≤ k → HasSign m cuts i Passes
    passes keep i le end =
        let from = begins_before_end i in
        let a = from_of m cuts i in
        let t = start_of m cuts i in
        let len = end_of m cuts i - a in
        let ends : a + len ≡ end_of m cuts i = omega (arith, from) in (
          keep,
          Genuine (pictures m keep t a len),
          (len, ends, (sound_later m a t (stands i le (omega (arith, from, end))) k len sound (omega (arith, ends, end)), refl)),
          refl,
        )

  -- Those before the first false checkpoint pass, and the one that ends with it has another state there.
  IsFirstIn-false : (number frame : ℕ) → HasVerdict m (FalseCheckpoint number frame) → IsFirstIn m cuts (number - 1) Differs
  IsFirstIn-false number frame (keep, (k, less, at, sound, (state, j, c, ran, num, here, after, ne))) =
      let same : number - 1 ≡ j = omega (arith, num) in
      let low = slice_get_within m.checkpoints j c here in
      let cut = at_checkpoint m cuts fits every j c here in
      let ends = end_of-cut m cuts j (j + 1) c cut in
      let a = from_of m cuts j in
      let begins = from_of-below m cuts movie fits j (omega (arith, low, (cuts_least m cuts fits every))) in
      let t = start_of m cuts j in
      let s = stands k sound j (omega (arith, low, (cuts_least m cuts fits every))) (omega (arith, begins, ends, after)) in
      let more : a + (k - a + 1) ≡ k + 1 = omega (arith, begins, ends, after) in
      let there : run m t a (k - a + 1) ≡ Some state = rw (← run_later m a t s (k - a + 1), more) ran in
      rw same (record {
        passed = λ i before.
            let (d, claim) = slice_get-below m.checkpoints i (omega (arith, low, before)) in
            let rises = frames_rise m movie i j d c before claim here in
            passes k sound keep i (omega (arith, low, before, (cuts_least m cuts fits every)))
            (rw (end_of-cut m cuts i (i + 1) d (at_checkpoint m cuts fits every i d claim)) (omega (arith, rises, after)));
        next = (
          keep,
          FalseCheckpoint number frame,
          (
            k + 1 - a,
            omega (arith, begins, ends, after),
            (
              k - a,
              omega (arith, begins, ends, after),
              omega (arith, begins, ends, after, at),
              sound_later m a t s k (k - a) sound (omega (arith, begins, ends, after)),
              (state, j, c, there, num, here, omega (arith, begins, ends, after), ne),
            ),
          ),
          refl,
        );
        within = within_claims j low;
      })
    where
      within_claims : (i : ℕ) → i < length m.checkpoints → i < length cuts + 1 - (if ends_with_checkpoint m then 1 else 0)
      within_claims i low = let least = signs_least m cuts fits every (length cuts + 1 - (if ends_with_checkpoint m then 1 else 0)) refl in omega (arith, low, least)

  -- Those that end before the frame that faults pass, and the next one faults.
  IsFirstIn-fault : (frame next : ℕ) (kind : FaultKind) → HasVerdict m (Fault frame kind) → IsNext m next frame → IsFirstIn m cuts next Faults
  IsFirstIn-fault frame next kind (keep, (k, less, at, sound, (state, left, ran, fails))) is = record {
    passed = λ i before.
        let (d, claim) = slice_get-below m.checkpoints i (omega (arith, is.within, before)) in
        let early = is.before i d claim before in
        passes k sound keep i (omega (arith, is.within, before, (cuts_least m cuts fits every)))
        (rw (end_of-cut m cuts i (i + 1) d (at_checkpoint m cuts fits every i d claim)) (omega (arith, early, at)));
    next =
        let a = from_of m cuts next in
        let t = start_of m cuts next in
        let begins = begins_before next is in
        let ends = ends_after next is in
        let s = stands k sound next (omega (arith, is.within, (cuts_least m cuts fits every))) begins in
        let more : a + (k - a) ≡ k = omega (arith, begins) in
        let there : run m t a (k - a) ≡ Some state = rw (← run_later m a t s (k - a), more) ran in (
          keep,
          Fault frame kind,
          (
            end_of m cuts next - a,
            omega (arith, begins, ends),
            (
              k - a,
              omega (arith, begins, ends),
              omega (arith, begins, at),
              sound_later m a t s k (k - a) sound (omega (arith, begins)),
              (state, left, there, subst (λ (y : ℕ). frame_after m y state ≡ Some (Failed kind left)) (omega (arith, more)) fails),
            ),
          ),
          refl,
        );
    within = has_frame (ends_with_checkpoint m) refl;
  }
    where
      begins_before : (i : ℕ) → IsNext m i frame → from_of m cuts i ≤ k
      begins_before zero here = omega arith
      begins_before (suc i) here =
          let (c, claim) = slice_get-below m.checkpoints i (omega (arith, here.within)) in
          let early = here.before i c claim (omega arith) in
          let e = end_of-cut m cuts i (i + 1) c (at_checkpoint m cuts fits every i c claim) in omega (arith, e, early, at)

      ends_after : (i : ℕ) → IsNext m i frame → k < end_of m cuts i
      ends_after i here = elim (cases_lt i (length m.checkpoints)) [
        | inl low ↦
            let (c, claim) = slice_get-below m.checkpoints i low in
            let late = here.after i c claim (omega arith) in
            let e = end_of-cut m cuts i (i + 1) c (at_checkpoint m cuts fits every i c claim) in omega (arith, e, late, at)
        | inr high ↦ let e = end_of-last m cuts i (omega (arith, high, (cuts_most m cuts fits every))) in omega (arith, e, less)
      ]

      no_claim_at_end : next ≡ length m.checkpoints → last_frame (last_of m.checkpoints) ≡ length m.inputs → ⊥
      no_claim_at_end all end = elim (cases_lt 0 (length m.checkpoints)) [
        | inl some ↦
            let (c, claim) = slice_get-below m.checkpoints (length m.checkpoints - 1) (omega arith) in
            let early = is.before (length m.checkpoints - 1) c claim (omega (arith, all)) in
            let e : c.frame ≡ length m.inputs = rw claim at end in omega (arith, early, at, less, e)
        | inr none ↦
            let past = slice_get_past m.checkpoints (length m.checkpoints - 1) (omega arith) in
            let e : 0 ≡ length m.inputs = rw past at end in omega (arith, less, e)
      ]

      has_frame : (ends : Bool) → ends_with_checkpoint m ≡ ends → next < length cuts + 1 - (if ends_with_checkpoint m then 1 else 0)
      has_frame false e = rw e (omega (arith, is.within, (cuts_least m cuts fits every)))
      has_frame true e = elim (cases_lt next (length m.checkpoints)) [
        | inl low ↦ rw e (omega (arith, low, (cuts_least m cuts fits every)))
        | inr high ↦ absurd (no_claim_at_end (omega (arith, is.within, high)) (eqb-true (last_frame (last_of m.checkpoints)) (length m.inputs) e))
      ]

pub IsFirst-false : (m : MovieData) (number frame : ℕ) → IsMovie m → HasVerdict m (FalseCheckpoint number frame) → IsFirst m (number - 1) Differs
IsFirst-false m number frame movie is cuts fits every = IsFirstIn-false m movie cuts fits every number frame is

pub IsFirst-fault : (m : MovieData) (frame next : ℕ) (kind : FaultKind) → IsMovie m → HasVerdict m (Fault frame kind) → IsNext m next frame
    → IsFirst m next Faults
IsFirst-fault m frame next kind movie is here cuts fits every = IsFirstIn-fault m movie cuts fits every frame next kind is here
