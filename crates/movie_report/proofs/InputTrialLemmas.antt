-- Runs in which the input of one frame is left out or played twice.
use Rattle.std.proofs.Common.{◌≡◌, ◌≢◌, ℕ, zero, suc, ◌+◌, ◌-◌, ◌<◌, ◌≤◌, List, [], ◌∷◌, ◌++◌, length, take, drop, find, cond, Bool, true, false, IsSome, Option, Some, None}
use Rattle.std.proofs.Common.{slice_get, refl, sym, ap, ◌∙◌, arith, add-zero, append-nil, length-take-le}
use Rattle.std.proofs.lemmas.List.Folds.{find-append}
use Rattle.std.proofs.lemmas.Option.{slice_get_within}
use Rattle.std.specs.Option.{option_or}
use Rattle.std.specs.Prelude.{option_and_then}
use Rattle.vcs_machine.specs.Inputs.{InputData}
use Rattle.vcs_machine.specs.declared.fault.FaultKind.{FaultKind}
use Rattle.movie_machine.specs.declared.state.State.{State}
use Rattle.movie_file.specs.Judgement.{FaultsAt}
use Rattle.movie_file.specs.Movie.{MovieData, IsMovie}
use Rattle.movie_file.specs.Run.{frame_after, run, state_after}
use Rattle.movie_file.specs.declared.checkpoint.Checkpoint.{Checkpoint}
use Rattle.movie_file.proofs.RunLemmas.{run-shift}
use Rattle.run_cursor.proofs.CursorLemmas.{none_after}
use Rattle.replay_segments.specs.Verdicts.{HasVerdict}
use Rattle.replay_segments.specs.declared.verdict.Verdict.TheVariants.{FalseCheckpoint}
use Rattle.replay_segments.proofs.CheckpointLemmas.{frames_rise}
use Rattle.replay_segments.proofs.ListLemmas.{slice_get-below}
use Rattle.replay_segments.proofs.RunStateLemmas.{claim_of_sound}
use Rattle.movie_report.specs.ClaimPlace.{is_state}
use Rattle.movie_report.specs.InputTrials.{frame_before, leads_to, trials_after, trials_at, trials_of}
use Rattle.movie_report.specs.declared.input_trials.Change.{Change}
use Rattle.movie_report.specs.declared.input_trials.Change.TheVariants.{LeftOut, Twice}
use Rattle.movie_report.specs.declared.input_trials.Trial.{Trial}

-- ---- elements of lists

-- The first elements of a list,
taken : {A : Type 0} (xs ys : List A) (i n : ℕ) → i ≤ length xs → n < i → slice_get (take i xs ++ ys) n ≡ slice_get xs n
taken [] ys i n le less = absurd (omega arith)
taken (x ∷ xs) ys zero n le less = absurd (omega arith)
taken (x ∷ xs) ys (suc i) zero le less = refl
taken (x ∷ xs) ys (suc i) (suc n) le less = taken xs ys i n (omega arith) (omega arith)

-- those that follow them,
following : {A : Type 0} (xs ys : List A) (i n k : ℕ) → i ≤ length xs → k ≡ i + n → slice_get (take i xs ++ ys) k ≡ slice_get ys n
following xs ys zero n k le is = let same : k ≡ n = omega arith in rw same refl
following [] ys (suc i) n k le is = absurd (omega arith)
following (x ∷ xs) ys (suc i) n zero le is = absurd (omega arith)
following (x ∷ xs) ys (suc i) n (suc k) le is = following xs ys i n k (omega arith) (omega arith)

-- and those after the first.
left : {A : Type 0} (xs : List A) (j n k : ℕ) → k ≡ j + n → slice_get (drop j xs) n ≡ slice_get xs k
left xs zero n k is = let same : k ≡ n = omega arith in rw same refl
left [] (suc j) n k is = refl
left (x ∷ xs) (suc j) n zero is = absurd (omega arith)
left (x ∷ xs) (suc j) n (suc k) is = left xs j n k (omega arith)

-- ---- runs

-- Where inputs are the same runs are.
run_alike : (m n : MovieData) (s : State) (a b k : ℕ) → m.cartridge ≡ n.cartridge
    → ((i : ℕ) → i < k → slice_get m.inputs (a + i) ≡ slice_get n.inputs (b + i)) → run m s a k ≡ run n s b k
run_alike m n s a b zero cartridge inputs = refl
run_alike m n s a b (suc k) cartridge inputs =
    rw (run_alike m n s a b k cartridge (λ i less. inputs i (omega arith)), cartridge, inputs k (omega arith)) refl

-- A run that has the inputs of the first i frames, and then those from frame j + 1 on, goes on as if it stood after frame j.
spliced : (m : MovieData) (s : State) (i j k : ℕ) → i ≤ length m.inputs → run m m.start 0 i ≡ Some s
    → run (record m { inputs = take i m.inputs ++ drop j m.inputs }) m.start 0 (i + k) ≡ run m s j k
spliced m s i j k within ran =
    let n : MovieData = record m { inputs = take i m.inputs ++ drop j m.inputs } in
    let first : run n m.start 0 i ≡ Some s =
    run_alike n m m.start 0 0 i refl (λ x less. taken m.inputs (drop j m.inputs) i (0 + x) within (omega arith)) ∙ ran in
    run-shift n m.start 0 i s first k
    ∙ run_alike n m s (0 + i) j k refl
    (λ x less. following m.inputs (drop j m.inputs) i x (0 + i + x) within (omega arith) ∙ left m.inputs j x (j + x) refl)

spliced_to : (m : MovieData) (s : State) (i j k to : ℕ) → i ≤ length m.inputs → run m m.start 0 i ≡ Some s → to ≡ i + k
    → run (record m { inputs = take i m.inputs ++ drop j m.inputs }) m.start 0 to ≡ run m s j k
spliced_to m s i j k to within ran is = rw is (spliced m s i j k within ran)

-- The trials of a frame.
pub left_out_trials : (m : MovieData) (state s : State) (frame last : ℕ) → 0 < frame → frame ≤ last → last ≤ length m.inputs
    → run m m.start 0 (frame - 1) ≡ Some s
    → find (leads_to m state) (trials_of last LeftOut frame)
    ≡ cond (is_state m.cartridge state (run m s frame (last - frame))) (Some (record { change = LeftOut; frame = frame; after = last - 1 }))
    (cond (is_state m.cartridge state (run m s frame (last - frame + 1))) (Some (record { change = LeftOut; frame = frame; after = last - 1 + 1 })) None)
left_out_trials m state s frame last low order within ran =
    let whole : last - 1 + 1 ≡ last = omega arith in
    rw (
      whole,
      spliced_to m s (frame - 1) frame (last - frame) (last - 1) (omega arith) ran (omega arith),
      spliced_to m s (frame - 1) frame (last - frame + 1) last (omega arith) ran (omega arith),
    )
    refl

pub twice_trials : (m : MovieData) (state s : State) (frame last : ℕ) → 0 < frame → frame ≤ last → last ≤ length m.inputs
    → run m m.start 0 frame ≡ Some s
    → find (leads_to m state) (trials_of last Twice frame)
    ≡ cond (is_state m.cartridge state (run m s (frame - 1) (last - 1 - (frame - 1)))) (Some (record { change = Twice; frame = frame; after = last }))
    (cond (is_state m.cartridge state (run m s (frame - 1) (last - 1 - (frame - 1) + 1))) (Some (record { change = Twice; frame = frame; after = last + 1 })) None)
twice_trials m state s frame last low order within ran =
    rw (
      spliced_to m s frame (frame - 1) (last - 1 - (frame - 1)) last (omega arith) ran (omega arith),
      spliced_to m s frame (frame - 1) (last - 1 - (frame - 1) + 1) (last + 1) (omega arith) ran (omega arith),
    )
    refl

-- A frame is first left out, then played twice.
pub of_frame : (m : MovieData) (state : State) (last frame : ℕ) → find (leads_to m state) (trials_at last frame)
    ≡ option_or (find (leads_to m state) (trials_of last LeftOut frame)) (find (leads_to m state) (trials_of last Twice frame))
of_frame m state last frame = find-append (leads_to m state) (trials_of last LeftOut frame) (trials_of last Twice frame)

-- ---- frame by frame

-- The next frame's trials come first,
pub next_trials : (m : MovieData) (state : State) (last before : ℕ) → before < last
    → find (leads_to m state) (trials_after last before)
    ≡ option_or (find (leads_to m state) (trials_at last (before + 1))) (find (leads_to m state) (trials_after last (before + 1)))
next_trials m state last before less =
    let more : last - before ≡ suc (last - (before + 1)) = omega arith in
    rw more (find-append (leads_to m state) (trials_at last (before + 1)) (trials_after last (before + 1)))

-- so a trial of that is the first,
pub found_next : (m : MovieData) (state : State) (last before : ℕ) (t : Trial) → before < last
    → Some t ≡ find (leads_to m state) (trials_at last (before + 1)) → find (leads_to m state) (trials_after last before) ≡ Some t
found_next m state last before t less here =
    next_trials m state last before less
    ∙ ap (λ (o : Option Trial). option_or o (find (leads_to m state) (trials_after last (before + 1)))) (sym here)

-- or one of those that follow it is;
pub found_later : (m : MovieData) (state : State) (last before : ℕ) → before < last → None ≡ find (leads_to m state) (trials_at last (before + 1))
    → find (leads_to m state) (trials_after last before) ≡ find (leads_to m state) (trials_after last (before + 1))
found_later m state last before less here =
    next_trials m state last before less
    ∙ ap (λ (o : Option Trial). option_or o (find (leads_to m state) (trials_after last (before + 1)))) (sym here)

-- and after the last frame there is none.
pub no_trials : (m : MovieData) (state : State) (last : ℕ) → find (leads_to m state) (trials_after last last) ≡ None
no_trials m state last = let none : last - last ≡ 0 = omega arith in rw none refl

-- Two frames with the same input make the same lists,
left_out_alike : {A : Type 0} (xs : List A) (i : ℕ) (x : A) → slice_get xs i ≡ Some x → slice_get xs (suc i) ≡ Some x
    → take (suc i) xs ++ drop (suc (suc i)) xs ≡ take i xs ++ drop (suc i) xs
left_out_alike [] i x here next = cc
left_out_alike (y ∷ []) zero x here next = cc
left_out_alike (y ∷ z ∷ xs) zero x here next = let same : y ≡ z = cc in rw same refl
left_out_alike (y ∷ ys) (suc i) x here next = rw (left_out_alike ys i x here next) refl

twice_alike : {A : Type 0} (xs : List A) (i : ℕ) (x : A) → slice_get xs i ≡ Some x → slice_get xs (suc i) ≡ Some x
    → take (suc (suc i)) xs ++ drop (suc i) xs ≡ take (suc i) xs ++ drop i xs
twice_alike [] i x here next = cc
twice_alike (y ∷ []) zero x here next = cc
twice_alike (y ∷ z ∷ xs) zero x here next = let same : y ≡ z = cc in rw same refl
twice_alike (y ∷ ys) (suc i) x here next = rw (twice_alike ys i x here next) refl

-- so where no trial of the first leads to a state none of the second does.
one_alike : {A : Type 0} (test : A → Bool) (x y : A) (xs ys : List A) → test y ≡ test x → (find test xs ≡ None → find test ys ≡ None)
    → find test (x ∷ xs) ≡ None → find test (y ∷ ys) ≡ None
one_alike test x y xs ys same others none = rw same (by (test x) none)
  where
    by : (b : Bool) → cond b (Some x) (find test xs) ≡ None → cond b (Some y) (find test ys) ≡ None
    by true e = cc
    by false e = others e

four_alike : {A : Type 0} (test : A → Bool) (a b c d w x y z : A) → test w ≡ test a → test x ≡ test b → test y ≡ test c → test z ≡ test d
    → find test (a ∷ b ∷ c ∷ d ∷ []) ≡ None → find test (w ∷ x ∷ y ∷ z ∷ []) ≡ None
four_alike test a b c d w x y z first second third fourth =
    one_alike test a w (b ∷ c ∷ d ∷ []) (x ∷ y ∷ z ∷ []) first
    (one_alike test b x (c ∷ d ∷ []) (y ∷ z ∷ []) second (one_alike test c y (d ∷ []) (z ∷ []) third (one_alike test d z [] [] fourth (λ e. refl))))

abbrev trial : Change → ℕ → ℕ → Trial
trial change frame after = record { change = change; frame = frame; after = after }

left_out_leads : (m : MovieData) (state : State) (i after : ℕ) (x : InputData) → slice_get m.inputs i ≡ Some x → slice_get m.inputs (suc i) ≡ Some x
    → leads_to m state (trial LeftOut (suc (suc i)) after) ≡ leads_to m state (trial LeftOut (suc i) after)
left_out_leads m state i after x here next =
    let more : suc (suc i) - 1 ≡ suc i = omega arith in
    let at : suc i - 1 ≡ i = omega arith in
    rw (more, at, left_out_alike m.inputs i x here next) refl

twice_leads : (m : MovieData) (state : State) (i after : ℕ) (x : InputData) → slice_get m.inputs i ≡ Some x → slice_get m.inputs (suc i) ≡ Some x
    → leads_to m state (trial Twice (suc (suc i)) after) ≡ leads_to m state (trial Twice (suc i) after)
twice_leads m state i after x here next =
    let more : suc (suc i) - 1 ≡ suc i = omega arith in
    let at : suc i - 1 ≡ i = omega arith in
    rw (more, at, twice_alike m.inputs i x here next) refl

pub none_alike : (m : MovieData) (state : State) (last frame : ℕ) → 0 < frame → frame < length m.inputs
    → slice_get m.inputs frame ≡ slice_get m.inputs (frame - 1) → find (leads_to m state) (trials_at last frame) ≡ None
    → find (leads_to m state) (trials_at last (frame + 1)) ≡ None
none_alike m state last zero low less same none = absurd (omega arith)
none_alike m state last (suc i) low less same none =
    let (x, next) = slice_get-below m.inputs (suc i) less in
    let at : suc i - 1 ≡ i = omega arith in
    let further : suc i + 1 ≡ suc (suc i) = omega arith in
    let here : slice_get m.inputs i ≡ Some x = sym (rw at at same) ∙ next in
    rw further
    (four_alike (leads_to m state) (trial LeftOut (suc i) (last - 1)) (trial LeftOut (suc i) last) (trial Twice (suc i) last) (trial Twice (suc i) (last + 1))
    (trial LeftOut (suc (suc i)) (last - 1)) (trial LeftOut (suc (suc i)) last) (trial Twice (suc (suc i)) last) (trial Twice (suc (suc i)) (last + 1))
    (left_out_leads m state i (last - 1) x here next) (left_out_leads m state i last x here next)
    (twice_leads m state i last x here next) (twice_leads m state i (last + 1) x here next) none)

-- A run that comes to the end of a frame faults in none before.
pub no_fault : (m : MovieData) (k last : ℕ) (kind : FaultKind) → k < last → IsSome (run m m.start 0 last) → FaultsAt m m.start 0 k kind → ⊥
no_fault m k last kind less ends fault =
    let no : IsSome {T = State} None = rw (none_after m k last kind fault less) at ends in cc

-- The state after the next frame.
pub next_state : (m : MovieData) (s t : State) (from before : ℕ) → from ≤ before → run m s from (before - from) ≡ Some t
    → run m s from (before + 1 - from) ≡ state_after (frame_after m before t)
next_state m s t from before le is =
    let more : before + 1 - from ≡ suc (before - from) = omega arith in
    let at : from + (before - from) ≡ before = omega arith in
    rw (more, is, at) refl

-- The same after so many frames.
pub one_more : (m : MovieData) (s : State) (from to : ℕ) → from ≤ to
    → run m s from (to - from + 1) ≡ option_and_then (λ (t : State). state_after (frame_after m to t)) (run m s from (to - from))
one_more m s from to le =
    let more : to - from + 1 ≡ suc (to - from) = omega arith in
    let at : from + (to - from) ≡ to = omega arith in
    rw (more, at) refl

-- After a frame that doesn't end there is no state.
pub no_more : (m : MovieData) (s : State) (from k n : ℕ) → k ≤ n → run m s from k ≡ None → run m s from n ≡ None
no_more m s from k n le none = let whole : k + (n - k) ≡ n = omega arith in rw whole at (later (n - k))
  where
    later : (d : ℕ) → run m s from (k + d) ≡ None
    later zero = rw add-zero none
    later (suc d) = let more : k + suc d ≡ suc (k + d) = omega arith in rw (more, later d) refl

-- ---- before the first false claim

-- The run is in the claim before, which stands before that.
pub before_false : (m : MovieData) (number last : ℕ) (c : Checkpoint) → IsMovie m → HasVerdict m (FalseCheckpoint number last) → number ≢ 1
    → slice_get m.checkpoints (number - 1 - 1) ≡ Some c
    → (frame_before m number ≡ c.frame) × (c.frame < last) × (c.frame ≤ length m.inputs) × (run m m.start 0 c.frame ≡ Some c.state)
before_false m number last c movie (keep, (k, less, at, sound, (state, j, d, ran, num, here, after, ne))) other before =
    let within = slice_get_within m.checkpoints j d here in
    let low : number - 1 - 1 < j = omega arith in
    let rises = frames_rise m movie (number - 1 - 1) j c d low before here in
    let count : length (take (number - 1) m.checkpoints) ≡ number - 1 = length-take-le (number - 1) m.checkpoints (omega arith) in
    let there : slice_get (take (number - 1) m.checkpoints) (number - 1 - 1) ≡ Some c =
    rw append-nil at (taken m.checkpoints [] (number - 1) (number - 1 - 1) (omega arith) (omega arith)) ∙ before in
    let sooner : c.frame ≤ k = omega arith in
    (rw (count, there) refl, omega arith, omega arith, claim_of_sound m k (number - 1 - 1) c movie sound before sooner)

-- It comes to the frame of the first false claim.
pub false_ends : (m : MovieData) (number last : ℕ) → HasVerdict m (FalseCheckpoint number last) → (last ≤ length m.inputs) × IsSome (run m m.start 0 last) × (0 < last)
false_ends m number last (keep, (k, less, at, sound, (state, j, d, ran, num, here, after, ne))) =
    let same : last ≡ k + 1 = omega (arith, at) in (omega (arith, less, same), rw (same, ran) refl, omega (arith, same))
