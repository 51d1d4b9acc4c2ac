-- A run frame by frame, and the checkpoints that are made of it.
use Rattle.std.proofs.Common.{◌≡◌, ◌≢◌, ℕ, zero, suc, ◌+◌, ◌*◌, ◌/◌, ◌%◌, ◌<◌, ◌≤◌}
use Rattle.std.proofs.Common.{eqb, List, [], ◌∷◌, ◌++◌, length, Some, None}
use Rattle.std.proofs.Common.{refl, sym, subst, ◌∙◌, arith, rules}
use Rattle.std.specs.Prelude.{◌&&◌, nat_le, slice_get, IfSome, IsTrue}
use Rattle.std.specs.List.{AllByRecursion}
use Rattle.std.proofs.lemmas.Bool.{and_from, and_parts, cases_Bool, cond_both, eqb-true, eqb-false, le-leb, leb-true}
use Rattle.std.proofs.Common.{inl, inr}
use Rattle.std.proofs.lemmas.Bool.Decides.{nat_tests}
use Rattle.std.proofs.lemmas.List.{append-nil, length-append}
use Rattle.std.proofs.lemmas.Nat.{le-div, div_below, div-add-mod', div-mul-add, mod_below}
use Rattle.std.proofs.Common.{◌-◌}
use Rattle.std.proofs.Math.Nat.{div-mul-le_self, add-mul, mul_comm}
use Rattle.vcs_machine.specs.Inputs.{InputData, is_input}
use Rattle.cart_board.specs.Board.{has_length}
use Rattle.cart_board.specs.Boards.{IsBoard}
use Rattle.movie_machine.proofs.CartLemmas.{few_bytes}
use Rattle.movie_machine.specs.Carts.{IsCart, board_of, bytes_of, rules_of}
use Rattle.movie_machine.specs.States.{state_at_power_on}
use Rattle.movie_machine.specs.declared.cart.Cart.{Cart}
use Rattle.movie_machine.specs.declared.cart.Cart.TheVariants.{Guide as GuideCart, Chip as ChipCart}
use Rattle.movie_machine.specs.declared.state.State.{State}
use Rattle.movie_file.specs.declared.checkpoint.Checkpoint.{Checkpoint}
use Rattle.movie_file.specs.declared.error.MakeError.{MakeError}
use Rattle.movie_file.specs.declared.error.MakeError.TheVariants.{Fault, BadCounts}
use Rattle.refused.specs.declared.Refused.{Refused}
use Rattle.refused.specs.declared.Refused.TheVariants.{NoMemory, Of}
use Rattle.movie_file.specs.Format.{is_version, rules_by, takes_cart, most_frames, most_checkpoints}
use Rattle.movie_file.specs.Judgement.{AllSound, IsGenuine}
use Rattle.movie_file.specs.Making.{bare, counts_fit, version_made, Explains, IsMadeOf}
use Rattle.movie_file.specs.ClaimedStates.{checkpoint_if, Claims}
use Rattle.movie_file.specs.Private.MakingSteps.{RunFails}
use Rattle.movie_file.specs.Movie.{MovieData, IsMovie, IsStateOf, AreCheckpoints}
use Rattle.movie_file.specs.Run.{run}
use Rattle.movie_file.proofs.RunLemmas.{run_same}

-- ---- multiples

-- at a multiple the quotient goes up by one, and else it stays
pub next_multiple : (every k : ℕ) → 1 ≤ every → (k + 1) % every ≡ 0 → ((k + 1) / every ≡ k / every + 1) × (k + 1 ≡ every * (k / every + 1))
next_multiple every k some h =
    let p = (k + 1) / every in
    let q = k / every in
    let exact : p * every ≡ k + 1 = omega (arith, div-add-mod' (k + 1) every) in
    let more : q < p = div_below k every p some (omega arith) in
    let most : p < q + 2 = div_below (k + 1) every (q + 2) some (omega (arith, add-mul q 2 every, div-add-mod' k every, mod_below k every some)) in
    let is : p ≡ q + 1 = omega arith in
    (is, rw (← is) (omega (arith, mul_comm p every)))

pub no_multiple : (every k : ℕ) → 1 ≤ every → (k + 1) % every ≢ 0 → (k + 1) / every ≡ k / every
no_multiple every k some h =
    let p = (k + 1) / every in
    let r = (k + 1) % every in
    let below : p * every + (r - 1) ≡ k = omega (arith, div-add-mod' (k + 1) every) in
    sym (rw below at (div-mul-add p every (r - 1) (omega (arith, mod_below (k + 1) every some))))

pub has_room : (every k n count capacity : ℕ) → 1 ≤ every → count ≡ k / every → k < n → n / every ≤ capacity → (k + 1) % every ≡ 0 → count < capacity
has_room every k n count capacity some is less room h =
    let more = le-div ((k + 1) / every) n every some (omega (arith, div-mul-le_self (k + 1) every)) in omega (arith, (next_multiple every k some h).0)

pub counts_are : (n every : ℕ) → IsTrue (counts_fit n every) → (1 ≤ n) × (n ≤ most_frames 2) × (1 ≤ every) × (n / every ≤ most_checkpoints)
counts_are n every h = search rules

-- ---- one checkpoint more

-- what holds of each of a list and of one more holds of each of both
pub each_more : (P : ℕ → Checkpoint → Type 0) (cs : List Checkpoint) (d : Checkpoint) → ((j : ℕ) (c : Checkpoint) → slice_get cs j ≡ Some c → P j c)
    → P (length cs) d
    → (j : ℕ) (c : Checkpoint) → slice_get (cs ++ d ∷ []) j ≡ Some c → P j c
each_more P [] d each here zero c e = let same : d ≡ c = cc in subst (P 0) same here
each_more P [] d each here (suc j) c e = absurd cc
each_more P (b ∷ cs) d each here zero c e = each zero c e
each_more P (b ∷ cs) d each here (suc j) c e = each_more (λ (i : ℕ). P (suc i)) cs d (λ i x at. each (suc i) x at) here j c e

pub Claims-next : (m : MovieData) (from every k : ℕ) (cs ds : List Checkpoint) (new : State) → 1 ≤ every → Claims m from every k cs
    → run m m.start 0 (from + (k + 1)) ≡ Some new
    → ds ≡ cs ++ checkpoint_if every (k + 1) new → ((k + 1) % every ≡ 0 → IsStateOf m.cartridge new) → Claims m from every (k + 1) ds
Claims-next m from every k cs ds new some far ran ds-is lawful =
    elim (cases_Bool (eqb ((k + 1) % every) 0)) [
      | inl e ↦
          let multiple : (k + 1) % every ≡ 0 = eqb-true _ _ e in
          let next = next_multiple every k some multiple in
          let d : Checkpoint = record { frame = k + 1; state = new } in
          rw (ds-is, e) (record {
            count = omega (arith, length-append cs (d ∷ []), far.count, next.0);
            places = each_more (λ (j : ℕ) (c : Checkpoint). c.frame ≡ every * (j + 1)) cs d far.places (rw far.count next.1);
            states = each_more (λ (j : ℕ) (c : Checkpoint). run m m.start 0 (from + c.frame) ≡ Some c.state) cs d far.states ran;
            lawful = each_more (λ (j : ℕ) (c : Checkpoint). IsStateOf m.cartridge c.state) cs d far.lawful (lawful multiple);
          })
      | inr e ↦
          let same = sym (no_multiple every k some (eqb-false _ _ e)) in
          rw (ds-is, e, append-nil) (record { count = far.count ∙ same; places = far.places; states = far.states; lawful = far.lawful })
    ]

pub Claims-none : (m : MovieData) (from every : ℕ) → Claims m from every 0 []
Claims-none m from every = record { count = omega arith; places = λ j c e. absurd cc; states = λ j c e. absurd cc; lawful = λ j c e. absurd cc }

-- ---- the movie

abbrev pub parts : ℕ → Cart → State → List InputData → List Checkpoint → MovieData
parts version cartridge start inputs checkpoints = record { version = version; cartridge = cartridge; start = start; inputs = inputs; checkpoints = checkpoints }

-- a movie has a version that takes its cartridge and its frames
pub record Fits (number : ℕ) (cartridge : Cart) (frames : ℕ) : Type 0 where
  pub version : IsTrue (is_version number)
  pub rules : rules_of cartridge ≡ rules_by number
  pub takes : IsTrue (takes_cart number (board_of cartridge) (length (bytes_of cartridge)))
  pub few : frames ≤ most_frames number

pub version_fits : (cartridge : Cart) (frames : ℕ) → IsCart cartridge → frames ≤ most_frames 2 → Fits (version_made cartridge frames) cartridge frames
version_fits (GuideCart bytes) frames lawful few =
    let old = takes_cart 1 None (length bytes) in
    let short = nat_le frames (most_frames 1) in
    cond_both (old && short) 1 2 (λ (v : ℕ). Fits v (GuideCart bytes) frames)
    (λ fits. let parts = and_parts old short fits in
    record { version = refl; rules = refl; takes = parts.0; few = leb-true frames (most_frames 1) parts.1 })
    (λ _. record { version = refl; rules = refl; takes = grind (arith, nat_tests); few = few })
version_fits (ChipCart cartridge) frames lawful few =
    let bytes = length cartridge.bytes in
    let most = le-leb bytes 524288 (few_bytes cartridge.row bytes lawful.0 lawful.1) in
    record { version = refl; rules = refl; takes = and_from (has_length cartridge.row bytes) (nat_le bytes 524288) lawful.1 most; few = few }

-- the board of a cartridge is one of the table
pub board_is : (cartridge : Cart) → IsCart cartridge → IfSome (board_of cartridge) IsBoard
board_is (GuideCart bytes) lawful = tt
board_is (ChipCart cartridge) lawful = lawful.0

-- checkpoints at multiples rise
rising : (cartridge : Cart) (every n b last : ℕ) (cs : List Checkpoint) → 1 ≤ every → last ≤ every * b
    → ((j : ℕ) (c : Checkpoint) → slice_get cs j ≡ Some c → c.frame ≡ every * (b + j + 1))
    → ((j : ℕ) (c : Checkpoint) → slice_get cs j ≡ Some c → IsStateOf cartridge c.state) → every * (b + length cs) ≤ n → AreCheckpoints cartridge last n cs
rising cartridge every n b last [] some low places lawful fits = tt
rising cartridge every n b last (d ∷ cs) some low places lawful fits =
    let first : d.frame ≡ every * (b + 0 + 1) = places 0 d refl in
    let next = λ (j : ℕ) (c : Checkpoint) (e : slice_get cs j ≡ Some c). lawful (suc j) c e in
    let later = rising cartridge every n (b + 1) d.frame cs some (omega (arith, first)) (λ j c e. omega (arith, places (suc j) c e)) next (omega arith) in
    (omega arith, omega arith, lawful 0 d refl, later)

module _ (m : MovieData) (from every version : ℕ) (cartridge : Cart) (start : State) (inputs : List InputData) (cs : List Checkpoint)
    (cartridge_is : cartridge ≡ m.cartridge) (version_is : version ≡ version_made cartridge (length inputs))
    (fits : IsTrue (counts_fit (length inputs) every)) (far : Claims m from every (length inputs) cs) where
  claims_rise : AreCheckpoints m.cartridge 0 (length inputs) cs
  claims_rise =
      rising m.cartridge every (length inputs) 0 0 cs (counts_are (length inputs) every fits).2 (omega arith)
      (λ j c e. omega (arith, far.places j c e)) far.lawful (rw far.count (omega arith))

  -- the parts make a movie
  pub IsMovie-parts : IsCart cartridge → IsStateOf cartridge start → AllByRecursion (λ i. IsTrue (is_input i)) inputs
      → IsMovie (parts version cartridge start inputs cs)
  IsMovie-parts lawful state all =
      let fit = counts_are (length inputs) every fits in
      let made : Fits (version_made cartridge (length inputs)) cartridge (length inputs) = version_fits cartridge (length inputs) lawful fit.1 in
      record {
        version = rw version_is made.version;
        rules = rw version_is made.rules;
        board = board_is cartridge lawful;
        cartridge = rw version_is made.takes;
        start = state;
        some_frames = fit.0;
        few_frames = rw version_is made.few;
        few_checkpoints = omega (arith, far.count, fit.3);
        inputs = all;
        checkpoints = rw cartridge_is claims_rise;
      }

-- the movie that is made, of a run without a fault
pub made_movie : (cartridge : Cart) (inputs : List InputData) (every : ℕ) (cs : List Checkpoint) → IsTrue (counts_fit (length inputs) every)
    → AllSound (bare cartridge inputs) (state_at_power_on cartridge) 0 (length inputs) → Claims (bare cartridge inputs) 0 every (length inputs) cs
    → IsStateOf cartridge (state_at_power_on cartridge) → AllByRecursion (λ i. IsTrue (is_input i)) inputs
    → let m : MovieData = record (bare cartridge inputs) { checkpoints = cs } in
    IsMadeOf cartridge inputs every m × IsGenuine m × (IsCart cartridge → IsMovie m)
made_movie cartridge inputs every cs fit sound far state all =
    let m : MovieData = record (bare cartridge inputs) { checkpoints = cs } in
    let same = λ (k : ℕ). run_same m (bare cartridge inputs) m.start 0 k refl refl in
    let claimed = λ (j : ℕ) (c : Checkpoint) (e : slice_get cs j ≡ Some c).
    let none : 0 + c.frame ≡ c.frame = omega arith in same c.frame ∙ rw none at (far.states j c e) in (
      record { version = refl; cartridge_is = refl; start = refl; inputs_are = refl; count = far.count; places = far.places; states = claimed },
      λ i less. let here = sound i less in (
        here.0,
        same (i + 1) ∙ here.1,
        λ j c e place. let frame : c.frame ≡ i + 1 = omega arith in let claim = rw frame at (claimed j c e) in let ran = here.1 in cc,
      ),
      λ lawful. IsMovie-parts (bare cartridge inputs) 0 every m.version cartridge m.start inputs cs refl refl fit far lawful state all,
    )

-- why a run stopped is why no movie is made
pub explains : (cartridge : Cart) (inputs : List InputData) (every : ℕ) (e : Refused MakeError) → IsTrue (counts_fit (length inputs) every)
    → RunFails cartridge inputs e → Explains cartridge inputs every e
explains cartridge inputs every (Of (Fault frame kind)) fit fails = (fit, fails)
explains cartridge inputs every (Of BadCounts) fit fails = absurd fails
explains cartridge inputs every NoMemory fit refused = (fit, inr refused)
