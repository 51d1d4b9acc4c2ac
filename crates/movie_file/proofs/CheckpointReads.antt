-- The checkpoints that are read are spelled so, and what is spelled so is read.
use Rattle.std.proofs.Common.{◌≡◌, ℕ, ◌+◌, ◌*◌, ◌^◌, ◌<◌, ◌≤◌, ltb, leb, List}
use Rattle.std.proofs.Common.{[], ◌∷◌, ◌++◌, length, take, drop, Option, Some, None, Result, Ok}
use Rattle.std.proofs.Common.{refl, sym, subst, ap, ◌∙◌, arith}
use Rattle.std.specs.Prelude.{◌&&◌, IfSome, IsTrue}
use Rattle.std.specs.List.{flat_map}
use Rattle.std.specs.Option.{ok_or, option_map}
use Rattle.std.specs.Int.{w32, to_be_bytes}
use Rattle.std.proofs.lemmas.Bool.{lt-ltb, le-leb, and_parts, and_from}
use Rattle.std.proofs.lemmas.List.{take_at, length-append, length-take}
use Rattle.std.proofs.lemmas.List.{length-drop}
use Rattle.std.proofs.lemmas.List.Concat.{flat_map-cons}
use borrow.Author.Tests.{ltb-true, leb-true}
use Rattle.vcs_machine.specs.declared.fields.StateFields.{StateFields}
use Rattle.cart_board.specs.Boards.{IsBoard}
use Rattle.chip_machine.specs.States.{StateData}
use Rattle.chip_machine.specs.RecordNumbers.{recorded_state as recorded_by_chip}
use Rattle.chip_machine.specs.Record.{record_of as record_by_chip}
use Rattle.chip_machine.proofs.RecordLaws.{length-record_on, recorded_again, recorded_takes}
use Rattle.movie_machine.specs.Carts.{board_of, bytes_of, rules_of}
use Rattle.movie_machine.specs.declared.cart.Cart.{Cart}
use Rattle.movie_machine.specs.declared.cart.Cart.TheVariants.{Guide as GuideCart, Chip as ChipCart}
use Rattle.movie_machine.specs.declared.state.State.{State}
use Rattle.movie_machine.specs.declared.state.State.TheVariants.{Guide, Chip}
use Rattle.movie_file.specs.Format.{takes_cart, record_length, checkpoint_length, rules_by}
use Rattle.movie_file.specs.declared.error.MovieError.{MovieError}
use Rattle.movie_file.specs.declared.error.MovieError.TheVariants.{BadState, BadOrder}
use Rattle.movie_file.specs.Record.{movie_record, state_bytes}
use Rattle.movie_file.specs.Movie.{IsStateOf, AreCheckpoints}
use Rattle.movie_file.specs.declared.checkpoint.Checkpoint.{Checkpoint}
use Rattle.movie_file.specs.Spelling.{checkpoint_bytes}
use Rattle.movie_file.specs.Record.{guide_state_at}
use Rattle.movie_file.specs.Reading.{frame_at, head_state_at, claimed_checkpoint}
use Rattle.movie_file.specs.Reading.{checkpoints_at}
use Rattle.movie_file.proofs.ByteLemmas.{IsBytes, IsBytes-take, IsBytes-drop}
use Rattle.movie_file.proofs.MovieRecords.{guide_state_takes, guide_state_again, length-movie_record}
use Rattle.movie_file.proofs.VersionLemmas.{chip_record}
use Rattle.movie_file.proofs.ReadLemmas.{bind_ok, guard_then, some_ok, ok_is, wide32}
use Rattle.movie_file.proofs.ItemLemmas.{ReadsItems, ItemsRead, items_take, items_again}
use Rattle.std.proofs.Common.{add-one}
use Rattle.std.proofs.Math.Seq.{take-add}

-- a state that is found is one by the rules of its cartridge
guide_found : (o : Option StateFields) (s : State) → option_map (λ f. Guide f) o ≡ Some s → (f : StateFields) × (o ≡ Some f) × (Guide f ≡ s)
guide_found (Some f) s e = let same : Guide f ≡ s = cc in (f, refl, same)
guide_found None s e = absurd cc

chip_found : (o : Option StateData) (s : State) → option_map (λ f. Chip f) o ≡ Some s → (f : StateData) × (o ≡ Some f) × (Chip f ≡ s)
chip_found (Some f) s e = let same : Chip f ≡ s = cc in (f, refl, same)
chip_found None s e = absurd cc

-- a cartridge in a movie of a version
pub record IsIn (version : ℕ) (cartridge : Cart) : Type 0 where
  pub rules : rules_of cartridge ≡ rules_by version
  pub board : IfSome (board_of cartridge) IsBoard

abbrev IsHead : ℕ → Cart → List ℕ → State → Type 0
IsHead version cartridge bytes s =
    IsStateOf cartridge s × (take (record_length version (board_of cartridge)) bytes ≡ state_bytes version cartridge s)

-- the state at the head of the bytes
pub head_state_takes : (version : ℕ) (cartridge : Cart) → IsIn version cartridge → (bytes : List ℕ) (s : State)
    → record_length version (board_of cartridge) ≤ length bytes → IsBytes bytes → head_state_at version cartridge bytes ≡ Some s
    → IsHead version cartridge bytes s
head_state_takes version (GuideCart cart) is bytes s long fits e =
    let n = record_length version None in
    let found = guide_found (guide_state_at version (length cart) (take n bytes)) s e in
    let taken =
    guide_state_takes version (sym is.rules) (length cart) (take n bytes) found.0 (IsBytes-take n bytes fits) (omega (arith, length-take n bytes)) found.1 in
    subst (IsHead version (GuideCart cart) bytes) found.2 taken
head_state_takes version (ChipCart cartridge) is bytes s long fits e =
    let n = record_length version (Some cartridge.row) in
    let found = chip_found (recorded_by_chip cartridge (take n bytes)) s e in
    let taken = recorded_takes cartridge (take n bytes) found.0 (IsBytes-take n bytes fits) is.board found.1 in
    subst (IsHead version (ChipCart cartridge) bytes) found.2 taken

pub length-state_bytes : (version : ℕ) (cartridge : Cart) → IsIn version cartridge → (s : State) → IsStateOf cartridge s
    → length (state_bytes version cartridge s) ≡ record_length version (board_of cartridge)
length-state_bytes version (GuideCart cart) is (Guide f) state = length-movie_record version (sym is.rules) f state.state
length-state_bytes version (ChipCart cartridge) is (Chip s) state =
    length-record_on cartridge s is.board state ∙ sym (chip_record version cartridge.row (sym is.rules))
length-state_bytes version (GuideCart cart) is (Chip s) state = absurd state
length-state_bytes version (ChipCart cartridge) is (Guide f) state = absurd state

pub head_state_again : (version : ℕ) (cartridge : Cart) → IsIn version cartridge → IsTrue (takes_cart version (board_of cartridge) (length (bytes_of cartridge)))
    → (s : State) (rest : List ℕ) → IsStateOf cartridge s → head_state_at version cartridge (state_bytes version cartridge s ++ rest) ≡ Some s
head_state_again version (GuideCart cart) is takes (Guide f) rest state =
    let head = take_at (movie_record version f) rest (record_length version None) (length-state_bytes version (GuideCart cart) is (Guide f) state) in
    rw (head, guide_state_again version (sym is.rules) (length cart) f takes state) refl
head_state_again version (ChipCart cartridge) is takes (Chip s) rest state =
    let len = length-state_bytes version (ChipCart cartridge) is (Chip s) state in
    let head = take_at (record_by_chip cartridge.row s) rest (record_length version (Some cartridge.row)) len in
    rw (head, recorded_again cartridge s is.board state) refl
head_state_again version (GuideCart cart) is takes (Chip s) rest state = absurd state
head_state_again version (ChipCart cartridge) is takes (Guide f) rest state = absurd state

-- a checkpoint is read by its number and the frame of the one before it
abbrev pub next_checkpoint : ℕ × ℕ → Checkpoint → ℕ × ℕ
next_checkpoint s c = (s.0 + 1, c.frame)

-- ---- of a movie of a version, with a cartridge and so many frames

module _ (version : ℕ) (cartridge : Cart) (frames : ℕ) where
  abbrev pub checkpoint_at : ℕ × ℕ → List ℕ → Result Checkpoint MovieError
  checkpoint_at s bytes = claimed_checkpoint version cartridge frames s.0 s.1 bytes

  abbrev pub checkpoints_from : ℕ → ℕ × ℕ → List ℕ → Result (List Checkpoint × List ℕ) MovieError
  checkpoints_from n s bytes = checkpoints_at version cartridge frames n s.0 s.1 bytes

  abbrev size : ℕ
  size = checkpoint_length version (board_of cartridge)

  abbrev spelled : Checkpoint → List ℕ
  spelled c = checkpoint_bytes version cartridge c

  abbrev AreAfter : ℕ × ℕ → List Checkpoint → Type 0
  AreAfter s cs = AreCheckpoints cartridge s.1 frames cs

  pub reads_checkpoints : ReadsItems checkpoint_at next_checkpoint size checkpoints_from
  unfolding checkpoints_at
  reads_checkpoints = record { none = λ s bytes. refl; more = λ n s bytes. rw add-one refl }

  module _ (is : IsIn version cartridge) where
    checkpoint_takes : (s : ℕ × ℕ) (bytes : List ℕ) (c : Checkpoint) → size ≤ length bytes → IsBytes bytes → checkpoint_at s bytes ≡ Ok c
        → (spelled c ≡ take size bytes) × ((cs : List Checkpoint) → AreAfter (next_checkpoint s c) cs → AreAfter s (c ∷ cs))
    unfolding claimed_checkpoint
    checkpoint_takes s bytes c long fits e =
        let f = frame_at bytes in
        let g = guard_then (ltb s.1 f && leb f frames) (BadOrder s.0) _ c e in
        let b = bind_ok (ok_or (head_state_at version cartridge (drop 4 bytes)) (BadState s.0)) _ c g.1 in
        let some = some_ok (head_state_at version cartridge (drop 4 bytes)) (BadState s.0) b.0 b.1 in
        let state = head_state_takes version cartridge is (drop 4 bytes) b.0 (omega (arith, length-drop 4 bytes)) (IsBytes-drop 4 bytes fits) some in
        let order = and_parts (ltb s.1 f) (leb f frames) g.0 in
        let prefix : to_be_bytes w32 f ≡ take 4 bytes = wide32.back (take 4 bytes) (omega (arith, length-take 4 bytes)) (IsBytes-take 4 bytes fits) in
        rw (← ok_is (record { frame = f; state = b.0 }) c b.2) (
          ap (λ (w : List ℕ). w ++ state_bytes version cartridge b.0) prefix
              ∙ rw (← state.1) (sym (take-add 4 (record_length version (board_of cartridge)) bytes)),
          λ cs after. (ltb-true _ _ order.0, leb-true _ _ order.1, state.0, after),
        )

    pub checkpoints_take : (n : ℕ) (s : ℕ × ℕ) (bytes : List ℕ) (x : List Checkpoint × List ℕ) → size * n ≤ length bytes → IsBytes bytes
        → checkpoints_from n s bytes ≡ Ok x → ItemsRead spelled (AreAfter s) size n bytes x
    checkpoints_take = items_take reads_checkpoints spelled AreAfter (λ s. tt) checkpoint_takes

    length-checkpoint : (c : Checkpoint) → IsStateOf cartridge c.state → length (spelled c) ≡ size
    length-checkpoint c h = omega (arith, length-state_bytes version cartridge is c.state h)

    pub checkpoints_again : IsTrue (takes_cart version (board_of cartridge) (length (bytes_of cartridge))) → frames < 2 ^ 32 → (s : ℕ × ℕ)
        (cs : List Checkpoint) (rest : List ℕ) → AreAfter s cs → checkpoints_from (length cs) s (flat_map spelled cs ++ rest) ≡ Ok (cs, rest)
    unfolding claimed_checkpoint
    checkpoints_again takes small =
        items_again reads_checkpoints spelled AreAfter (λ s c cs rest each.
        let order : IsTrue (ltb s.1 c.frame && leb c.frame frames) = and_from _ _ (lt-ltb s.1 c.frame each.0) (le-leb c.frame frames each.1) in
        let frame = wide32.again c.frame (omega arith) in
        (rw (frame, order, head_state_again version cartridge is takes c.state rest each.2) refl, length-checkpoint c each.2, each.3))

    pub length-checkpoints : (cs : List Checkpoint) (last : ℕ) → AreCheckpoints cartridge last frames cs → length (flat_map spelled cs) ≡ size * length cs
    length-checkpoints [] last each = omega arith
    length-checkpoints (c ∷ cs) last each =
        let first = length-checkpoint c each.2 in
        let others = length-checkpoints cs c.frame each.3 in
        ap length (flat_map-cons spelled c cs) ∙ omega (arith, first, others, length-append (spelled c) (flat_map spelled cs))
