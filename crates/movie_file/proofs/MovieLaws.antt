-- What is read is spelled so, and what is spelled so is read.
use Rattle.std.proofs.Common.{◌≡◌, ℕ, ◌+◌, ◌*◌, ◌^◌, ◌<◌, ◌≤◌, eqb, List, [], ◌++◌, length, Option, Some, None}
use Rattle.std.proofs.Common.{take, drop, Ok, refl, sym, subst, ap, ◌∙◌}
use Rattle.std.proofs.Common.{append_assoc, arith}
use Rattle.std.specs.Prelude.{IfSome, IsTrue}
use Rattle.std.specs.List.{AllByRecursion, flat_map}
use Rattle.std.specs.Option.{ok_or}
use Rattle.std.proofs.lemmas.Bool.{eqb-true}
use Rattle.std.proofs.lemmas.List.{append-nil, nil_from_length, take_at, drop_at, length-append}
use Rattle.std.proofs.lemmas.List.{length-take, length-drop, take-append-drop}
use Rattle.cart_board.specs.Board.{Row}
use Rattle.cart_board.specs.Boards.{IsBoard}
use Rattle.movie_machine.specs.Carts.{board_of, bytes_of, cart_on, rules_of, rules_on}
use Rattle.movie_machine.specs.declared.cart.Cart.{Cart}
use Rattle.movie_machine.specs.declared.cart.Cart.TheVariants.{Guide as GuideCart, Chip as ChipCart}
use Rattle.movie_machine.specs.declared.state.State.{State}
use Rattle.vcs_machine.specs.Inputs.{InputData, input_bytes, is_input}
use Rattle.movie_file.specs.Format.{checkpoint_length, input_length, record_length, rules_by}
use Rattle.movie_file.specs.Sizes.{SizesData}
use Rattle.movie_file.specs.declared.error.MovieError.TheVariants.{BadState, Trailing}
use Rattle.movie_file.specs.Record.{state_bytes}
use Rattle.movie_file.specs.Movie.{AreCheckpoints, IsStateOf, MovieData}
use Rattle.movie_file.specs.Spelling.{header_of, checkpoint_bytes, spelling, Spells}
use Rattle.movie_file.specs.Reading.{sizes_at, inputs_at, head_state_at, checkpoints_at}
use Rattle.movie_file.specs.Reading.{body_length, movie_at, rest_at}
use Rattle.movie_file.proofs.ByteLemmas.{IsBytes, IsBytes-drop}
use Rattle.movie_file.proofs.VersionLemmas.{most_frames-most}
use Rattle.movie_file.proofs.ReadLemmas.{bind_ok, guard_then, some_ok, ok_is}
use Rattle.movie_file.proofs.HeaderLemmas.{Sized, sizes_are, sizes_header, sizes_take, sizes_again}
use Rattle.movie_file.proofs.InputLemmas.{inputs_take, inputs_again, length-inputs}
use Rattle.movie_file.proofs.CheckpointReads.{IsIn, head_state_takes, head_state_again, checkpoints_take}
use Rattle.movie_file.proofs.CheckpointReads.{checkpoints_again, length-checkpoints, length-state_bytes}
use Rattle.movie_file.proofs.MakingRuns.{parts}
use Rattle.movie_file.specs.declared.checkpoint.Checkpoint.{Checkpoint}

-- what stands after the cartridge, and after the header
abbrev after_of : MovieData → List ℕ
after_of m =
    state_bytes m.version m.cartridge m.start ++ (flat_map input_bytes m.inputs ++ flat_map (checkpoint_bytes m.version m.cartridge) m.checkpoints)

abbrev body_of : MovieData → List ℕ
body_of m = bytes_of m.cartridge ++ after_of m

spelling_parts : (m : MovieData) → spelling m ≡ header_of m ++ body_of m
spelling_parts m = simp append_assoc

-- ---- a cartridge by its board and its bytes

board_on : (board : Option Row) (bytes : List ℕ) → board_of (cart_on board bytes) ≡ board
board_on None bytes = refl
board_on (Some row) bytes = refl

bytes_on : (board : Option Row) (bytes : List ℕ) → bytes_of (cart_on board bytes) ≡ bytes
bytes_on None bytes = refl
bytes_on (Some row) bytes = refl

is_in : (version : ℕ) (board : Option Row) (bytes : List ℕ) → rules_on board ≡ rules_by version → IfSome board IsBoard → IsIn version (cart_on board bytes)
is_in version None bytes rules known = record { rules = rules; board = tt }
is_in version (Some row) bytes rules known = record { rules = rules; board = known }

cart_back : (cartridge : Cart) → cart_on (board_of cartridge) (bytes_of cartridge) ≡ cartridge
cart_back (GuideCart bytes) = refl
cart_back (ChipCart cartridge) = refl

rules_back : (cartridge : Cart) → rules_on (board_of cartridge) ≡ rules_of cartridge
rules_back (GuideCart bytes) = refl
rules_back (ChipCart cartridge) = refl

-- ---- what is read is spelled so

-- what was read after the cartridge
record RestRead (h : SizesData) (cartridge : Cart) (bytes : List ℕ) (m : MovieData) : Type 0 where
  version : m.version ≡ h.version
  cart : m.cartridge ≡ cartridge
  start : IsStateOf cartridge m.start
  frames : length m.inputs ≡ h.frames
  claims : length m.checkpoints ≡ h.checkpoints
  inputs : AllByRecursion (λ i. IsTrue (is_input i)) m.inputs
  checkpoints : AreCheckpoints cartridge 0 h.frames m.checkpoints
  parts : bytes ≡ after_of m

rest_takes : (h : SizesData) (cartridge : Cart) → IsIn h.version cartridge → board_of cartridge ≡ h.board → (bytes : List ℕ) (m : MovieData) → IsBytes bytes
    → record_length h.version h.board + input_length * h.frames + checkpoint_length h.version h.board * h.checkpoints ≤ length bytes
    → rest_at h cartridge bytes ≡ Ok m → RestRead h cartridge bytes m
unfolding rest_at
rest_takes h cartridge is board bytes m fits long e =
    let n = record_length h.version h.board in
    let after_start = drop n bytes in
    let start = bind_ok (ok_or (head_state_at h.version cartridge bytes) (BadState 0)) _ m e in
    let inputs = bind_ok (inputs_at h.frames 1 after_start) _ m start.2 in
    let checkpoints = bind_ok (checkpoints_at h.version cartridge h.frames h.checkpoints 1 0 inputs.0.1) _ m inputs.2 in
    let made : MovieData = record { version = h.version; cartridge = cartridge; start = start.0; inputs = inputs.0.0; checkpoints = checkpoints.0.0 } in
    let ends = guard_then (eqb (length checkpoints.0.1) 0) Trailing (Ok made) m checkpoints.2 in
    let found = some_ok (head_state_at h.version cartridge bytes) (BadState 0) start.0 start.1 in
    let state = head_state_takes h.version cartridge is bytes start.0 (rw board (omega (arith, long))) fits found in
    let head = ap (λ (b : Option Row). take (record_length h.version b) bytes) (sym board) ∙ state.1 in
    let each = inputs_take h.frames 1 after_start inputs.0 (omega (arith, long, length-drop n bytes)) (IsBytes-drop n bytes fits) inputs.1 in
    let left : checkpoint_length h.version h.board * h.checkpoints ≤ length inputs.0.1 = omega (arith, long, each.left, length-drop n bytes) in
    let room = subst (λ (b : Option Row). checkpoint_length h.version b * h.checkpoints ≤ length inputs.0.1) (sym board) left in
    let claims = checkpoints_take h.version cartridge h.frames is h.checkpoints (1, 0) inputs.0.1 checkpoints.0 room each.takes.rest_fits checkpoints.1 in
    let nothing = nil_from_length checkpoints.0.1 (eqb-true (length checkpoints.0.1) 0 ends.0) in
    let last = append-nil (flat_map (checkpoint_bytes h.version cartridge) checkpoints.0.0) in
    let whole : bytes ≡ after_of made = cc (take-append-drop n bytes, head, each.takes.parts, claims.takes.parts, nothing, last) in
    rw (← ok_is made m ends.1) (record {
      version = refl;
      cart = refl;
      start = state.0;
      frames = each.count;
      claims = claims.count;
      inputs = each.each;
      checkpoints = claims.each;
      parts = whole;
    })

-- a header, and what was read after it, are those of the movie
read_parts : (bytes rest : List ℕ) (h : SizesData) (m : MovieData) → Sized bytes (h, rest)
    → RestRead h (cart_on h.board (take h.cartridge_length rest)) (drop h.cartridge_length rest) m → Spells bytes m
read_parts bytes rest h m sized read =
    let text = take h.cartridge_length rest in
    let is = is_in h.version h.board text sized.rules sized.board in
    let board = board_on h.board text in
    let own = bytes_on h.board text in
    let len : length text ≡ h.cartridge_length = omega (arith, sized.long, length-take h.cartridge_length rest) in
    let body : rest ≡ text ++ after_of m = sym (take-append-drop h.cartridge_length rest) ∙ ap (λ (w : List ℕ). text ++ w) read.parts in
    let parts = sized.takes.parts ∙ ap (λ (w : List ℕ). sizes_header h ++ w) body in
    let header : header_of m ≡ sizes_header h = rw (read.version, read.cart, board, own, len, read.frames, read.claims) refl in
    let cart : bytes_of m.cartridge ≡ text = rw read.cart own in
    let spelled : bytes ≡ header_of m ++ body_of m =
    parts ∙ ap (λ (w : List ℕ). w ++ (text ++ after_of m)) (sym header) ∙ ap (λ (w : List ℕ). header_of m ++ (w ++ after_of m)) (sym cart) in
    record {
      lawful = record {
        version = rw read.version sized.version;
        rules = rw (read.cart, read.version) is.rules;
        board = rw read.cart is.board;
        cartridge = rw (read.version, read.cart, board, own, len) sized.cartridge;
        start = rw read.cart read.start;
        some_frames = rw read.frames sized.some_frames;
        few_frames = rw (read.frames, read.version) sized.few_frames;
        few_checkpoints = rw read.claims sized.few_checkpoints;
        inputs = read.inputs;
        checkpoints = rw (read.cart, read.frames) read.checkpoints;
      };
      spelled = spelled ∙ sym (spelling_parts m);
    }

pub read_is_spelled : (bytes : List ℕ) (m : MovieData) → IsBytes bytes → movie_at bytes ≡ Ok m → Spells bytes m
unfolding movie_at
read_is_spelled bytes m fits e =
    let header = bind_ok (sizes_at bytes) _ m e in
    let h = header.0.0 in
    let rest = header.0.1 in
    let sized = sizes_take bytes header.0 fits header.1 in
    let text = take h.cartridge_length rest in
    let read = rest_takes h (cart_on h.board text) (is_in h.version h.board text sized.rules sized.board) (board_on h.board text) (drop h.cartridge_length rest) m
    (IsBytes-drop h.cartridge_length rest sized.takes.rest_fits) (omega (arith, sized.long, length-drop h.cartridge_length rest)) header.2 in
    read_parts bytes rest h m sized read

-- ---- what is spelled so is read

spelled_parts : (bytes : List ℕ) (version : ℕ) (cartridge : Cart) (start : State) (inputs : List InputData) (claims : List Checkpoint)
    → let m = parts version cartridge start inputs claims in Spells bytes m → movie_at bytes ≡ Ok m
unfolding movie_at rest_at
spelled_parts bytes version cartridge start inputs claims h =
    let m : MovieData = parts version cartridge start inputs claims in
    let l = h.lawful in
    let is : IsIn version cartridge = record { rules = l.rules; board = l.board } in
    let text = bytes_of cartridge in
    let sizes = sizes_are version (board_of cartridge) (length text) (length inputs) (length claims) in
    let checkpoints = flat_map (checkpoint_bytes version cartridge) claims in
    let after_start = flat_map input_bytes inputs ++ checkpoints in
    let state = state_bytes version cartridge start in
    let after_cart = state ++ after_start in
    let record_is = length-state_bytes version cartridge is start l.start in
    let inputs_are = length-inputs inputs in
    let checkpoints_are = length-checkpoints version cartridge (length inputs) is claims 0 l.checkpoints in
    let long : body_length sizes ≤ length (body_of m) = simp length-append (omega (arith, record_is, inputs_are, checkpoints_are)) in
    let small : length inputs < 2 ^ 32 = omega (arith, l.few_frames, most_frames-most version) in
    let whole : bytes ≡ header_of m ++ body_of m = h.spelled ∙ spelling_parts m in
    let rules = rules_back cartridge ∙ l.rules in
    let header = sizes_again sizes (body_of m) l.version rules l.board l.cartridge l.some_frames l.few_frames l.few_checkpoints long in
    let own = take_at text after_cart (length text) refl in
    let cart_left = drop_at text after_cart (length text) refl in
    let first = head_state_again version cartridge is l.cartridge start after_start l.start in
    let start_left = drop_at state after_start (record_length version (board_of cartridge)) record_is in
    let read = inputs_again 1 inputs checkpoints l.inputs in
    let last = rw append-nil at (checkpoints_again version cartridge (length inputs) is l.cartridge small (1, 0) claims [] l.checkpoints) in
    rw (whole, header, own, cart_left, cart_back cartridge, first, start_left, read, last) refl

pub spelled_is_read : (bytes : List ℕ) (m : MovieData) → Spells bytes m → movie_at bytes ≡ Ok m
spelled_is_read bytes m h = spelled_parts bytes m.version m.cartridge m.start m.inputs m.checkpoints h

-- no spelling has two movies
pub one_movie : (bytes : List ℕ) (m n : MovieData) → Spells bytes m → Spells bytes n → m ≡ n
one_movie bytes m n hm hn = ok_is m n (sym (spelled_is_read bytes m hm) ∙ spelled_is_read bytes n hn)
