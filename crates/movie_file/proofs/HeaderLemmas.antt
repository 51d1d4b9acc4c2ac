-- The header that is read is spelled so, and what is spelled so is read.
use Rattle.std.proofs.Common.{◌≡◌, ℕ, ◌<◌, ◌≤◌, Bool, eqb, ltb, leb, List, ◌++◌, length, Option, Some, None}
use Rattle.std.proofs.Common.{Ok, refl, sym, ap, ◌∙◌, append_assoc, arith, lit<}
use Rattle.std.specs.Prelude.{◌&&◌, IfSome, IsTrue, if◌then◌else◌}
use Rattle.std.specs.Option.{ok_or}
use Rattle.std.specs.Int.{Width, w16, w32, from_be_bytes, to_be_bytes}
use Rattle.std.proofs.lemmas.Bool.{ltb-false, le-ltb, eqb-true, le-leb}
use Rattle.std.proofs.lemmas.Bool.Decides.{nat_tests}
use Rattle.cart_board.specs.Board.{Row}
use Rattle.cart_board.specs.Boards.{IsBoard}
use Rattle.movie_machine.specs.Carts.{rules_on}
use Rattle.movie_machine.specs.declared.rules.Rules.{Rules}
use Rattle.movie_machine.specs.declared.rules.Rules.TheVariants.{Guide, Chip}
use Rattle.movie_file.specs.Format.{board_of_code, is_version, length_width, magic, names_board, rules_by, takes_cart, most_frames}
use Rattle.movie_file.specs.Format.{most_checkpoints}
use Rattle.movie_file.specs.declared.error.MovieError.{MovieError}
use Rattle.movie_file.specs.declared.error.MovieError.TheVariants.{Short, BadBoard, BadMagic, BadVersion}
use Rattle.movie_file.specs.declared.error.MovieError.TheVariants.{BadCartSize, BadCounts}
use Rattle.movie_file.specs.Sizes.{SizesData}
use Rattle.movie_file.specs.Spelling.{board_bytes}
use Rattle.movie_file.specs.Reading.{◌>>=◌, board_at, body_length, byte_at, number_at, tested_at, counts_at, sizes_at}
use Rattle.movie_file.proofs.BoardLemmas.{board_again, board_found}
use Rattle.movie_file.proofs.ByteLemmas.{IsBytes}
use Rattle.movie_file.proofs.VersionLemmas.{most_frames-most, small_length, small_version, wide_length}
use Rattle.movie_file.proofs.ReadLemmas.{bind_ok, byte_takes, guard_short, guard_then, ok_is, some_ok, Takes}
use Rattle.movie_file.proofs.ReadLemmas.{IsWide, wide16, wide32, number_takes, number_again}

-- a number that passes a test
tested_takes : {w : Width} {limit : ℕ} → IsWide w limit → (test : ℕ → Bool) (refusal : MovieError) (bytes : List ℕ) (x : ℕ × List ℕ) → IsBytes bytes
    → tested_at w test refusal bytes ≡ Ok x → Takes bytes (to_be_bytes w x.0) x.1 × IsTrue (test x.0)
unfolding tested_at
tested_takes {w} wide test refusal bytes x fits e =
    let b = bind_ok (number_at w bytes) _ x e in
    let g = guard_then (test b.0.0) refusal (Ok b.0) x b.2 in
    rw (← ok_is b.0 x g.1) (number_takes wide bytes b.0 fits b.1, g.0)

abbrev is_magic : ℕ → Bool
is_magic n = eqb n (from_be_bytes w32 magic)

magic_takes : (bytes : List ℕ) (x : ℕ × List ℕ) → IsBytes bytes → tested_at w32 is_magic BadMagic bytes ≡ Ok x → Takes bytes magic x.1
magic_takes bytes x fits e =
    let t = tested_takes wide32 is_magic BadMagic bytes x fits e in
    let is : x.0 ≡ from_be_bytes w32 magic = eqb-true _ _ t.1 in
    record { parts = rw is at t.0.parts; rest_fits = t.0.rest_fits }

-- the numbers of frames and checkpoints, which are one field
counts_are : (version n m : ℕ) → IsTrue (leb 1 n && leb n (most_frames version) && leb m most_checkpoints)
    → (1 ≤ n) × (n ≤ most_frames version) × (m ≤ most_checkpoints)
counts_are version n m h = grind (arith, nat_tests)

counts_take : (version : ℕ) (bytes : List ℕ) (x : ℕ × ℕ × List ℕ) → IsBytes bytes → counts_at version bytes ≡ Ok x
    → Takes bytes (to_be_bytes w32 x.0 ++ to_be_bytes w16 x.1) x.2 × (1 ≤ x.0) × (x.0 ≤ most_frames version) × (x.1 ≤ most_checkpoints)
unfolding counts_at
counts_take version bytes x fits e =
    let a = bind_ok (number_at w32 bytes) _ x e in
    let b = bind_ok (number_at w16 a.0.1) _ x a.2 in
    let t = number_takes wide32 bytes a.0 fits a.1 in
    let u = number_takes wide16 a.0.1 b.0 t.rest_fits b.1 in
    let g = guard_then (leb 1 a.0.0 && leb a.0.0 (most_frames version) && leb b.0.0 most_checkpoints) BadCounts (Ok (a.0.0, b.0.0, b.0.1)) x b.2 in
    let are = counts_are version a.0.0 b.0.0 g.0 in
    let parts = t.parts ∙ ap (λ (w : List ℕ). to_be_bytes w32 a.0.0 ++ w) u.parts in
    rw (← ok_is (a.0.0, b.0.0, b.0.1) x g.1) (record { parts = parts; rest_fits = u.rest_fits }, are.0, are.1, are.2)

-- the board, of a version whose headers name it
record BoardTaken (version : ℕ) (bytes : List ℕ) (x : Option Row × List ℕ) : Type 0 where
  takes : Takes bytes (board_bytes x.0) x.1
  rules : rules_on x.0 ≡ rules_by version
  known : IfSome x.0 IsBoard

board_takes : (version : ℕ) (bytes : List ℕ) (x : Option Row × List ℕ) → IsBytes bytes → board_at version bytes ≡ Ok x → BoardTaken version bytes x
unfolding board_at
board_takes version bytes x fits e = by (rules_by version) refl e
  where
    by : (r : Rules) → rules_by version ≡ r
        → (if names_board r then (byte_at bytes >>= λ code. ok_or (board_of_code code.0) BadBoard >>= λ row. Ok (Some row, code.1)) else Ok (None, bytes)) ≡ Ok x
        → BoardTaken version bytes x
    by Guide is e = rw (← ok_is (None, bytes) x e) (record { takes = record { parts = refl; rest_fits = fits }; rules = sym is; known = tt })
    by Chip is e =
        let code = bind_ok (byte_at bytes) _ x e in
        let row = bind_ok (ok_or (board_of_code code.0.0) BadBoard) _ x code.2 in
        let found = board_found code.0.0 row.0 (some_ok (board_of_code code.0.0) BadBoard row.0 row.1) in
        let taken = byte_takes bytes code.0 fits code.1 in
        rw (← ok_is (Some row.0, code.0.1) x row.2) (record {
          takes = record { parts = rw found.1 taken.parts; rest_fits = taken.rest_fits };
          rules = sym is;
          known = found.0;
        })

abbrev pub sizes_header : SizesData → List ℕ
sizes_header h =
    magic ++ to_be_bytes w16 h.version ++ board_bytes h.board ++ to_be_bytes (length_width h.version) h.cartridge_length ++ to_be_bytes w32 h.frames
    ++ to_be_bytes w16 h.checkpoints

-- field by field
header_parts : (h : SizesData) (rest : List ℕ) → sizes_header h ++ rest ≡ magic ++ (to_be_bytes w16 h.version ++ (board_bytes h.board
    ++ (to_be_bytes (length_width h.version) h.cartridge_length ++ (to_be_bytes w32 h.frames ++ (to_be_bytes w16 h.checkpoints ++ rest)))))
header_parts h rest = simp append_assoc

pub record Sized (bytes : List ℕ) (x : SizesData × List ℕ) : Type 0 where
  pub takes : Takes bytes (sizes_header x.0) x.1
  pub version : IsTrue (is_version x.0.version)
  pub rules : rules_on x.0.board ≡ rules_by x.0.version
  pub board : IfSome x.0.board IsBoard
  pub cartridge : IsTrue (takes_cart x.0.version x.0.board x.0.cartridge_length)
  pub some_frames : 1 ≤ x.0.frames
  pub few_frames : x.0.frames ≤ most_frames x.0.version
  pub few_checkpoints : x.0.checkpoints ≤ most_checkpoints
  pub long : body_length x.0 ≤ length x.1

abbrev pub sizes_are : ℕ → Option Row → ℕ → ℕ → ℕ → SizesData
sizes_are version board cartridge_length frames checkpoints =
    record { version = version; board = board; cartridge_length = cartridge_length; frames = frames; checkpoints = checkpoints }

pub sizes_take : (bytes : List ℕ) (x : SizesData × List ℕ) → IsBytes bytes → sizes_at bytes ≡ Ok x → Sized bytes x
unfolding sizes_at
sizes_take bytes x fits e =
    let a = bind_ok (tested_at w32 is_magic BadMagic bytes) _ x e in
    let v = bind_ok (tested_at w16 is_version BadVersion a.0.1) _ x a.2 in
    let b = bind_ok (board_at v.0.0 v.0.1) _ x v.2 in
    let l = bind_ok (tested_at (length_width v.0.0) (takes_cart v.0.0 b.0.0) BadCartSize b.0.1) _ x b.2 in
    let c = bind_ok (counts_at v.0.0 l.0.1) _ x l.2 in
    let ta = magic_takes bytes a.0 fits a.1 in
    let tv = tested_takes wide16 is_version BadVersion a.0.1 v.0 ta.rest_fits v.1 in
    let tb = board_takes v.0.0 v.0.1 b.0 tv.0.rest_fits b.1 in
    let tl = tested_takes (wide_length v.0.0) (takes_cart v.0.0 b.0.0) BadCartSize b.0.1 l.0 tb.takes.rest_fits l.1 in
    let tc = counts_take v.0.0 l.0.1 c.0 tl.0.rest_fits c.1 in
    let after_board = tl.0.parts ∙ ap (λ (w : List ℕ). to_be_bytes (length_width v.0.0) l.0.0 ++ w) tc.0.parts in
    let after_version = tb.takes.parts ∙ ap (λ (w : List ℕ). board_bytes b.0.0 ++ w) after_board in
    let after_magic = tv.0.parts ∙ ap (λ (w : List ℕ). to_be_bytes w16 v.0.0 ++ w) after_version in
    let made = sizes_are v.0.0 b.0.0 l.0.0 c.0.0 c.0.1 in
    let g = guard_short (ltb (length c.0.2) (body_length made)) Short (made, c.0.2) x c.2 in
    rw (← g.1) (record {
      takes = record {
        parts = ta.parts ∙ ap (λ (w : List ℕ). magic ++ w) after_magic ∙ sym (header_parts made c.0.2);
        rest_fits = tc.0.rest_fits;
      };
      version = tv.1;
      rules = tb.rules;
      board = tb.known;
      cartridge = tl.1;
      some_frames = tc.1;
      few_frames = tc.2;
      few_checkpoints = tc.3;
      long = ltb-false (length c.0.2) (body_length made) g.0;
    })

-- a tested number is read again
tested_again : {w : Width} {limit : ℕ} → IsWide w limit → (test : ℕ → Bool) (refusal : MovieError) (n : ℕ) (rest : List ℕ) → n < limit
    → IsTrue (test n) → tested_at w test refusal (to_be_bytes w n ++ rest) ≡ Ok (n, rest)
unfolding tested_at
tested_again wide test refusal n rest small passes = rw (number_again wide n rest small, passes) refl

counts_again : (version n m : ℕ) (rest : List ℕ) → 1 ≤ n → n ≤ most_frames version → m ≤ most_checkpoints
    → counts_at version (to_be_bytes w32 n ++ (to_be_bytes w16 m ++ rest)) ≡ Ok (n, m, rest)
unfolding counts_at
counts_again version n m rest some few fewer =
    let frames = number_again wide32 n (to_be_bytes w16 m ++ rest) (omega (arith, most_frames-most version)) in
    let checkpoints = number_again wide16 m rest (omega arith) in
    rw (frames, checkpoints, le-leb 1 n some, le-leb n (most_frames version) few, le-leb m most_checkpoints fewer) refl

-- the board of a version is read again
board_read : (version : ℕ) (board : Option Row) (rest : List ℕ) → rules_on board ≡ rules_by version → IfSome board IsBoard
    → board_at version (board_bytes board ++ rest) ≡ Ok (board, rest)
unfolding board_at
board_read version None rest rules known = rw (← rules) refl
board_read version (Some row) rest rules known = rw (← rules, board_again row known) refl

pub sizes_again : (h : SizesData) (rest : List ℕ) → IsTrue (is_version h.version) → rules_on h.board ≡ rules_by h.version → IfSome h.board IsBoard
    → IsTrue (takes_cart h.version h.board h.cartridge_length) → 1 ≤ h.frames → h.frames ≤ most_frames h.version → h.checkpoints ≤ most_checkpoints → body_length h ≤ length rest
    → sizes_at (sizes_header h ++ rest) ≡ Ok (h, rest)
unfolding sizes_at
sizes_again h rest version rules known cartridge some few_frames few_checkpoints long =
    let r3 = to_be_bytes w32 h.frames ++ (to_be_bytes w16 h.checkpoints ++ rest) in
    let r2 = to_be_bytes (length_width h.version) h.cartridge_length ++ r3 in
    let rb = board_bytes h.board ++ r2 in
    let r1 = to_be_bytes w16 h.version ++ rb in
    let magic_again : tested_at w32 is_magic BadMagic (magic ++ r1) ≡ Ok (from_be_bytes w32 magic, r1) =
    tested_again wide32 is_magic BadMagic (from_be_bytes w32 magic) r1 (lit< tt) refl in
    let version_again = tested_again wide16 is_version BadVersion h.version rb (small_version h.version version) version in
    let named_again = board_read h.version h.board r2 rules known in
    let cart_again = tested_again (wide_length h.version) (takes_cart h.version h.board) BadCartSize h.cartridge_length r3
    (small_length h.version h.board h.cartridge_length cartridge) cartridge in
    rw (header_parts h rest, magic_again, version_again, named_again, cart_again, counts_again h.version h.frames h.checkpoints rest some few_frames few_checkpoints, le-ltb _ _ long) refl
