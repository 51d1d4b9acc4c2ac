-- What the numbers of a TIA say of its parts, and back.
use Rattle.std.proofs.Common.{◌≡◌, ℕ, ◌+◌, ◌-◌, ◌*◌, ◌/◌, ◌%◌, ◌^◌, ◌<◌, ◌≤◌, Bool, true, false, List, [], ◌∷◌, ◌++◌}
use Rattle.std.proofs.Common.{Option, Some, None, refl, sym, ap, ◌∙◌, arith}
use Rattle.std.specs.Prelude.{◌&&◌, ◌||◌, ◌==◌, not, is_none, nat_le, if◌then◌else◌}
use Rattle.std.proofs.lemmas.Bool.{and_parts, eqb-true}
use Rattle.std.proofs.lemmas.Bool.Decides.{nat_tests}
use Rattle.std.proofs.lemmas.Nat.{from_be_bytes-to_be_bytes_2}
use Rattle.record_table.specs.Numbers.{Number, are_lawful, bytes_of}
use Rattle.tia_chip.specs.Bits.{has_bit}
use Rattle.tia_chip.specs.Collision.{number_from}
use Rattle.tia_chip.specs.Motion.{any_moves}
use Rattle.tia_chip.specs.Numbers.{ball_copy_number, beam_numbers, bit_number, colour_numbers, counter_numbers, is_ball}
use Rattle.tia_chip.specs.Numbers.{is_beam, is_missile_copy, is_player, is_settled, is_tia, missile_copy_number}
use Rattle.tia_chip.specs.Numbers.{motion_numbers, object_numbers, own_size_number, place_numbers, player_copy_number}
use Rattle.tia_chip.specs.Numbers.{player_numbers, size_number, size_numbers, tia_numbers}
use Rattle.tia_chip.specs.Player.{width_of}
use Rattle.tia_chip.specs.declared.ball.Ball.{Ball}
use Rattle.tia_chip.specs.declared.missile.Missile.{Missile}
use Rattle.tia_chip.specs.declared.missile.MissileCopy.{MissileCopy}
use Rattle.tia_chip.specs.declared.player.Player.{Player}
use Rattle.tia_chip.specs.declared.player.PlayerCopy.{PlayerCopy}
use Rattle.tia_chip.specs.declared.state.TiaState.{TiaState}
use Rattle.chip_machine.specs.RecordNumbers.{missile_copy_at, place_at, player_copy_at, size_at, tia_at}

-- ---- what lawful numbers are

-- the rest of a table
lawful-rest : {F : Type 0} (xs ys : List (Number F)) (f : F) → are_lawful (xs ++ ys) f ≡ true → are_lawful ys f ≡ true
lawful-rest [] ys f h = h
lawful-rest (x ∷ xs) ys f h = lawful-rest xs ys f (and_parts (x.may_be (x.value f)) (are_lawful (xs ++ ys) f) h).1

-- The parts that the record of a TIA needs.
pub record TiaParts (t : TiaState) : Type 0 where
  pub numbers : are_lawful tia_numbers t ≡ true
  pub player0 : is_player t.player0 ≡ true
  pub player1 : is_player t.player1 ≡ true
  pub ball : is_ball t.ball ≡ true
  pub collisions : t.collisions < 2 ^ 16
  pub cycle : t.clock / 3 < 76
  pub own_size0 : own_size_number t.missile0.copy < 4
  pub own_size1 : own_size_number t.missile1.copy < 4

module _ (t : TiaState) where
  abbrev numbers : Bool
  numbers = are_lawful tia_numbers t

  abbrev player0 : Bool
  player0 = is_player t.player0

  abbrev player1 : Bool
  player1 = is_player t.player1

  abbrev missile0 : Bool
  missile0 = is_missile_copy t.missile0.copy

  abbrev missile1 : Bool
  missile1 = is_missile_copy t.missile1.copy

  abbrev ball : Bool
  ball = is_ball t.ball

  abbrev before_beam : List (Number TiaState)
  before_beam = colour_numbers ++ object_numbers ++ motion_numbers ++ counter_numbers ++ player_numbers ++ place_numbers

  -- the numbers of the beam and of the sizes
  abbrev beam_tests : Bool
  beam_tests = are_lawful (beam_numbers ++ size_numbers) t

  later_numbers : numbers ≡ true → beam_tests ≡ true
  later_numbers h = lawful-rest before_beam (beam_numbers ++ size_numbers) t h

  sizes : beam_tests ≡ true → are_lawful size_numbers t ≡ true
  sizes h = lawful-rest beam_numbers size_numbers t h

  collisions_fit : beam_tests ≡ true → t.collisions < 2 ^ 16
  collisions_fit h = grind (arith, nat_tests)

  cycle_fits : beam_tests ≡ true → t.clock / 3 < 76
  cycle_fits h = grind (arith, nat_tests)

  sizes_fit : are_lawful size_numbers t ≡ true → (own_size_number t.missile0.copy < 4) × (own_size_number t.missile1.copy < 4)
  sizes_fit h = (grind (arith, nat_tests), grind (arith, nat_tests))

  pub tia_parts : is_tia t ≡ true → TiaParts t
  unfolding is_tia
  tia_parts h =
      let seven = numbers && player0 && player1 && missile0 && missile1 && ball && is_beam t in
      let moving = any_moves t || (t.pulses == 0) in
      let held = has_bit t.vblank 6 || (t.latches == 0) in
      let a = and_parts (seven && moving) held h in
      let b = and_parts seven moving a.0 in
      let c = and_parts (numbers && player0 && player1 && missile0 && missile1 && ball) (is_beam t) b.0 in
      let d = and_parts (numbers && player0 && player1 && missile0 && missile1) ball c.0 in
      let e = and_parts (numbers && player0 && player1 && missile0) missile1 d.0 in
      let f = and_parts (numbers && player0 && player1) missile0 e.0 in
      let g = and_parts (numbers && player0) player1 f.0 in
      let k = and_parts numbers player0 g.0 in
      parts k.0 (later_numbers k.0) k.1 g.1 d.1
    where
      parts : numbers ≡ true → beam_tests ≡ true → player0 ≡ true → player1 ≡ true → ball ≡ true → TiaParts t
      parts all beam p0 p1 bl = record {
        numbers = all;
        player0 = p0;
        player1 = p1;
        ball = bl;
        collisions = collisions_fit beam;
        cycle = cycle_fits beam;
        own_size0 = (sizes_fit (sizes beam)).0;
        own_size1 = (sizes_fit (sizes beam)).1;
      }

-- The numbers of the copies on their way are bytes.
pub record Copies (t : TiaState) : Type 0 where
  pub player0 : player_copy_number t.player0.copy < 256
  pub player1 : player_copy_number t.player1.copy < 256
  pub missile0 : missile_copy_number t.missile0.copy < 256
  pub missile1 : missile_copy_number t.missile1.copy < 256
  pub ball : ball_copy_number t.ball.place < 256

module _ (t : TiaState) where
  abbrev before_players : List (Number TiaState)
  before_players = colour_numbers ++ object_numbers ++ motion_numbers ++ counter_numbers

  abbrev copy_tests : Bool
  copy_tests = are_lawful (player_numbers ++ place_numbers ++ beam_numbers ++ size_numbers) t

  copy_bytes : copy_tests ≡ true → Copies t
  copy_bytes h = record {
    player0 = grind (arith, nat_tests);
    player1 = grind (arith, nat_tests);
    missile0 = grind (arith, nat_tests);
    missile1 = grind (arith, nat_tests);
    ball = grind (arith, nat_tests);
  }

  pub copies : is_tia t ≡ true → Copies t
  copies h = copy_bytes (lawful-rest before_players (player_numbers ++ place_numbers ++ beam_numbers ++ size_numbers) t (tia_parts t h).numbers)

-- ---- each number by what it spells

pub width_back : (w : ℕ) → (w == 1 || (w == 2) || (w == 4)) ≡ true → size_at (w / 2) ≡ w
width_back w h = grind (arith, nat_tests)

size_back : (w : ℕ) → size_number w < 4 → size_at (size_number w) ≡ w
size_back w h = grind (arith, nat_tests)

pub ball_size_back : (b : Ball) → is_ball b ≡ true → size_at (size_number b.own_size) ≡ b.own_size
ball_size_back b h = grind (arith, nat_tests)

pub player_copy_back : (copy : Option PlayerCopy) → player_copy_at (player_copy_number copy) (bit_number copy) ≡ copy
player_copy_back None = refl
player_copy_back (Some copy) =
    let some : (copy.place + 1 == 0) ≡ false = grind (arith, nat_tests) in
    let less : copy.place + 1 - 1 ≡ copy.place = omega arith in
    rw (some, less) refl

pub missile_copy_back : (copy : Option MissileCopy) → own_size_number copy < 4
    → missile_copy_at (missile_copy_number copy) (own_size_number copy) ≡ copy
missile_copy_back None h = refl
missile_copy_back (Some copy) h =
    let some : (copy.place + 1 == 0) ≡ false = grind (arith, nat_tests) in
    let less : copy.place + 1 - 1 ≡ copy.place = omega arith in
    rw (some, less, size_back copy.own_size h) refl

pub place_back : (place : Option ℕ) → place_at (ball_copy_number place) ≡ place
place_back None = refl
place_back (Some place) =
    let some : (place + 1 == 0) ≡ false = grind (arith, nat_tests) in
    let less : place + 1 - 1 ≡ place = omega arith in
    rw (some, less) refl

-- a bit's number, and back
abbrev bit : Bool → ℕ
bit b = if b then 1 else 0

bit-most : (b : Bool) → bit b ≤ 1
bit-most true = omega arith
bit-most false = omega arith

bit-back : (b : Bool) → (bit b == 1) ≡ b
bit-back true = refl
bit-back false = refl

pub flag-back : (b : Bool) → (number_from 0 (b ∷ []) == 1) ≡ b
flag-back true = refl
flag-back false = refl

bit_of : (n k : ℕ) (b : Bool) → n / 2 ^ k % 2 ≡ bit b → has_bit n k ≡ b
bit_of n k b e = ap (λ (x : ℕ). x == 1) e ∙ bit-back b

pub bits-back : (e d c b a : Bool) → let n = number_from 0 (e ∷ d ∷ c ∷ b ∷ a ∷ []) in
    (has_bit n 0 ≡ a) × (has_bit n 1 ≡ b) × (has_bit n 2 ≡ c) × (has_bit n 3 ≡ d) × (has_bit n 4 ≡ e)
bits-back e d c b a =
    let n = number_from 0 (e ∷ d ∷ c ∷ b ∷ a ∷ []) in
    let ma = bit-most a in
    let mb = bit-most b in
    let mc = bit-most c in
    let md = bit-most d in
    let me = bit-most e in (
      bit_of n 0 a (omega (arith, ma, mb, mc, md, me)),
      bit_of n 1 b (omega (arith, ma, mb, mc, md, me)),
      bit_of n 2 c (omega (arith, ma, mb, mc, md, me)),
      bit_of n 3 d (omega (arith, ma, mb, mc, md, me)),
      bit_of n 4 e (omega (arith, ma, mb, mc, md, me)),
    )

-- ---- a TIA by the numbers that spell it

-- What is so of a TIA of which a record says all.
pub record Settled (t : TiaState) : Type 0 where
  pub waiting : t.waiting ≡ None
  pub hmove : t.hmove ≡ None
  pub changed : t.changed ≡ false
  pub beam : t.beam ≡ t.clock
  pub line : t.line ≡ 0
  pub fire0 : t.fire0 ≡ false
  pub fire1 : t.fire1 ≡ false

none : {A : Type 0} (o : Option A) → is_none o ≡ true → o ≡ None
none None h = refl
none (Some x) h = absurd cc

unset : (b : Bool) → not b ≡ true → b ≡ false
unset false h = refl
unset true h = absurd cc

pub settled_parts : (t : TiaState) → is_settled t ≡ true → Settled t
settled_parts t h =
    let a = and_parts (is_none t.waiting && is_none t.hmove && not t.changed && (t.beam == t.clock) && (t.line == 0) && not t.fire0) (not t.fire1) h in
    let b = and_parts (is_none t.waiting && is_none t.hmove && not t.changed && (t.beam == t.clock) && (t.line == 0)) (not t.fire0) a.0 in
    let c = and_parts (is_none t.waiting && is_none t.hmove && not t.changed && (t.beam == t.clock)) (t.line == 0) b.0 in
    let d = and_parts (is_none t.waiting && is_none t.hmove && not t.changed) (t.beam == t.clock) c.0 in
    let e = and_parts (is_none t.waiting && is_none t.hmove) (not t.changed) d.0 in
    let f = and_parts (is_none t.waiting) (is_none t.hmove) e.0 in
    record {
      waiting = none t.waiting f.0;
      hmove = none t.hmove f.1;
      changed = unset t.changed e.1;
      beam = eqb-true t.beam t.clock d.1;
      line = eqb-true t.line 0 c.1;
      fire0 = unset t.fire0 b.1;
      fire1 = unset t.fire1 a.1;
    }

player_width : (p : Player) → is_player p ≡ true → (p.width == 1 || (p.width == 2) || (p.width == 4)) ≡ true
player_width p h =
    let begun = nat_le 7 (player_copy_number p.copy) || (bit_number p.copy == 0) in
    let width = p.width == 1 || (p.width == 2) || (p.width == 4) in
    let awaited = if p.width == width_of p.nusiz then p.change == 0 else not (p.change == 0) in
    (and_parts begun width (and_parts (begun && width) awaited h).0).1

same_player : (p : Player) (copy : Option PlayerCopy) (width : ℕ) (moves seen : Bool) → copy ≡ p.copy → width ≡ p.width
    → moves ≡ p.moves → seen ≡ p.seen → record p { copy = copy; width = width; moves = moves; seen = seen } ≡ p
same_player p copy width moves seen a b c d = rw (a, b, c, d) refl

same_missile : (m : Missile) (copy : Option MissileCopy) (moves seen : Bool) → copy ≡ m.copy → moves ≡ m.moves → seen ≡ m.seen
    → record m { copy = copy; moves = moves; seen = seen } ≡ m
same_missile m copy moves seen a b c = rw (a, b, c) refl

same_ball : (b : Ball) (place : Option ℕ) (size : ℕ) (moves seen : Bool) → place ≡ b.place → size ≡ b.own_size → moves ≡ b.moves
    → seen ≡ b.seen → record b { place = place; own_size = size; moves = moves; seen = seen } ≡ b
same_ball b place size moves seen p s m e = rw (p, s, m, e) refl

same_objects : (t : TiaState) (p0 p1 : Player) (m0 m1 : Missile) (b : Ball) → p0 ≡ t.player0 → p1 ≡ t.player1 → m0 ≡ t.missile0
    → m1 ≡ t.missile1 → b ≡ t.ball → record t { player0 = p0; player1 = p1; missile0 = m0; missile1 = m1; ball = b } ≡ t
same_objects t p0 p1 m0 m1 b a c d e f = rw (a, c, d, e, f) refl

same_line : (t u : TiaState) (mirrored playfield longer : Bool) (collisions clock beam : ℕ) (s : Settled t) → u ≡ t → mirrored ≡ t.mirrored
    → playfield ≡ t.playfield → longer ≡ t.longer → collisions ≡ t.collisions → clock ≡ t.clock → beam ≡ t.beam
    → record u {
      mirrored = mirrored;
      playfield = playfield;
      longer = longer;
      collisions = collisions;
      clock = clock;
      beam = beam;
      waiting = None;
      hmove = None;
      changed = false;
      line = 0;
      fire0 = false;
      fire1 = false;
    } ≡ t
same_line t u mirrored playfield longer collisions clock beam s same m p l c k b =
    rw (same, m, p, l, c, k, b, ← s.waiting, ← s.hmove, ← s.line) (ending t s.changed s.fire0 s.fire1)
  where
    ending : (t : TiaState) → t.changed ≡ false → t.fire0 ≡ false → t.fire1 ≡ false → record t { changed = false; fire0 = false; fire1 = false } ≡ t
    ending t changed fire0 fire1 =
        ap (λ (b : Bool). record t { changed = b; fire0 = false; fire1 = false }) (sym changed)
        ∙ ap (λ (b : Bool). record t { fire0 = b; fire1 = false }) (sym fire0)
        ∙ ap (λ (b : Bool). record t { fire1 = b }) (sym fire1)

pub tia_again : (t : TiaState) → is_tia t ≡ true → is_settled t ≡ true → t.clock % 3 ≡ 0 → tia_at (bytes_of tia_numbers t) ≡ t
tia_again t lawful settled aligned =
    let p = tia_parts t lawful in
    let moves = bits-back t.ball.moves t.missile1.moves t.missile0.moves t.player1.moves t.player0.moves in
    let seen = bits-back t.ball.seen t.missile1.seen t.missile0.seen t.player1.seen t.player0.seen in
    let clock : 3 * (t.clock / 3) ≡ t.clock = omega (arith, aligned) in
    let objects =
    same_objects t _ _ _ _ _
    (same_player t.player0 _ _ _ _ (player_copy_back t.player0.copy) (width_back t.player0.width (player_width t.player0 p.player0)) moves.0 seen.0)
    (same_player t.player1 _ _ _ _ (player_copy_back t.player1.copy) (width_back t.player1.width (player_width t.player1 p.player1)) moves.1 seen.1)
    (same_missile t.missile0 _ _ _ (missile_copy_back t.missile0.copy p.own_size0) moves.2 seen.2)
    (same_missile t.missile1 _ _ _ (missile_copy_back t.missile1.copy p.own_size1) moves.3 seen.3)
    (same_ball t.ball _ _ _ _ (place_back t.ball.place) (ball_size_back t.ball p.ball) moves.4 seen.4) in
    let whole = settled_parts t settled in
    same_line t _ _ _ _ _ _ _ whole objects (flag-back t.mirrored) (flag-back t.playfield) (flag-back t.longer)
    (from_be_bytes-to_be_bytes_2 t.collisions p.collisions) clock (clock ∙ sym whole.beam)
