-- Pixels of a line in which the objects only make steps: what they light, and what else a clock of the
-- picture changes.
use Rattle.std.specs.Prelude.{ℕ, suc, ◌+◌, ◌-◌, ◌%◌, ◌<◌, ◌≡◌, ◌==◌, ◌&&◌, ◌||◌, not, nat_le, nat_lt, Bool, false, if◌then◌else◌, map, bit_and, bit_or, IsTrue}
use Rattle.tia_chip.specs.Ball.{enable_of}
use Rattle.tia_chip.specs.Bits.{has_bit}
use Rattle.tia_chip.specs.Calm.{IsCalm, after_steps}
use Rattle.tia_chip.specs.Clock.{looked_at, without_seen}
use Rattle.tia_chip.specs.Collision.{Pair, number_from, pair_table, pairs_of}
use Rattle.tia_chip.specs.Objects.{Object, P0, P1, M0, M1, BL, PF, lit_objects}
use Rattle.tia_chip.specs.Player.{graphic_of}
use Rattle.tia_chip.specs.Playfield.{playfield_bit, playfield_index}
use Rattle.tia_chip.specs.declared.ball.Ball.{Ball}
use Rattle.tia_chip.specs.declared.line.Line.{Line}
use Rattle.tia_chip.specs.declared.lit_pixels.LitPixels.{LitPixels}
use Rattle.tia_chip.specs.declared.missile.Missile.{Missile}
use Rattle.tia_chip.specs.declared.objects.Objects.{Objects}
use Rattle.tia_chip.specs.declared.player.Player.{Player}
use Rattle.tia_chip.specs.declared.state.TiaState.{TiaState}

-- ---- what the objects light
-- the objects that light pixel k, where the playfield does or doesn't
abbrev pub lit_at : LitPixels → ℕ → Bool → Objects
lit_at l k playfield = record {
  player0 = has_bit l.player0 k;
  player1 = has_bit l.player1 k;
  missile0 = has_bit l.missile0 k;
  missile1 = has_bit l.missile1 k;
  ball = has_bit l.ball k;
  playfield = playfield;
}

-- they are those of a TIA that makes so many steps
abbrev pub AreLit : LitPixels → ℕ → TiaState → Type 0
AreLit l n t = (k : ℕ) (playfield : Bool) → k < n → lit_at l k playfield ≡ lit_objects (record (after_steps (suc k) t) { playfield = playfield })

-- the pixels that some of them lights
abbrev pub union_of : LitPixels → ℕ
union_of l = bit_or (bit_or (bit_or (bit_or l.player0 l.player1) l.missile0) l.missile1) l.ball

abbrev pub word_of : LitPixels → ℕ → Object → ℕ
word_of l playfield P0 = l.player0
word_of l playfield P1 = l.player1
word_of l playfield M0 = l.missile0
word_of l playfield M1 = l.missile1
word_of l playfield BL = l.ball
word_of l playfield PF = playfield

-- whether both objects of a pair light some pixel
abbrev pub meets_in : LitPixels → ℕ → Pair → Bool
meets_in l playfield p = not (bit_and (word_of l playfield p.one) (word_of l playfield p.other) == 0)

-- the collision bits of the pairs that meet in some pixel
abbrev pub pairs_in : LitPixels → ℕ → ℕ
pairs_in l playfield = number_from 0 (map (meets_in l playfield) pair_table)

-- ---- what else a clock changes
abbrev pub line_of : TiaState → Line
line_of t = record { playfield = t.playfield; mirrored = t.mirrored; collisions = t.collisions }

-- as pixel x begins: each fourth takes a bit of the playfield
abbrev pub line_at : TiaState → ℕ → Line → Line
line_at t x l =
    let mirrored = if x == 80 then has_bit t.ctrlpf 0 else l.mirrored in
    if x % 4 == 0 then record l { mirrored = mirrored; playfield = playfield_bit t.pf0 t.pf1 t.pf2 (playfield_index mirrored x) } else l

-- once a pixel has latched the pairs of these objects
abbrev pub collisions_with : TiaState → Objects → ℕ → ℕ
collisions_with t lit collisions = if has_bit t.vblank 1 then collisions else bit_or collisions (pairs_of lit)

-- after pixel x, at which these objects are lit
abbrev pub line_past : TiaState → ℕ → Objects → Line → Line
line_past t x lit l = record {
  playfield = l.playfield && not ((x + 1) % 4 == 0);
  mirrored = l.mirrored && nat_lt x 156;
  collisions = collisions_with t lit l.collisions;
}

-- ---- a line from pixel `first` on, where the TIA is
-- whether the right half is mirrored as pixel x is shown
abbrev pub shown_mirrored : TiaState → ℕ → ℕ → Bool
shown_mirrored t first x =
    (if nat_le first 80 && nat_le 80 x then has_bit t.ctrlpf 0 else t.mirrored) && (x == first || nat_lt x 157)

-- the playfield's bit at pixel x
abbrev pub shown_playfield : TiaState → ℕ → ℕ → Bool
shown_playfield t first x =
    let start = x - x % 4 in
    if nat_lt start first then t.playfield else playfield_bit t.pf0 t.pf1 t.pf2 (playfield_index (shown_mirrored t first start) start)

-- the line after n pixels that latch no pair
abbrev pub unlatched_line : ℕ → TiaState → Line
unlatched_line n t =
    let first = t.clock - 68 in
    let last = first + (n - 1) in
    record {
      playfield = shown_playfield t first last && not ((last + 1) % 4 == 0);
      mirrored = shown_mirrored t first last && nat_lt last 156;
      collisions = t.collisions;
    }

-- a TIA with these
abbrev pub with_line : Line → TiaState → TiaState
with_line l t = record t { playfield = l.playfield; mirrored = l.mirrored; collisions = l.collisions; changed = false }

-- a TIA whose beam has moved on by n clocks of the picture, with which its line is over or not
abbrev pub with_beam : Bool → ℕ → TiaState → TiaState
with_beam is_over n t = record t {
  clock = if is_over then 0 else t.clock + n;
  beam = if is_over then 0 else t.clock + n;
  line = if is_over then (t.line + 1) % 65536 else t.line;
}

-- the same, and what that makes of what was seen
abbrev pub gone_on : ℕ → TiaState → TiaState
gone_on n t =
    if t.clock + n == 228 then record (looked_at t) { clock = 0; beam = 0; line = (t.line + 1) % 65536 }
    else record (without_seen t) { clock = t.clock + n; beam = t.clock + n }

-- whether a pixel latches no pair that isn't latched
abbrev pub IsLatched : TiaState → Objects → Type 0
IsLatched t lit = collisions_with t lit t.collisions ≡ t.collisions

-- ---- the blank
-- whether each clock up to the picture does nothing
pub record IsAtRestInBlank (t : TiaState) : Type 0 where
  pub calm : IsCalm t
  pub start : IsTrue (not t.longer || not (t.clock == 0))
  pub changed : t.changed ≡ false
  pub playfield : t.playfield ≡ false
  pub mirrored : t.mirrored ≡ false

-- ---- the objects of a line
-- the objects that may be lit at some pixel of a line, as far as their registers say
abbrev pub lit_somewhere : TiaState → Objects
lit_somewhere t = record {
  player0 = not (graphic_of t.player0 == 0);
  player1 = not (graphic_of t.player1 == 0);
  missile0 = has_bit t.missile0.enam 1;
  missile1 = has_bit t.missile1.enam 1;
  ball = has_bit (enable_of t.ball) 1;
  playfield = t.playfield || not (t.pf0 == 0) || not (t.pf1 == 0) || not (t.pf2 == 0);
}

-- a TIA with these objects
abbrev pub with_objects : TiaState → Player → Player → Missile → Missile → Ball → TiaState
with_objects t player0 player1 missile0 missile1 ball = record t {
  player0 = player0;
  player1 = player1;
  missile0 = missile0;
  missile1 = missile1;
  ball = ball;
}
