-- The numbers of the beam: that clocks and writes keep what is true of them.
use Rattle.std.proofs.Common.{◌≡◌, ℕ, ◌+◌, ◌-◌, ◌%◌, ◌<◌, ◌==◌, ◌&&◌, ◌||◌, not, min, Bool, true, false, arith, refl, if◌then◌else◌}
use Rattle.std.proofs.Common.{Option, Some, None}
use Rattle.std.proofs.lemmas.Bool.{cond_both, false≢true}
use Rattle.std.proofs.lemmas.Bool.Decides.{nat_tests}
use Rattle.std.specs.Prelude.{[], ◌∷◌, nat_le, nat_lt}
use Rattle.tia_chip.proofs.UnderwayPlayers.{resized-alike}
use Rattle.tia_chip.specs.Bits.{has_bit}
use Rattle.tia_chip.specs.Blank.{is_in_blank}
use Rattle.tia_chip.specs.Clock.{after_clock, at_line_start, at_next_clock, at_pixel, stepped}
use Rattle.tia_chip.specs.Clock.{with_next_clock, without_rest}
use Rattle.tia_chip.specs.Collision.{latched, number_from}
use Rattle.tia_chip.specs.Motion.{any_moves, pulsed}
use Rattle.tia_chip.specs.Numbers.{seen_number}
use Rattle.tia_chip.specs.Playfield.{mirrored_at, playfield_at, playfield_bit, playfield_index, with_playfield}
use Rattle.tia_chip.specs.Read.{tia_after_read}
use Rattle.tia_chip.specs.Registers.{delay_of, register_bits}
use Rattle.tia_chip.specs.Write.{acted, after_action, after_register_write, at_once, player_after_write, with_hmove_in}
use Rattle.tia_chip.specs.Write.{with_waited, with_waited_write, with_waited_writes, with_waiting}
use Rattle.tia_chip.specs.declared.player.Player.{Player}
use Rattle.tia_chip.specs.declared.register.Register.{Register}
use Rattle.tia_chip.specs.declared.register.Register.TheVariants.{Hmove, Nusiz0, Nusiz1, Rsync, Vblank}
use Rattle.tia_chip.specs.declared.state.TiaState.{TiaState}
use Rattle.tia_chip.specs.declared.waiting.Waiting.{Waiting}

-- what is true of these numbers between two clocks, and of longer as a clock begins. By their values,
-- so that it stays a fact where another number changes.
pub record IsBeam (clock beam : ℕ) (longer playfield mirrored : Bool) : Type 0 where
  pub in_line : clock < 228
  pub in_beam : beam < 228
  pub alike : (nat_le 225 clock || (beam == clock)) ≡ true
  pub shown : ((nat_lt clock 68 || longer) || nat_le 68 beam) ≡ true
  pub blank : (not longer || (nat_lt clock 76 || nat_le 225 clock)) ≡ true
  pub bit : (not playfield || (nat_le 69 beam && not (beam % 4 == 0))) ≡ true
  pub half : (not mirrored || (nat_le 149 beam && nat_lt beam 225)) ≡ true

abbrev pub HasBeam : TiaState → Type 0
HasBeam t = IsBeam t.clock t.beam t.longer t.playfield t.mirrored

-- and once the playfield has its bit for this clock
record IsBeamAtPixel (clock beam : ℕ) (longer playfield mirrored : Bool) : Type 0 where
  pub in_line : clock < 228
  pub in_beam : beam < 228
  pub alike : (nat_le 225 clock || (beam == clock)) ≡ true
  pub shown : ((nat_lt clock 68 || longer) || nat_le 68 beam) ≡ true
  pub blank : (not longer || (nat_lt clock 76 || nat_le 225 clock)) ≡ true
  pub bit : (not playfield || nat_le 68 beam) ≡ true
  pub half : (not mirrored || (nat_le 148 beam && nat_lt beam 225)) ≡ true

abbrev HasBeamAtPixel : TiaState → Type 0
HasBeamAtPixel t = IsBeamAtPixel t.clock t.beam t.longer t.playfield t.mirrored

-- writes
reset : (clock beam : ℕ) (longer playfield mirrored : Bool) → IsBeam clock beam longer playfield mirrored
    → IsBeam 225 beam (nat_lt clock 68 || longer) playfield mirrored
reset clock beam longer playfield mirrored h =
    record { in_line = omega arith; in_beam = h.in_beam; alike = refl; shown = h.shown; blank = grind (arith, nat_tests); bit = h.bit; half = h.half }

lengthened : (clock beam : ℕ) (longer playfield mirrored : Bool) → IsBeam clock beam longer playfield mirrored
    → IsBeam clock beam (nat_lt clock 68 || longer) playfield mirrored
lengthened clock beam longer playfield mirrored h =
    record {
      in_line = h.in_line;
      in_beam = h.in_beam;
      alike = h.alike;
      shown = grind (arith, nat_tests, h.shown);
      blank = grind (arith, nat_tests, h.blank);
      bit = h.bit;
      half = h.half;
    }

pub beam-acted : (r : Register) (v : ℕ) (t : TiaState) → HasBeam t → HasBeam (acted r v t)
beam-acted Rsync v t h = reset t.clock t.beam t.longer t.playfield t.mirrored h
beam-acted Hmove v t h = lengthened t.clock t.beam t.longer t.playfield t.mirrored h
beam-acted r v t h = h

beam-at_once : (r : Register) (v : ℕ) (t : TiaState) → HasBeam t → HasBeam (at_once r v t)
beam-at_once Vblank v t h = h
beam-at_once r v t h = h

beam-waiting : (r : Register) (v : ℕ) (t : TiaState) → HasBeam t → HasBeam (with_waiting r v t)
beam-waiting Hmove v t h = h
beam-waiting r v t h = h

pub beam-register_write : (r : Register) (v : ℕ) (t : TiaState) → HasBeam t → HasBeam (after_register_write r v t)
beam-register_write r v t h = cond_both (delay_of r == 0) _ _ HasBeam (λ e. beam-acted r v t h) (λ e. beam-waiting r v (at_once r v t) (beam-at_once r v t h))

beam-waited : (w : Option Waiting) (t : TiaState) → HasBeam t → HasBeam (with_waited w t)
beam-waited None t h = h
beam-waited (Some w) t h = cond_both (w.clocks == 0) _ _ HasBeam (λ e. beam-acted w.register w.value (record t { waiting = None }) h) (λ e. h)

beam-hmove_in : (hmove : Option ℕ) (t : TiaState) → HasBeam t → HasBeam (with_hmove_in hmove t)
beam-hmove_in None t h = h
beam-hmove_in (Some clocks) t h = cond_both (clocks == 0) _ _ HasBeam (λ e. lengthened t.clock t.beam t.longer t.playfield t.mirrored h) (λ e. h)

beam-waited_writes : (t : TiaState) → HasBeam t → HasBeam (with_waited_writes t)
beam-waited_writes t h = beam-hmove_in (with_waited_write t).hmove (with_waited_write t) (beam-waited t.waiting t h)

-- as a line begins
shortened : (clock beam : ℕ) (longer playfield mirrored : Bool) → (clock == 0) ≡ true → IsBeam clock beam longer playfield mirrored
    → IsBeam clock beam false playfield mirrored
shortened clock beam longer playfield mirrored e h =
    record {
      in_line = h.in_line;
      in_beam = h.in_beam;
      alike = h.alike;
      shown = grind (arith, nat_tests, e);
      blank = refl;
      bit = h.bit;
      half = h.half;
    }

beam-line_start : (t : TiaState) → HasBeam t → HasBeam (at_line_start t)
beam-line_start t h = cond_both (t.clock == 0) _ _ HasBeam (λ e. shortened t.clock t.beam t.longer t.playfield t.mirrored e h) (λ e. h)

beam-pulsed : (t : TiaState) → HasBeam t → HasBeam (pulsed t)
beam-pulsed t h = cond_both ((t.clock % 4 == 0) && any_moves t) _ _ HasBeam (λ e. h) (λ e. h)

-- the playfield
untaken : (clock beam : ℕ) (longer playfield mirrored : Bool) → IsBeam clock beam longer playfield mirrored
    → IsBeamAtPixel clock beam longer playfield mirrored
untaken clock beam longer playfield mirrored h =
    record {
      in_line = h.in_line;
      in_beam = h.in_beam;
      alike = h.alike;
      shown = h.shown;
      blank = h.blank;
      bit = grind (arith, nat_tests, h.bit);
      half = grind (arith, nat_tests, h.half);
    }

off : (clock beam : ℕ) (longer playfield mirrored : Bool) → IsBeam clock beam longer playfield mirrored
    → IsBeamAtPixel clock beam longer false mirrored
off clock beam longer playfield mirrored h =
    record {
      in_line = h.in_line;
      in_beam = h.in_beam;
      alike = h.alike;
      shown = h.shown;
      blank = h.blank;
      bit = refl;
      half = grind (arith, nat_tests, h.half);
    }

-- a clock that takes a bit has its beam in the picture
in_picture : (clock beam : ℕ) (longer playfield mirrored : Bool) → nat_lt clock 68 ≡ false → (nat_le 225 clock && longer) ≡ false
    → IsBeam clock beam longer playfield mirrored → nat_le 68 beam ≡ true
in_picture clock beam longer playfield mirrored e f h = grind (arith, nat_tests, h.alike, h.shown, e, f)

implied : (a b : Bool) → b ≡ true → (not a || b) ≡ true
implied true b h = h
implied false b h = refl

half-taken : (beam : ℕ) (mirrored d0 : Bool) → (not mirrored || (nat_le 149 beam && nat_lt beam 225)) ≡ true
    → (not (if beam - 68 == 80 then d0 else mirrored) || (nat_le 148 beam && nat_lt beam 225)) ≡ true
half-taken beam mirrored d0 h =
    cond_both (beam - 68 == 80) _ _ (λ (b : Bool). (not b || (nat_le 148 beam && nat_lt beam 225)) ≡ true)
    (λ e. implied d0 _ (grind (arith, nat_tests, e))) (λ e. grind (arith, nat_tests, h))

beam-taken : (t : TiaState) → nat_le 68 t.beam ≡ true → HasBeam t → HasBeamAtPixel (playfield_at t (t.beam - 68))
beam-taken t e h =
    let x = t.beam - 68 in
    cond_both (x % 4 == 0) _ _ HasBeamAtPixel
    (λ f. record {
      in_line = h.in_line;
      in_beam = h.in_beam;
      alike = h.alike;
      shown = h.shown;
      blank = h.blank;
      bit = implied (playfield_bit t.pf0 t.pf1 t.pf2 (playfield_index (mirrored_at t x) x)) (nat_le 68 t.beam) e;
      half = half-taken t.beam t.mirrored (has_bit t.ctrlpf 0) h.half;
    }) (λ f. untaken t.clock t.beam t.longer t.playfield t.mirrored h)

beam-playfield : (t : TiaState) → HasBeam t → HasBeamAtPixel (with_playfield t)
beam-playfield t h =
    cond_both (nat_lt t.clock 68) _ _ HasBeamAtPixel (λ e. untaken t.clock t.beam t.longer t.playfield t.mirrored h)
    (λ e. cond_both (nat_le 225 t.clock && t.longer) _ _ HasBeamAtPixel (λ f. off t.clock t.beam t.longer t.playfield t.mirrored h)
    (λ f. beam-taken t (in_picture t.clock t.beam t.longer t.playfield t.mirrored e f h) h))

beam-stepped : (t : TiaState) → HasBeamAtPixel t → HasBeamAtPixel (stepped t)
beam-stepped t h = cond_both (is_in_blank t) _ _ HasBeamAtPixel (λ e. h) (λ e. h)

-- the next clock
first : IsBeam 0 0 false false false
first = record { in_line = omega arith; in_beam = omega arith; alike = refl; shown = refl; blank = refl; bit = refl; half = refl }

next : (clock beam : ℕ) (longer playfield mirrored : Bool) → (clock == 227) ≡ false → IsBeamAtPixel clock beam longer playfield mirrored
    → IsBeam (clock + 1) (min (beam + 1) 227) (longer && not (clock == 75)) (playfield && not (min (beam + 1) 227 % 4 == 0)) (mirrored && nat_lt (min (beam + 1) 227) 225)
next clock beam longer playfield mirrored e h =
    record {
      in_line = grind (arith, nat_tests, h.in_line, e);
      in_beam = omega arith;
      alike = grind (arith, nat_tests, h.alike, h.in_line, e);
      shown = grind (arith, nat_tests, h.shown, h.alike, h.blank, e);
      blank = grind (arith, nat_tests, h.blank, e);
      bit = grind (arith, nat_tests, h.bit, h.in_beam);
      half = grind (arith, nat_tests, h.half, h.in_beam);
    }

beam-without_rest : (t : TiaState) (longer playfield mirrored : Bool) → HasBeam (record t { playfield = t.playfield && not (t.beam % 4 == 0); mirrored = t.mirrored && nat_lt t.beam 225 })
    → HasBeam (without_rest t)
beam-without_rest t longer playfield mirrored h = cond_both (is_in_blank t) _ _ HasBeam (λ e. h) (λ e. h)

beam-next_clock : (t : TiaState) → HasBeamAtPixel t → HasBeam (with_next_clock t)
beam-next_clock t h =
    cond_both (t.clock == 227) _ _ HasBeam (λ e. first)
    (λ e. beam-without_rest (at_next_clock t) t.longer t.playfield t.mirrored (next t.clock t.beam t.longer t.playfield t.mirrored e h))

pub beam-clock : (t : TiaState) → HasBeam t → HasBeam (after_clock t)
unfolding after_clock at_pixel
beam-clock t h =
    let waited = with_waited_writes t in
    let begun = at_line_start waited in
    let moved = pulsed begun in
    let drawn = with_playfield moved in
    let pixel = beam-stepped drawn (beam-playfield moved (beam-pulsed begun (beam-line_start waited (beam-waited_writes t h)))) in
    beam-next_clock (latched (at_pixel t)) pixel

-- a longer blank isn't so at clock 0
abbrev pub HasStart : TiaState → Type 0
HasStart t = (not t.longer || not (t.clock == 0)) ≡ true

started : (clock : ℕ) (longer : Bool) → (not longer || not (clock + 1 == 0)) ≡ true
started clock longer = grind (arith, nat_tests)

start-next_clock : (t : TiaState) → HasStart (with_next_clock t)
start-next_clock t =
    let later = started t.clock (t.longer && not (t.clock == 75)) in
    cond_both (t.clock == 227) _ _ HasStart (λ e. refl) (λ e. cond_both (is_in_blank (at_next_clock t)) _ _ HasStart (λ f. later) (λ f. later))

pub start-clock : (t : TiaState) → HasStart (after_clock t)
unfolding after_clock at_pixel
start-clock t = start-next_clock (latched (at_pixel t))

-- An HMOVE doesn't act with its write.
pub start-register_write : (r : Register) (v : ℕ) (t : TiaState) → HasStart t → HasStart (after_register_write r v t)
start-register_write Rsync v t h = implied (is_in_blank t) true refl
start-register_write r v t h = h

-- in the picture nothing that was seen is kept
abbrev pub HasSeen : TiaState → Type 0
HasSeen t = (is_in_blank t || (seen_number t == 0)) ≡ true

or-left : (a b : Bool) → a ≡ true → (a || b) ≡ true
or-left true b h = refl
or-left false b h = absurd (false≢true h)

or-right : (a : Bool) → (a || true) ≡ true
or-right true = refl
or-right false = refl

seen-without_rest : (t : TiaState) → HasSeen (without_rest t)
seen-without_rest t =
    cond_both (is_in_blank t) _ _ HasSeen (λ e. or-left (is_in_blank t) (seen_number t == 0) e) (λ e. or-right (is_in_blank t))

seen-next_clock : (t : TiaState) → HasSeen (with_next_clock t)
seen-next_clock t = cond_both (t.clock == 227) _ _ HasSeen (λ e. refl) (λ e. seen-without_rest (at_next_clock t))

pub seen-clock : (t : TiaState) → HasSeen (after_clock t)
unfolding after_clock at_pixel
seen-clock t = seen-next_clock (latched (at_pixel t))

abbrev IsSeen : Bool → Bool → Bool → Bool → Bool → Bool → Type 0
IsSeen in_blank player0 player1 missile0 missile1 ball =
    (in_blank || (number_from 0 (ball ∷ missile1 ∷ missile0 ∷ player1 ∷ player0 ∷ []) == 0)) ≡ true

seen-alike : (in_blank p q p' q' m n b : Bool) → p' ≡ p → q' ≡ q → IsSeen in_blank p q m n b → IsSeen in_blank p' q' m n b
seen-alike in_blank p q p' q' m n b i j h = rw (i, j) h

seen-lengthened : (a longer b : Bool) → ((a || longer) || b) ≡ true → ((a || (a || longer)) || b) ≡ true
seen-lengthened true longer b h = refl
seen-lengthened false longer b h = h

seen-acted : (r : Register) (v : ℕ) (t : TiaState) → HasSeen t → HasSeen (acted r v t)
seen-acted Nusiz0 v t h =
    seen-alike (is_in_blank t) _ _ _ _ _ _ _ (resized-alike (is_in_blank t) (register_bits Nusiz0 v) t.player0).1 refl h
seen-acted Nusiz1 v t h =
    seen-alike (is_in_blank t) _ _ _ _ _ _ _ refl (resized-alike (is_in_blank t) (register_bits Nusiz1 v) t.player1).1 h
seen-acted Hmove v t h = seen-lengthened (nat_lt t.clock 68) t.longer (seen_number t == 0) h
seen-acted r v t h = h

-- in the picture a write looks at no player
seen-changed : (in_blank : Bool) (x y x' y' : Player) (m n b : Bool) → IsSeen in_blank x'.seen y'.seen m n b
    → IsSeen in_blank (player_after_write in_blank x x').seen (player_after_write in_blank y y').seen m n b
seen-changed true x y x' y' m n b h = refl
seen-changed false x y x' y' m n b h = h

seen-action : (r : Register) (v : ℕ) (t : TiaState) → HasSeen t → HasSeen (after_action r v t)
seen-action r v t h =
    let after = acted r v t in
    seen-changed (is_in_blank after) t.player0 t.player1 after.player0 after.player1 after.missile0.seen after.missile1.seen after.ball.seen (seen-acted r v t h)

seen-at_once : (r : Register) (v : ℕ) (t : TiaState) → HasSeen t → HasSeen (at_once r v t)
seen-at_once Vblank v t h = h
seen-at_once r v t h = h

seen-waiting : (r : Register) (v : ℕ) (t : TiaState) → HasSeen t → HasSeen (with_waiting r v t)
seen-waiting Hmove v t h = h
seen-waiting r v t h = h

pub seen-register_write : (r : Register) (v : ℕ) (t : TiaState) → HasSeen t → HasSeen (after_register_write r v t)
seen-register_write r v t h =
    cond_both (delay_of r == 0) _ _ HasSeen (λ e. seen-action r v t h) (λ e. seen-waiting r v (at_once r v t) (seen-at_once r v t h))

-- all three
abbrev pub HasLine : TiaState → Type 0
HasLine t = HasBeam t × HasStart t × HasSeen t

pub line-clock : (t : TiaState) → HasLine t → HasLine (after_clock t)
line-clock t h = (beam-clock t h.0, start-clock t, seen-clock t)

pub line-write : (r : Register) (v : ℕ) (t : TiaState) → HasLine t → HasLine (after_register_write r v t)
line-write r v t h = (beam-register_write r v t h.0, start-register_write r v t h.1, seen-register_write r v t h.2)

pub line-read : (t : TiaState) (number : ℕ) → HasLine t → HasLine (tia_after_read t number)
line-read t number h =
    cond_both (not (has_bit t.vblank 6)) _ _ HasLine (λ e. h)
    (λ e. cond_both ((number % 16 == 12) && t.fire0) _ _ HasLine (λ f. h) (λ f. cond_both ((number % 16 == 13) && t.fire1) _ _ HasLine (λ g. h) (λ g. h)))
