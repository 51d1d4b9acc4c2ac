-- One clock keeps what is true of the numbers of a TIA but those of its beam, and so does a read.
use Rattle.std.proofs.Common.{◌≡◌, ℕ, zero, suc, ◌+◌, ◌-◌, ◌*◌, ◌%◌, ◌<◌, ◌==◌, ◌&&◌, ◌||◌, not, min, Bool, true, false, arith, refl, if◌then◌else◌, rules, bit_or}
use Rattle.std.proofs.lemmas.Bool.{cond_both, not-false}
use Rattle.std.proofs.lemmas.Nat.{or_lt}
use Rattle.std.specs.Prelude.{List, [], ◌∷◌, length, map, nat_le, nat_lt}
use Rattle.tia_chip.proofs.UnderwayBall.{ball-looked_at, ball-pulsed, ball-stepped, ball-unseen}
use Rattle.tia_chip.proofs.UnderwayBall as ball
use Rattle.tia_chip.proofs.UnderwayMissiles.{missile-looked_at, missile-pulsed, missile-stepped, missile-unseen}
use Rattle.tia_chip.proofs.UnderwayNumbers.{HasNumbers, moves-alike, waited_writes-kept}
use Rattle.tia_chip.proofs.UnderwayPlayers.{player-looked_at, player-pulsed, player-stepped, player-unseen, stepped-moves}
use Rattle.tia_chip.specs.Bits.{has_bit}
use Rattle.tia_chip.specs.Blank.{is_in_blank}
use Rattle.tia_chip.specs.Clock.{after_clock, at_line_start, at_next_clock, at_next_line, at_pixel, stepped}
use Rattle.tia_chip.specs.Clock.{with_next_clock, without_rest, without_seen}
use Rattle.tia_chip.specs.Collision.{is_latching, latched, meets, number_from, pair_table, pairs_of}
use Rattle.tia_chip.specs.Ball.{ball_after_step}
use Rattle.tia_chip.specs.Missile.{missile_after_step}
use Rattle.tia_chip.specs.Player.{player_after_step}
use Rattle.tia_chip.specs.Motion.{after_pulse, any_moves, pulsed}
use Rattle.tia_chip.specs.Objects.{lit_objects}
use Rattle.tia_chip.specs.Playfield.{playfield_at, with_playfield}
use Rattle.tia_chip.specs.Read.{tia_after_read}
use Rattle.tia_chip.specs.declared.objects.Objects.{Objects}
use Rattle.tia_chip.specs.declared.state.TiaState.{TiaState}

line_start-kept : (t : TiaState) → HasNumbers t → HasNumbers (at_line_start t)
line_start-kept t h =
    let begun : HasNumbers (record t { longer = false }) = search rules in
    cond_both (t.clock == 0) _ _ HasNumbers (λ e. begun) (λ e. h)

-- pulses
counted-none : (moves : Bool) (pulses : ℕ) → (moves || ((if moves then min (pulses + 1) 16 else 0) == 0)) ≡ true
counted-none true pulses = refl
counted-none false pulses = refl

counted-small : (moves : Bool) (pulses : ℕ) → (if moves then min (pulses + 1) 16 else 0) < 17
counted-small true pulses = omega arith
counted-small false pulses = omega arith

after_pulse-kept : (t : TiaState) → HasNumbers t → HasNumbers (after_pulse t)
after_pulse-kept t h = search (rules, player-pulsed, missile-pulsed, ball-pulsed, counted-none, counted-small)

pulsed-kept : (t : TiaState) → HasNumbers t → HasNumbers (pulsed t)
pulsed-kept t h = cond_both ((t.clock % 4 == 0) && any_moves t) _ _ HasNumbers (λ e. after_pulse-kept t h) (λ e. h)

-- the playfield is none of these numbers
playfield_at-kept : (t : TiaState) (x : ℕ) → HasNumbers t → HasNumbers (playfield_at t x)
playfield_at-kept t x h =
    let taken : (playfield mirrored : Bool) → HasNumbers (record t { playfield = playfield; mirrored = mirrored }) = λ playfield mirrored. search rules in
    cond_both (x % 4 == 0) _ _ HasNumbers (λ e. taken _ _) (λ e. h)

with_playfield-kept : (t : TiaState) → HasNumbers t → HasNumbers (with_playfield t)
with_playfield-kept t h =
    let off : HasNumbers (record t { playfield = false }) = search rules in
    cond_both (nat_lt t.clock 68) _ _ HasNumbers (λ e. h)
    (λ e. cond_both (nat_le 225 t.clock && t.longer) _ _ HasNumbers (λ f. off) (λ f. playfield_at-kept t (t.beam - 68) h))

-- steps in the picture
each_stepped-kept : (t : TiaState) → HasNumbers t
    → HasNumbers (record t {
      player0 = player_after_step t.player0;
      player1 = player_after_step t.player1;
      missile0 = missile_after_step t.player0.nusiz t.clock t.missile0;
      missile1 = missile_after_step t.player1.nusiz t.clock t.missile1;
      ball = ball_after_step t.ctrlpf false t.ball;
    })
each_stepped-kept t h =
    let moves = moves-alike _ _ _ _ _ _ _ _ _ _ t.pulses (stepped-moves t.player0) (stepped-moves t.player1) refl refl (ball.stepped-moves t.ctrlpf false t.ball) h.moves in
    search (rules, player-stepped, missile-stepped, ball-stepped, moves)

stepped-kept : (t : TiaState) → HasNumbers t → HasNumbers (stepped t)
stepped-kept t h = cond_both (is_in_blank t) _ _ HasNumbers (λ e. h) (λ e. each_stepped-kept t h)

-- collisions
doubled : ℕ → ℕ → ℕ
doubled zero limit = limit
doubled (suc n) limit = doubled n (2 * limit)

twice-below : (b : Bool) (n limit : ℕ) → n < limit → 2 * n + (if b then 1 else 0) < 2 * limit
twice-below true n limit h = omega arith
twice-below false n limit h = omega arith

number_from-below : (bs : List Bool) (n limit : ℕ) → n < limit → number_from n bs < doubled (length bs) limit
unfolding doubled
number_from-below [] n limit h = h
number_from-below (b ∷ bs) n limit h = number_from-below bs (2 * n + (if b then 1 else 0)) (2 * limit) (twice-below b n limit h)

pairs_of-below : (o : Objects) → pairs_of o < 32768
unfolding pairs_of doubled
pairs_of-below o = number_from-below (map (meets o) pair_table) 0 1 (omega arith)

-- a number of one bit, and one of five
pub bit-below : (b : Bool) → number_from 0 (b ∷ []) < 2
unfolding doubled
bit-below b = number_from-below (b ∷ []) 0 1 (omega arith)

pub five-below : (a b c d e : Bool) → number_from 0 (a ∷ b ∷ c ∷ d ∷ e ∷ []) < 32
unfolding doubled
five-below a b c d e = number_from-below (a ∷ b ∷ c ∷ d ∷ e ∷ []) 0 1 (omega arith)

latched-kept : (t : TiaState) → HasNumbers t → HasNumbers (latched t)
latched-kept t h =
    let pairs = pairs_of (lit_objects t) in
    let collisions : (if is_latching t then bit_or t.collisions pairs else t.collisions) < 32768 =
    cond_both (is_latching t) _ _ (λ n. n < 32768) (λ e. or_lt 15 t.collisions pairs h.collisions (pairs_of-below (lit_objects t))) (λ e. h.collisions)
    in
    search (rules, collisions)

-- the next clock
next_line-kept : (t : TiaState) → HasNumbers t → HasNumbers (at_next_line t)
next_line-kept t h = search (rules, player-looked_at, missile-looked_at, ball-looked_at)

next_clock-kept : (t : TiaState) → HasNumbers t → HasNumbers (at_next_clock t)
next_clock-kept t h = search rules

unseen-kept : (t : TiaState) → HasNumbers t → HasNumbers (without_seen t)
unseen-kept t h = search (rules, player-unseen, missile-unseen, ball-unseen)

without_rest-kept : (t : TiaState) → HasNumbers t → HasNumbers (without_rest t)
without_rest-kept t h =
    let cleared : HasNumbers (record t { playfield = t.playfield && not (t.beam % 4 == 0); mirrored = t.mirrored && nat_lt t.beam 225 }) = search rules in
    cond_both (is_in_blank t) _ _ HasNumbers (λ e. cleared) (λ e. unseen-kept _ cleared)

with_next_clock-kept : (t : TiaState) → HasNumbers t → HasNumbers (with_next_clock t)
with_next_clock-kept t h =
    cond_both (t.clock == 227) _ _ HasNumbers (λ e. next_line-kept t h) (λ e. without_rest-kept (at_next_clock t) (next_clock-kept t h))

pub clock-kept : (t : TiaState) → HasNumbers t → HasNumbers (after_clock t)
unfolding after_clock at_pixel
clock-kept t h =
    let begun = line_start-kept _ (waited_writes-kept t h) in
    with_next_clock-kept _ (latched-kept _ (stepped-kept _ (with_playfield-kept _ (pulsed-kept _ begun))))

-- a read
latches-kept : (t : TiaState) (latches : ℕ) → has_bit t.vblank 6 ≡ true → latches < 4 → HasNumbers t → HasNumbers (record t { latches = latches })
latches-kept t latches e few h =
    let latched : (has_bit t.vblank 6 || (latches == 0)) ≡ true = rw e refl in
    search (rules, few, latched)

first-small : (b : Bool) → 1 + (if b then 2 else 0) < 4
first-small b = grind arith

second-small : (b : Bool) → (if b then 1 else 0) + 2 < 4
second-small b = grind arith

pub read-kept : (t : TiaState) (number : ℕ) → HasNumbers t → HasNumbers (tia_after_read t number)
read-kept t number h =
    cond_both (not (has_bit t.vblank 6)) _ _ HasNumbers (λ e. h)
    (λ e. cond_both ((number % 16 == 12) && t.fire0) _ _ HasNumbers (λ f. latches-kept t _ (not-false _ e) (first-small (has_bit t.latches 1)) h)
    (λ f. cond_both ((number % 16 == 13) && t.fire1) _ _ HasNumbers (λ g. latches-kept t _ (not-false _ e) (second-small (has_bit t.latches 0)) h) (λ g. h)))
