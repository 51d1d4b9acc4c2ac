-- The numbers of a TIA that runs pass the tests of a record's numbers exactly where each of them is as
-- steps and writes keep it.
use Rattle.std.proofs.Common.{◌≡◌, ℕ, ◌%◌, ◌/◌, ◌<◌, ◌≤◌, ◌==◌, ◌&&◌, ◌||◌, not, Bool, true, IsTrue, arith, refl, if◌then◌else◌, rules}
use Rattle.std.proofs.Common.{Option, Some, None, sym, subst, List, [], ◌∷◌}
use Rattle.std.proofs.lemmas.Bool.{and_from, and_parts, eqb-true, false≢true, lt-ltb, ltb-true}
use Rattle.std.proofs.lemmas.Bool.Decides.{nat_tests}
use Rattle.std.specs.Prelude.{IfSome, is_none, nat_le, nat_lt}
use Rattle.record_table.specs.Numbers.{Number, are_lawful}
use Rattle.tia_chip.proofs.NumberLemmas.{of_parts}
use Rattle.tia_chip.proofs.UnderwayBall.{IsBallUnderway}
use Rattle.tia_chip.proofs.UnderwayBeam.{HasBeam, HasLine}
use Rattle.tia_chip.proofs.UnderwayClock.{bit-below, five-below}
use Rattle.tia_chip.proofs.UnderwayMissiles.{IsMissileUnderway}
use Rattle.tia_chip.proofs.UnderwayNumbers.{HasNumbers}
use Rattle.tia_chip.proofs.UnderwayPlayers.{IsPlayerUnderway, IsWidthNumber}
use Rattle.tia_chip.specs.Numbers.{beam_numbers, bit_number, colour_numbers, counter_numbers, is_beam}
use Rattle.tia_chip.specs.Numbers.{is_player, is_settled, is_tia, motion_numbers, object_numbers}
use Rattle.tia_chip.specs.Numbers.{place_numbers, player_copy_number, player_numbers, size_number}
use Rattle.tia_chip.specs.Numbers.{size_numbers, tia_numbers}
use Rattle.tia_chip.specs.Player.{width_of}
use Rattle.tia_chip.specs.Registers.{delay_of}
use Rattle.tia_chip.specs.declared.register.Register.TheVariants.{Hmove}
use Rattle.tia_chip.specs.Underway.{IsOnItsWay, IsUnderway, is_beam_underway}
use Rattle.tia_chip.specs.declared.player.Player.{Player}
use Rattle.tia_chip.specs.declared.state.TiaState.{TiaState}

-- ---- from the tests to each number
abbrev EachLawful : List (Number TiaState) → TiaState → Type 0
EachLawful [] t = Unit {0}
EachLawful (n ∷ ns) t = IsTrue (n.may_be (n.value t)) × EachLawful ns t

each-lawful : (ns : List (Number TiaState)) (t : TiaState) → IsTrue (are_lawful ns t) → EachLawful ns t
each-lawful [] t h = tt
each-lawful (n ∷ ns) t h = let b = and_parts _ _ h in (b.0, each-lawful ns t b.1)

record Tables (t : TiaState) : Type 0 where
  pub colours : EachLawful colour_numbers t
  pub objects : EachLawful object_numbers t
  pub motions : EachLawful motion_numbers t
  pub counters : EachLawful counter_numbers t
  pub players : EachLawful player_numbers t
  pub places : EachLawful place_numbers t
  pub beams : EachLawful beam_numbers t
  pub sizes : EachLawful size_numbers t

tables : (t : TiaState) → IsTrue (are_lawful tia_numbers t) → Tables t
tables t h =
    let sizes = and_parts _ _ (subst (λ (b : Bool). IsTrue b) (of_parts t) h) in
    let beams = and_parts _ _ sizes.0 in
    let places = and_parts _ _ beams.0 in
    let players = and_parts _ _ places.0 in
    let counters = and_parts _ _ players.0 in
    let motions = and_parts _ _ counters.0 in
    let objects = and_parts _ _ motions.0 in
    record {
      colours = each-lawful colour_numbers t objects.0;
      objects = each-lawful object_numbers t objects.1;
      motions = each-lawful motion_numbers t motions.1;
      counters = each-lawful counter_numbers t counters.1;
      players = each-lawful player_numbers t players.1;
      places = each-lawful place_numbers t places.1;
      beams = each-lawful beam_numbers t beams.1;
      sizes = each-lawful size_numbers t sizes.1;
    }

below : (a b : ℕ) → IsTrue (nat_lt a b) → a < b
below a b h = ltb-true a b h

player-more : (p : Player) → IsTrue (is_player p)
    → ((nat_le 7 (player_copy_number p.copy) || (bit_number p.copy == 0)) ≡ true) × IsWidthNumber p.width
    × ((if p.width == width_of p.nusiz then p.change == 0 else not (p.change == 0)) ≡ true)
player-more p h = let b = and_parts _ _ h in let a = and_parts _ _ b.0 in (a.0, a.1, b.1)

pub has_numbers : (t : TiaState) → IsUnderway t → HasNumbers t
has_numbers t h =
    let n = tables t h.numbers in
    let p0 = player-more t.player0 h.player0 in
    let p1 = player-more t.player1 h.player1 in
    let player0 : IsPlayerUnderway t.player0 = search (rules, below) in
    let player1 : IsPlayerUnderway t.player1 = search (rules, below) in
    let missile0 : IsMissileUnderway t.missile0 = search (rules, below) in
    let missile1 : IsMissileUnderway t.missile1 = search (rules, below) in
    let ball : IsBallUnderway t.ball = search (rules, below) in
    search (rules, below)

in_line : (clock : ℕ) → IsTrue (nat_lt (clock / 3) 76) → clock < 228
in_line clock h = let cycle = below _ _ h in omega arith

-- a longer blank by its two conditions
longer-parts : (longer : Bool) (clock : ℕ) → (not longer || (not (clock == 0) && (nat_lt clock 76 || nat_le 225 clock))) ≡ true
    → ((not longer || (nat_lt clock 76 || nat_le 225 clock)) ≡ true) × ((not longer || not (clock == 0)) ≡ true)
longer-parts longer clock h = (grind (arith, nat_tests, h), grind (arith, nat_tests, h))

pub has_line : (t : TiaState) → IsUnderway t → HasLine t
has_line t h =
    let clock = in_line t.clock (tables t h.numbers).beams.1.1.1.1.0 in
    let seen = and_parts _ _ h.beam in
    let half = and_parts _ _ seen.0 in
    let bit = and_parts _ _ half.0 in
    let longer = and_parts _ _ bit.0 in
    let shown = and_parts _ _ longer.0 in
    let alike = and_parts _ _ shown.0 in
    let parts = longer-parts t.longer t.clock longer.1 in
    (record { in_line = clock; in_beam = below t.beam 228 alike.0; alike = alike.1; shown = shown.1; blank = parts.0; bit = bit.1; half = half.1 }, parts.1, seen.1)

-- ---- from each number to the tests
is_below : (a b : ℕ) → a < b → IsTrue (nat_lt a b)
is_below a b h = lt-ltb a b h

from-each : (ns : List (Number TiaState)) (t : TiaState) → EachLawful ns t → IsTrue (are_lawful ns t)
from-each [] t h = refl
from-each (n ∷ ns) t h = and_from _ _ h.0 (from-each ns t h.1)

from-tables : (t : TiaState) → Tables t → IsTrue (are_lawful tia_numbers t)
from-tables t h =
    let objects = and_from _ _ (from-each colour_numbers t h.colours) (from-each object_numbers t h.objects) in
    let counters = and_from _ _ (and_from _ _ objects (from-each motion_numbers t h.motions)) (from-each counter_numbers t h.counters) in
    let places = and_from _ _ (and_from _ _ counters (from-each player_numbers t h.players)) (from-each place_numbers t h.places) in
    let sizes = and_from _ _ (and_from _ _ places (from-each beam_numbers t h.beams)) (from-each size_numbers t h.sizes) in
    subst (λ (b : Bool). IsTrue b) (sym (of_parts t)) sizes

half-width : (width : ℕ) → IsWidthNumber width → width / 2 < 3
half-width width h = grind (arith, nat_tests, h)

size-five : (size : ℕ) → size_number size < 5
size-five size = grind (arith, nat_tests)

in_cycle : (clock : ℕ) → clock < 228 → IsTrue (nat_lt (clock / 3) 76)
in_cycle clock h = is_below (clock / 3) 76 (omega arith)

numbers-tables : (t : TiaState) → HasNumbers t → HasBeam t → Tables t
numbers-tables t h b =
    let p0 = h.player0 in
    let p1 = h.player1 in
    let m0 = h.missile0 in
    let m1 = h.missile1 in
    let l = h.ball in
    record {
      colours = (h.vsync, (h.vblank, (p0.nusiz, (p1.nusiz, (h.colup0, (h.colup1, (h.colupf, (h.colubk, tt))))))));
      objects = (h.ctrlpf, (p0.refp, (p1.refp, (h.pf0, (refl, (refl, (refl, (refl, (refl, (refl, (m0.enam, (m1.enam, (l.enabl_new, (l.enabl_old, tt))))))))))))));
      motions = (p0.hmp, (p1.hmp, (m0.hmm, (m1.hmm, (l.hmbl, (p0.vdelp, (p1.vdelp, (l.vdelbl, (m0.resmp, (m1.resmp, tt))))))))));
      counters = (is_below _ _ p0.counter, (is_below _ _ p1.counter, (is_below _ _ m0.counter, (is_below _ _ m1.counter, (is_below _ _ l.counter, tt)))));
      players = (
        is_below _ _ p0.copy.0,
        (
          is_below _ _ p1.copy.0,
          (
            is_below _ _ p0.copy.1,
            (
              is_below _ _ p1.copy.1,
              (
                is_below _ _ (half-width _ p0.width),
                (is_below _ _ (half-width _ p1.width), (is_below _ _ p0.change.0, (is_below _ _ p1.change.0, tt))),
              ),
            ),
          ),
        ),
      );
      places = (is_below _ _ m0.copy.0, (is_below _ _ m1.copy.0, (is_below _ _ l.place, (is_below _ _ (bit-below t.mirrored), (is_below _ _ (bit-below t.playfield), tt)))));
      beams = (
        is_below _ _ h.collisions,
        (
          is_below _ _ (five-below t.ball.moves t.missile1.moves t.missile0.moves t.player1.moves t.player0.moves),
          (is_below _ _ h.pulses, (is_below _ _ h.latches, (in_cycle t.clock b.in_line, (is_below _ _ (bit-below t.longer), tt)))),
        ),
      );
      sizes = (
        is_below _ _ m0.copy.1,
        (
          is_below _ _ m1.copy.1,
          (
            is_below _ _ (size-five t.ball.own_size),
            (
              is_below _ _ l.phase,
              (is_below _ _ (five-below t.ball.seen t.missile1.seen t.missile0.seen t.player1.seen t.player0.seen), tt),
            ),
          ),
        ),
      );
    }

player-whole : (p : Player) → IsPlayerUnderway p → IsTrue (is_player p)
player-whole p h = and_from _ _ (and_from _ _ h.copy.2 h.width) h.change.1

longer-whole : (longer : Bool) (clock : ℕ) → (not longer || (nat_lt clock 76 || nat_le 225 clock)) ≡ true → (not longer || not (clock == 0)) ≡ true
    → (not longer || (not (clock == 0) && (nat_lt clock 76 || nat_le 225 clock))) ≡ true
longer-whole longer clock h k = grind (arith, nat_tests, h, k)

pub is_underway : (t : TiaState) → HasNumbers t → HasLine t → IsUnderway t
is_underway t h line =
    let b = line.0 in
    let longer = longer-whole t.longer t.clock b.blank line.1 in
    record {
      numbers = from-tables t (numbers-tables t h b);
      player0 = player-whole t.player0 h.player0;
      player1 = player-whole t.player1 h.player1;
      missile0 = h.missile0.copy.2;
      missile1 = h.missile1.copy.2;
      ball = h.ball.own_size;
      beam = and_from _ _ (and_from _ _ (and_from _ _ (and_from _ _ (and_from _ _ (and_from _ _ (is_below _ _ b.in_beam) b.alike) b.shown) longer) b.bit) b.half) line.2;
      pulses = h.moves;
      latches = h.latched;
      waiting = h.waiting;
      hmove = h.hmove;
    }

-- ---- a record's numbers
eq-of : (a b : ℕ) → IsTrue (a == b) → a ≡ b
eq-of a b h = eqb-true a b h

none-holds : {A : Type 0} (o : Option A) (P : A → Type 0) → is_none o ≡ true → IfSome o P
none-holds None P h = tt
none-holds (Some x) P h = absurd (false≢true h)

beam-settled : (t : TiaState) → t.clock < 228 → t.beam ≡ t.clock → IsTrue (is_beam t) → IsTrue (is_beam_underway t)
beam-settled t few e h =
    let alike : (nat_le 225 t.clock || (t.beam == t.clock)) ≡ true = grind (arith, nat_tests, e) in
    let shown : ((nat_lt t.clock 68 || t.longer) || nat_le 68 t.beam) ≡ true = grind (arith, nat_tests, e) in
    let seen = and_parts _ _ h in
    let half = and_parts _ _ seen.0 in
    let bit = and_parts _ _ half.0 in
    let bit_taken : (not t.playfield || (nat_le 69 t.beam && not (t.beam % 4 == 0))) ≡ true = rw e bit.1 in
    let half_taken : (not t.mirrored || (nat_le 149 t.beam && nat_lt t.beam 225)) ≡ true = rw e half.1 in
    and_from _ _ (and_from _ _ (and_from _ _ (and_from _ _ (and_from _ _ (and_from _ _ (is_below t.beam 228 (omega arith)) alike) shown) bit.0) bit_taken) half_taken) seen.1

pub underway-record : (t : TiaState) → IsTrue (is_tia t) → IsTrue (is_settled t) → IsUnderway t
unfolding is_tia
underway-record t h s =
    let latches = and_parts _ _ h in
    let pulses = and_parts _ _ latches.0 in
    let beam = and_parts _ _ pulses.0 in
    let ball = and_parts _ _ beam.0 in
    let missile1 = and_parts _ _ ball.0 in
    let missile0 = and_parts _ _ missile1.0 in
    let player1 = and_parts _ _ missile0.0 in
    let player0 = and_parts _ _ player1.0 in
    let fire1 = and_parts _ _ s in
    let fire0 = and_parts _ _ fire1.0 in
    let line = and_parts _ _ fire0.0 in
    let same = and_parts _ _ line.0 in
    let changed = and_parts _ _ same.0 in
    let none = and_parts _ _ changed.0 in
    let clock = in_line t.clock (tables t player0.0).beams.1.1.1.1.0 in
    record {
      numbers = player0.0;
      player0 = player0.1;
      player1 = player1.1;
      missile0 = missile0.1;
      missile1 = missile1.1;
      ball = ball.1;
      beam = beam-settled t clock (eq-of t.beam t.clock same.1) beam.1;
      pulses = pulses.1;
      latches = latches.1;
      waiting = none-holds t.waiting IsOnItsWay none.0;
      hmove = none-holds t.hmove (λ clocks. clocks ≤ delay_of Hmove) none.1;
    }

beam-record : (t : TiaState) → t.beam ≡ t.clock → IsTrue (is_beam_underway t) → IsTrue (is_beam t)
beam-record t e h =
    let seen = and_parts _ _ h in
    let half = and_parts _ _ seen.0 in
    let bit = and_parts _ _ half.0 in
    let longer = and_parts _ _ bit.0 in
    let bit_taken : (not t.playfield || (nat_le 69 t.clock && not (t.clock % 4 == 0))) ≡ true = rw (← e) bit.1 in
    let half_taken : (not t.mirrored || (nat_le 149 t.clock && nat_lt t.clock 225)) ≡ true = rw (← e) half.1 in
    and_from _ _ (and_from _ _ (and_from _ _ longer.1 bit_taken) half_taken) seen.1

pub record-underway : (t : TiaState) → IsUnderway t → IsTrue (is_settled t) → IsTrue (is_tia t)
unfolding is_tia
record-underway t h s =
    let fire1 = and_parts _ _ s in
    let fire0 = and_parts _ _ fire1.0 in
    let line = and_parts _ _ fire0.0 in
    let same = and_parts _ _ line.0 in
    let beam = beam-record t (eq-of t.beam t.clock same.1) h.beam in
    let objects = and_from _ _ (and_from _ _ (and_from _ _ (and_from _ _ (and_from _ _ h.numbers h.player0) h.player1) h.missile0) h.missile1) h.ball in
    and_from _ _ (and_from _ _ (and_from _ _ objects beam) h.pulses) h.latches
