-- The numbers of a TIA but those of its beam, and that what a write does keeps what is true of them.
use Rattle.std.proofs.Common.{◌≡◌, ℕ, ◌+◌, ◌-◌, ◌*◌, ◌^◌, ◌<◌, ◌≤◌, ◌==◌, ◌||◌, Bool, true, false, arith, refl, if◌then◌else◌}
use Rattle.std.proofs.Common.{Option, Some, None, zero, suc, rules, bit_and, ap}
use Rattle.std.proofs.lemmas.Bool.{cond_both, eq-eqb, true≢false}
use Rattle.std.proofs.lemmas.Bool.Decides.{nat_tests}
use Rattle.std.proofs.lemmas.Nat.Bits.{bit_at_and, same_from_bits, and_pow, bit_at-lt}
use Rattle.std.specs.Int.{bit_at}
use Rattle.std.specs.Prelude.{IfSome}
use Rattle.tia_chip.proofs.UnderwayBall.{IsBallUnderway, ball-strobed, ball-moved}
use Rattle.tia_chip.proofs.UnderwayMissiles.{IsMissileUnderway, missile-moved, missile-resized, missile-strobed, missile-released}
use Rattle.tia_chip.proofs.UnderwayPlayers.{IsPlayerUnderway, player-moved, player-resized, player-strobed, player-written}
use Rattle.tia_chip.proofs.UnderwayPlayers.{resized-alike, written-moves}
use Rattle.tia_chip.specs.Bits.{has_bit}
use Rattle.tia_chip.specs.Blank.{is_in_blank, lateness_of}
use Rattle.tia_chip.specs.Motion.{any_moves}
use Rattle.tia_chip.specs.PlayerWidth.{player_after_nusiz}
use Rattle.tia_chip.specs.Registers.{delay_of, fits_register, mask_of, register_bits}
use Rattle.tia_chip.specs.Underway.{IsOnItsWay}
use Rattle.tia_chip.specs.Write.{acted, after_action, after_register_write, at_once}
use Rattle.tia_chip.specs.Write.{vblank_of, with_changes, with_hmove_in, with_waited}
use Rattle.tia_chip.specs.Write.{with_waited_write, with_waited_writes, with_waiting}
use Rattle.tia_chip.specs.declared.register.Register.{Register}
use Rattle.tia_chip.specs.declared.register.Register.TheVariants.{Vsync, Vblank}
use Rattle.tia_chip.specs.declared.register.Register.TheVariants.{Nusiz0, Nusiz1, Colup0, Colup1}
use Rattle.tia_chip.specs.declared.register.Register.TheVariants.{Colupf, Colubk, Ctrlpf}
use Rattle.tia_chip.specs.declared.register.Register.TheVariants.{Pf0, Resp0}
use Rattle.tia_chip.specs.declared.register.Register.TheVariants.{Resp1, Resm0, Resm1, Resbl}
use Rattle.tia_chip.specs.declared.register.Register.TheVariants.{Resmp0, Resmp1}
use Rattle.tia_chip.specs.declared.register.Register.TheVariants.{Hmove}
use Rattle.tia_chip.specs.declared.state.TiaState.{TiaState}
use Rattle.tia_chip.specs.declared.waiting.Waiting.{Waiting}

pub record HasNumbers (t : TiaState) : Type 0 where
  pub vsync : fits_register Vsync t.vsync ≡ true
  pub vblank : fits_register Vblank t.vblank ≡ true
  pub colup0 : fits_register Colup0 t.colup0 ≡ true
  pub colup1 : fits_register Colup1 t.colup1 ≡ true
  pub colupf : fits_register Colupf t.colupf ≡ true
  pub colubk : fits_register Colubk t.colubk ≡ true
  pub ctrlpf : fits_register Ctrlpf t.ctrlpf ≡ true
  pub pf0 : fits_register Pf0 t.pf0 ≡ true
  pub player0 : IsPlayerUnderway t.player0
  pub player1 : IsPlayerUnderway t.player1
  pub missile0 : IsMissileUnderway t.missile0
  pub missile1 : IsMissileUnderway t.missile1
  pub ball : IsBallUnderway t.ball
  pub collisions : t.collisions < 32768
  pub pulses : t.pulses < 17
  pub moves : (any_moves t || (t.pulses == 0)) ≡ true
  pub latches : t.latches < 4
  pub latched : (has_bit t.vblank 6 || (t.latches == 0)) ≡ true
  pub waiting : IfSome t.waiting IsOnItsWay
  pub hmove : IfSome t.hmove (λ clocks. clocks ≤ delay_of Hmove)

-- the bits that a register keeps
and-twice : (n m : ℕ) → bit_and (bit_and n m) m ≡ bit_and n m
and-twice n m = same_from_bits _ _ (λ i. rw (bit_at_and (bit_and n m) m i, bit_at_and n m i) (omega arith))

pub fits-bits : (r : Register) (v : ℕ) → fits_register r (register_bits r v) ≡ true
fits-bits r v = eq-eqb _ _ (and-twice v (mask_of r))

fits-two : (a b : ℕ) → a < 2 → b < 2 → fits_register Vblank (a * 2 ^ 6 + b * 2 ^ 1) ≡ true
fits-two zero zero h k = refl
fits-two zero (suc zero) h k = refl
fits-two (suc zero) zero h k = refl
fits-two (suc zero) (suc zero) h k = refl
fits-two (suc (suc a)) b h k = absurd (omega arith)
fits-two a (suc (suc b)) h k = absurd (omega arith)

fits-vblank : (six one : ℕ) → fits_register Vblank (vblank_of six one) ≡ true
fits-vblank six one = rw (and_pow six 6, and_pow one 1) (fits-two (bit_at six 6) (bit_at one 1) (bit_at-lt six 6) (bit_at-lt one 1))

-- D6 is that of the first value
vblank-six : (six one : ℕ) → has_bit (vblank_of six one) 6 ≡ has_bit six 6
vblank-six six one = rw (and_pow six 6, and_pow one 1) (ap (λ (n : ℕ). n == 1) (omega (arith, bit_at-lt six 6, bit_at-lt one 1)))

lateness-small : (t : TiaState) → lateness_of t ≤ 2
lateness-small t = grind (arith, nat_tests)

-- an object moves, or no pulse is counted
abbrev pub HasMoves : Bool → Bool → Bool → Bool → Bool → ℕ → Type 0
HasMoves player0 player1 missile0 missile1 ball pulses =
    ((player0 || player1 || missile0 || missile1 || ball) || (pulses == 0)) ≡ true

pub moves-alike : (a b c d e a' b' c' d' e' : Bool) (pulses : ℕ) → a' ≡ a → b' ≡ b → c' ≡ c → d' ≡ d → e' ≡ e
    → HasMoves a b c d e pulses → HasMoves a' b' c' d' e' pulses
moves-alike a b c d e a' b' c' d' e' pulses i j k l m h = rw (i, j, k, l, m) h

-- what a write changes
pub acted-kept : (r : Register) (v : ℕ) (t : TiaState) → HasNumbers t → HasNumbers (acted r v t)
acted-kept Vblank v t h =
    let latched : (has_bit (vblank_of t.vblank v) 6 || (t.latches == 0)) ≡ true = rw (vblank-six t.vblank v) h.latched in
    search (rules, fits-vblank, latched)
acted-kept Nusiz0 v t h =
    let p = player_after_nusiz (is_in_blank t) (register_bits Nusiz0 v) t.player0 in
    let moves : HasMoves p.moves t.player1.moves t.missile0.moves t.missile1.moves t.ball.moves t.pulses =
    moves-alike _ _ _ _ _ _ _ _ _ _ _ (resized-alike (is_in_blank t) (register_bits Nusiz0 v) t.player0).0 refl refl refl refl h.moves
    in
    search (rules, player-resized, missile-resized, fits-bits, moves)
acted-kept Nusiz1 v t h =
    let p = player_after_nusiz (is_in_blank t) (register_bits Nusiz1 v) t.player1 in
    let moves : HasMoves t.player0.moves p.moves t.missile0.moves t.missile1.moves t.ball.moves t.pulses =
    moves-alike _ _ _ _ _ _ _ _ _ _ _ refl (resized-alike (is_in_blank t) (register_bits Nusiz1 v) t.player1).0 refl refl refl h.moves
    in
    search (rules, player-resized, missile-resized, fits-bits, moves)
acted-kept Hmove v t h = search (rules, player-moved, missile-moved, ball-moved)
acted-kept Resp0 v t h = search (rules, player-strobed, lateness-small)
acted-kept Resp1 v t h = search (rules, player-strobed, lateness-small)
acted-kept Resm0 v t h = search (rules, missile-strobed, lateness-small)
acted-kept Resm1 v t h = search (rules, missile-strobed, lateness-small)
acted-kept Resbl v t h = search (rules, ball-strobed, lateness-small)
acted-kept Resmp0 v t h = search (rules, missile-released, fits-bits)
acted-kept Resmp1 v t h = search (rules, missile-released, fits-bits)
acted-kept r v t h = search (rules, fits-bits)

changes-kept : (before after : TiaState) → HasNumbers after → HasNumbers (with_changes before after)
changes-kept before after h =
    let player0 = written-moves (is_in_blank after) before.player0 after.player0 in
    let player1 = written-moves (is_in_blank after) before.player1 after.player1 in
    let moves : (any_moves (with_changes before after) || (after.pulses == 0)) ≡ true =
    moves-alike _ _ _ _ _ _ _ _ _ _ _ player0 player1 refl refl refl h.moves
    in
    search (rules, player-written, moves)

pub action-kept : (r : Register) (v : ℕ) (t : TiaState) → HasNumbers t → HasNumbers (after_action r v t)
action-kept r v t h = changes-kept t (acted r v t) (acted-kept r v t h)

-- a write that is put on its way
latch-cleared : (b : Bool) (latches : ℕ) → (b || ((if b then latches else 0) == 0)) ≡ true
latch-cleared true latches = refl
latch-cleared false latches = refl

at_once-kept : (r : Register) (v : ℕ) (t : TiaState) → HasNumbers t → HasNumbers (at_once r v t)
at_once-kept Vblank v t h =
    let latches : (if has_bit v 6 then t.latches else 0) < 4 = cond_both (has_bit v 6) _ _ (λ n. n < 4) (λ e. h.latches) (λ e. omega arith) in
    let latched : (has_bit (vblank_of v t.vblank) 6 || ((if has_bit v 6 then t.latches else 0) == 0)) ≡ true =
    rw (vblank-six v t.vblank) (latch-cleared (has_bit v 6) t.latches)
    in
    search (rules, fits-vblank, latches, latched)
at_once-kept r v t h = h

-- all but HMOVE wait at most two clocks
waits : (r : Register) → (delay_of r == 0) ≡ false → (delay_of r == 6) ≡ false → (1 ≤ delay_of r) × (delay_of r ≤ 2) × (delay_of r ≤ delay_of r)
waits Hmove e f = absurd (true≢false f)
waits r e f = (grind (arith, nat_tests, e), omega arith, omega arith)

waiting-kept : (r : Register) (v : ℕ) (t : TiaState) → (delay_of r == 0) ≡ false → HasNumbers t → HasNumbers (with_waiting r v t)
waiting-kept Hmove v t e h = search (rules, arith)
waiting-kept r v t e h = let w = waits r e refl in search (rules, w)

pub register_write-kept : (r : Register) (v : ℕ) (t : TiaState) → HasNumbers t → HasNumbers (after_register_write r v t)
register_write-kept r v t h =
    cond_both (delay_of r == 0) _ _ HasNumbers (λ e. action-kept r v t h)
    (λ e. waiting-kept r v (at_once r v t) e (at_once-kept r v t h))

-- writes that were on their way
waited-kept : (w : Option Waiting) (t : TiaState) → IfSome w IsOnItsWay → HasNumbers t → HasNumbers (with_waited w t)
waited-kept None t k h = h
waited-kept (Some w) t k h =
    let none : HasNumbers (record t { waiting = None }) = search rules in
    let nearer : IsOnItsWay (record w { clocks = w.clocks - 1 }) = (k.0, k.1, omega arith) in
    let later : HasNumbers (record t { waiting = Some (record w { clocks = w.clocks - 1 }) }) = search (rules, nearer) in
    cond_both (w.clocks == 0) _ _ HasNumbers (λ e. action-kept w.register w.value _ none) (λ e. later)

hmove_in-kept : (hmove : Option ℕ) (t : TiaState) → IfSome hmove (λ clocks. clocks ≤ delay_of Hmove) → HasNumbers t → HasNumbers (with_hmove_in hmove t)
hmove_in-kept None t k h = h
hmove_in-kept (Some clocks) t k h =
    let none : HasNumbers (record t { hmove = None }) = search rules in
    let nearer : clocks - 1 ≤ 6 = omega arith in
    let later : HasNumbers (record t { hmove = Some (clocks - 1) }) = search (rules, nearer) in
    cond_both (clocks == 0) _ _ HasNumbers (λ e. acted-kept Hmove 0 _ none) (λ e. later)

pub waited_writes-kept : (t : TiaState) → HasNumbers t → HasNumbers (with_waited_writes t)
waited_writes-kept t h =
    let written = waited-kept t.waiting t h.waiting h in
    hmove_in-kept (with_waited_write t).hmove (with_waited_write t) written.hmove written
