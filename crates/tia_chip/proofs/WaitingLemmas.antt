-- Writes on their way: a clock with which none acts is one without them, and they are a clock nearer.
use Rattle.std.proofs.Common.{◌≡◌, ◌∙◌, ℕ, zero, suc, ◌+◌, ◌-◌, ◌%◌, ◌<◌, ◌≤◌, ◌==◌, ◌&&◌, not, Bool, true, false, arith, refl, ap, sym, if◌then◌else◌}
use Rattle.std.proofs.Common.{Option, Some, None}
use Rattle.std.proofs.lemmas.Bool.{cond-false, cond-true, cond_both, eq-eqb, ne_eqb}
use Rattle.std.specs.Fn.{iterate}
use Rattle.std.specs.Prelude.{nat_le, nat_lt}
use Rattle.tia_chip.specs.Ball.{ball_after_step}
use Rattle.tia_chip.specs.Blank.{is_in_blank}
use Rattle.tia_chip.specs.Clock.{after_clock, at_line_start, at_next_clock, at_next_line, at_pixel, stepped, with_next_clock, without_rest, without_seen}
use Rattle.tia_chip.specs.Clocks.{sink_after_clocks, with_pixel}
use Rattle.tia_chip.specs.Collision.{latched}
use Rattle.tia_chip.specs.Colour.{pixel_of}
use Rattle.tia_chip.specs.Missile.{missile_after_step}
use Rattle.tia_chip.specs.Motion.{after_hmove, after_pulse, any_moves, pulsed}
use Rattle.tia_chip.specs.Player.{player_after_step}
use Rattle.tia_chip.specs.Playfield.{mirrored_at, playfield_at, playfield_bit, playfield_index, with_playfield}
use Rattle.tia_chip.specs.Private.Late.{acts_late}
use Rattle.tia_chip.specs.Registers.{delay_of, register_of}
use Rattle.tia_chip.specs.Write.{acted, after_action, after_register_write, tia_after_write, with_hmove_in, with_waited, with_waited_hmove, with_waited_write, with_waited_writes}
use Rattle.tia_chip.specs.declared.register.Register.{Register}
use Rattle.tia_chip.specs.declared.register.Register.TheVariants.{Rsync}
use Rattle.tia_chip.specs.declared.state.TiaState.{TiaState}
use Rattle.tia_chip.specs.declared.waiting.Waiting.{Waiting}

-- a TIA with these writes on their way
abbrev on : Option Waiting → Option ℕ → TiaState → TiaState
on waiting hmove t = record t { waiting = waiting; hmove = hmove }

pub of-both : {A B : Type 0} (b : Bool) (x y : A) (f : A → B) → (if b then f x else f y) ≡ f (if b then x else y)
of-both true x y f = refl
of-both false x y f = refl

start-on : (w : Option Waiting) (h : Option ℕ) (t : TiaState) → at_line_start (on w h t) ≡ on w h (at_line_start t)
start-on w h t = of-both (t.clock == 0) (record t { longer = false }) t (λ x. on w h x)

pulse-on : (w : Option Waiting) (h : Option ℕ) (t : TiaState) → pulsed (on w h t) ≡ on w h (pulsed t)
pulse-on w h t = of-both ((t.clock % 4 == 0) && any_moves t) (after_pulse t) t (λ x. on w h x)

take-on : (w : Option Waiting) (h : Option ℕ) (t : TiaState) (x : ℕ) → playfield_at (on w h t) x ≡ on w h (playfield_at t x)
take-on w h t x =
    of-both (x % 4 == 0) (record t { mirrored = mirrored_at t x; playfield = playfield_bit t.pf0 t.pf1 t.pf2 (playfield_index (mirrored_at t x) x) }) t (λ y. on w h y)

field-on : (w : Option Waiting) (h : Option ℕ) (t : TiaState) → with_playfield (on w h t) ≡ on w h (with_playfield t)
field-on w h t =
    let off = record t { playfield = false } in
    let taken = playfield_at t (t.beam - 68) in
    let b = nat_le 225 t.clock && t.longer in
    ap (λ (y : TiaState). if nat_lt t.clock 68 then on w h t else (if b then on w h off else y)) (take-on w h t (t.beam - 68))
    ∙ (ap (λ (y : TiaState). if nat_lt t.clock 68 then on w h t else y) (of-both b off taken (λ x. on w h x))
    ∙ of-both (nat_lt t.clock 68) t (if b then off else taken) (λ x. on w h x))

step-on : (w : Option Waiting) (h : Option ℕ) (t : TiaState) → stepped (on w h t) ≡ on w h (stepped t)
step-on w h t =
    of-both (is_in_blank t) t (record t {
      player0 = player_after_step t.player0;
      player1 = player_after_step t.player1;
      missile0 = missile_after_step t.player0.nusiz t.clock t.missile0;
      missile1 = missile_after_step t.player1.nusiz t.clock t.missile1;
      ball = ball_after_step t.ctrlpf false t.ball;
    }) (λ x. on w h x)

rest-on : (w : Option Waiting) (h : Option ℕ) (t : TiaState) → without_rest (on w h t) ≡ on w h (without_rest t)
rest-on w h t =
    let cleared = record t { playfield = t.playfield && not (t.beam % 4 == 0); mirrored = t.mirrored && nat_lt t.beam 225 } in
    of-both (is_in_blank t) cleared (without_seen cleared) (λ x. on w h x)

next-on : (w : Option Waiting) (h : Option ℕ) (t : TiaState) → with_next_clock (on w h t) ≡ on w h (with_next_clock t)
next-on w h t =
    ap (λ (y : TiaState). if t.clock == 227 then on w h (at_next_line t) else y) (rest-on w h (at_next_clock t))
    ∙ of-both (t.clock == 227) (at_next_line t) (without_rest (at_next_clock t)) (λ x. on w h x)

-- a clock once the writes have waited
unfoldable pub without-writes : TiaState → TiaState
without-writes t = with_next_clock (latched (stepped (with_playfield (pulsed (at_line_start t)))))

clock-on : (w : Option Waiting) (h : Option ℕ) (t : TiaState) → without-writes (on w h t) ≡ on w h (without-writes t)
unfolding without-writes
clock-on w h t =
    ap (λ (x : TiaState). with_next_clock (latched (stepped (with_playfield (pulsed x))))) (start-on w h t)
    ∙ (ap (λ (x : TiaState). with_next_clock (latched (stepped (with_playfield x)))) (pulse-on w h (at_line_start t))
    ∙ (ap (λ (x : TiaState). with_next_clock (latched (stepped x))) (field-on w h (pulsed (at_line_start t)))
    ∙ (ap (λ (x : TiaState). with_next_clock (latched x)) (step-on w h (with_playfield (pulsed (at_line_start t))))
    ∙ next-on w h (latched (stepped (with_playfield (pulsed (at_line_start t))))))))

pub clock-is : (t : TiaState) → after_clock t ≡ without-writes (with_waited_writes t)
unfolding after_clock at_pixel without-writes
clock-is t = refl

clock-keeps : (t : TiaState) → without-writes t ≡ on t.waiting t.hmove (without-writes t)
clock-keeps t = clock-on t.waiting t.hmove t

-- only the write changes
clock-waiting : (w : Option Waiting) (t : TiaState) → without-writes (record t { waiting = w }) ≡ record (without-writes t) { waiting = w }
clock-waiting w t = clock-on w t.hmove t ∙ ap (λ (x : TiaState). record x { waiting = w }) (sym (clock-keeps t))

clock-hmove : (h : Option ℕ) (t : TiaState) → without-writes (record t { hmove = h }) ≡ record (without-writes t) { hmove = h }
clock-hmove h t = clock-on t.waiting h t ∙ ap (λ (x : TiaState). record x { hmove = h }) (sym (clock-keeps t))

-- a write that waits on
hmove_in-waiting : (h : Option ℕ) (w : Option Waiting) (t : TiaState) → with_hmove_in h (record t { waiting = w }) ≡ record (with_hmove_in h t) { waiting = w }
hmove_in-waiting None w t = refl
hmove_in-waiting (Some clocks) w t =
    of-both (clocks == 0) (after_hmove (record t { hmove = None })) (record t { hmove = Some (clocks - 1) }) (λ (x : TiaState). record x { waiting = w })

not-zero : (n : ℕ) → (suc n == 0) ≡ false
not-zero n = ne_eqb (suc n) 0 (λ e. omega arith)

less-one : (n : ℕ) → suc n - 1 ≡ n
less-one n = omega arith

writes-nearer : (t : TiaState) (w : Waiting) (k : ℕ)
    → with_waited_writes (record t { waiting = Some (record w { clocks = suc k }) }) ≡ record (with_waited_writes (record t { waiting = None })) { waiting = Some (record w { clocks = k }) }
writes-nearer t w k =
    let before = record t { waiting = Some (record w { clocks = suc k }) } in
    let later = Some (record w { clocks = k }) in
    let nearer : with_waited_write before ≡ record t { waiting = later } =
    cond-false (suc k == 0) _ _ (not-zero k) ∙ ap (λ (n : ℕ). record t { waiting = Some (record w { clocks = n }) }) (less-one k)
    in
    ap (λ (x : TiaState). with_waited_hmove x) nearer ∙ hmove_in-waiting t.hmove later (record t { waiting = None })

write-nearer : (t : TiaState) (w : Waiting) (k : ℕ)
    → after_clock (record t { waiting = Some (record w { clocks = suc k }) }) ≡ record (after_clock (record t { waiting = None })) { waiting = Some (record w { clocks = k }) }
write-nearer t w k =
    let before = record t { waiting = Some (record w { clocks = suc k }) } in
    let later = Some (record w { clocks = k }) in
    let none = record t { waiting = None } in
    clock-is before ∙ (ap (λ (x : TiaState). without-writes x) (writes-nearer t w k)
    ∙ (clock-waiting later (with_waited_writes none) ∙ ap (λ (x : TiaState). record x { waiting = later }) (sym (clock-is none))))

hmove_in-none : (h : Option ℕ) (t : TiaState) → (with_hmove_in h t).waiting ≡ t.waiting
hmove_in-none None t = refl
hmove_in-none (Some clocks) t = cond_both (clocks == 0) _ _ (λ (x : TiaState). x.waiting ≡ t.waiting) (λ e. refl) (λ e. refl)

pub none-stays : (t : TiaState) → t.waiting ≡ None → (after_clock t).waiting ≡ None
none-stays t h =
    let write : with_waited_write t ≡ t = ap (λ o. with_waited o t) h in
    let writes : (with_waited_writes t).waiting ≡ None = ap (λ (x : TiaState). (with_waited_hmove x).waiting) write ∙ (hmove_in-none t.hmove t ∙ h) in
    ap (λ (x : TiaState). x.waiting) (clock-is t) ∙ (ap (λ (x : TiaState). x.waiting) (clock-keeps (with_waited_writes t)) ∙ writes)

pub write-waits : (n k : ℕ) (t : TiaState) (w : Waiting)
    → iterate after_clock n (record t { waiting = Some (record w { clocks = n + k }) }) ≡ record (iterate after_clock n (record t { waiting = None })) { waiting = Some (record w { clocks = k }) }
write-waits zero k t w = let e : zero + k ≡ k = omega arith in ap (λ (n : ℕ). record t { waiting = Some (record w { clocks = n }) }) e
write-waits (suc n) k t w =
    let none = record t { waiting = None } in
    let next = after_clock none in
    let stays : record next { waiting = None } ≡ next = ap (λ (o : Option Waiting). record next { waiting = o }) (sym (none-stays none refl)) in
    let sum : suc n + k ≡ suc (n + k) = omega arith in
    ap (λ (m : ℕ). iterate after_clock n (after_clock (record t { waiting = Some (record w { clocks = m }) }))) sum
    ∙ (ap (λ (x : TiaState). iterate after_clock n x) (write-nearer t w (n + k))
    ∙ (write-waits n k next w ∙ ap (λ (x : TiaState). record (iterate after_clock n x) { waiting = Some (record w { clocks = k }) }) stays))

-- a write that acts
acted-waiting : (r : Register) (v : ℕ) (t : TiaState) → (acted r v t).waiting ≡ t.waiting
acted-waiting Rsync v t = refl
acted-waiting r v t = refl

pub write-acts : (t : TiaState) (w : Waiting)
    → after_clock (record t { waiting = Some (record w { clocks = 0 }) }) ≡ after_clock (after_action w.register w.value (record t { waiting = None }))
write-acts t w =
    let none = record t { waiting = None } in
    let after = after_action w.register w.value none in
    let gone : with_waited_write after ≡ after = ap (λ o. with_waited o after) (acted-waiting w.register w.value none) in
    clock-is (record t { waiting = Some (record w { clocks = 0 }) })
    ∙ (ap (λ (x : TiaState). without-writes (with_waited_hmove x)) (sym gone) ∙ sym (clock-is after))

-- an HMOVE that waits on, or acts
no-write : (t : TiaState) → t.waiting ≡ None → with_waited_writes t ≡ with_hmove_in t.hmove t
no-write t h = ap (λ (x : TiaState). with_waited_hmove x) (ap (λ o. with_waited o t) h)

hmove-nearer : (t : TiaState) (k : ℕ) → t.waiting ≡ None → after_clock (record t { hmove = Some (suc k) }) ≡ record (after_clock (record t { hmove = None })) { hmove = Some k }
hmove-nearer t k h =
    let before = record t { hmove = Some (suc k) } in
    let none = record t { hmove = None } in
    let nearer : with_hmove_in (Some (suc k)) before ≡ record t { hmove = Some k } =
    cond-false (suc k == 0) _ _ (not-zero k) ∙ ap (λ (n : ℕ). record t { hmove = Some n }) (less-one k)
    in
    clock-is before ∙ (ap (λ (x : TiaState). without-writes x) (no-write before h ∙ nearer)
    ∙ (clock-hmove (Some k) none ∙ ap (λ (x : TiaState). record x { hmove = Some k }) (sym (clock-is none ∙ ap (λ (x : TiaState). without-writes x) (no-write none h)))))

hmove-gone : (t : TiaState) → t.waiting ≡ None → t.hmove ≡ None → (after_clock t).hmove ≡ None
hmove-gone t h k =
    let writes : with_waited_writes t ≡ t = no-write t h ∙ ap (λ o. with_hmove_in o t) k in
    ap (λ (x : TiaState). x.hmove) (clock-is t) ∙ (ap (λ (x : TiaState). x.hmove) (clock-keeps (with_waited_writes t)) ∙ (ap (λ (x : TiaState). x.hmove) writes ∙ k))

pub hmove-waits : (n k : ℕ) (t : TiaState) → t.waiting ≡ None
    → iterate after_clock n (record t { hmove = Some (n + k) }) ≡ record (iterate after_clock n (record t { hmove = None })) { hmove = Some k }
hmove-waits zero k t h = let e : zero + k ≡ k = omega arith in ap (λ (n : ℕ). record t { hmove = Some n }) e
hmove-waits (suc n) k t h =
    let none = record t { hmove = None } in
    let next = after_clock none in
    let stays : record next { hmove = None } ≡ next = ap (λ (o : Option ℕ). record next { hmove = o }) (sym (hmove-gone none h refl)) in
    let sum : suc n + k ≡ suc (n + k) = omega arith in
    ap (λ (m : ℕ). iterate after_clock n (after_clock (record t { hmove = Some m }))) sum
    ∙ (ap (λ (x : TiaState). iterate after_clock n x) (hmove-nearer t (n + k) h)
    ∙ (hmove-waits n k next (none-stays none h) ∙ ap (λ (x : TiaState). record (iterate after_clock n x) { hmove = Some k }) stays))

pub hmove-acts : (t : TiaState) → t.waiting ≡ None → after_clock (record t { hmove = Some 0 }) ≡ after_clock (after_hmove (record t { hmove = None }))
hmove-acts t h =
    let after = after_hmove (record t { hmove = None }) in
    clock-is (record t { hmove = Some 0 })
    ∙ (ap (λ (x : TiaState). without-writes x) (no-write (record t { hmove = Some 0 }) h)
    ∙ sym (clock-is after ∙ ap (λ (x : TiaState). without-writes x) (no-write after h)))

-- ---- pixels
pixel-without : TiaState → TiaState
pixel-without t = stepped (with_playfield (pulsed (at_line_start t)))

pixel-is : (t : TiaState) → at_pixel t ≡ pixel-without (with_waited_writes t)
unfolding at_pixel pixel-without
pixel-is t = refl

pixel-on : (w : Option Waiting) (h : Option ℕ) (t : TiaState) → pixel-without (on w h t) ≡ on w h (pixel-without t)
unfolding pixel-without
pixel-on w h t =
    ap (λ (x : TiaState). stepped (with_playfield (pulsed x))) (start-on w h t)
    ∙ (ap (λ (x : TiaState). stepped (with_playfield x)) (pulse-on w h (at_line_start t))
    ∙ (ap (λ (x : TiaState). stepped x) (field-on w h (pulsed (at_line_start t))) ∙ step-on w h (with_playfield (pulsed (at_line_start t)))))

dot-nearer : (t : TiaState) (w : Waiting) (k : ℕ)
    → pixel_of (at_pixel (record t { waiting = Some (record w { clocks = suc k }) })) ≡ pixel_of (at_pixel (record t { waiting = None }))
dot-nearer t w k =
    let none = record t { waiting = None } in
    let x = with_waited_writes none in
    ap pixel_of (pixel-is (record t { waiting = Some (record w { clocks = suc k }) }) ∙ (ap pixel-without (writes-nearer t w k) ∙ pixel-on (Some (record w { clocks = k })) x.hmove x))
    ∙ sym (ap pixel_of (pixel-is none))

sink-waits : {S : Type 0} (drawn : S → ℕ → ℕ → ℕ → S) (sink : S) (n k : ℕ) (t : TiaState) (w : Waiting)
    → sink_after_clocks drawn sink n (record t { waiting = Some (record w { clocks = n + k }) }) ≡ sink_after_clocks drawn sink n (record t { waiting = None })
sink-waits drawn sink zero k t w = refl
sink-waits drawn sink (suc n) k t w =
    let none = record t { waiting = None } in
    let next = after_clock none in
    let stays : record next { waiting = None } ≡ next = ap (λ (o : Option Waiting). record next { waiting = o }) (sym (none-stays none refl)) in
    let sum : suc n + k ≡ suc (n + k) = omega arith in
    let put = with_pixel drawn sink (pixel_of (at_pixel none)) in
    ap (λ (m : ℕ). sink_after_clocks drawn sink (suc n) (record t { waiting = Some (record w { clocks = m }) })) sum
    ∙ (ap (λ p. sink_after_clocks drawn (with_pixel drawn sink p) n (after_clock (record t { waiting = Some (record w { clocks = suc (n + k) }) }))) (dot-nearer t w (n + k))
    ∙ (ap (λ (x : TiaState). sink_after_clocks drawn put n x) (write-nearer t w (n + k))
    ∙ (sink-waits drawn put n k next w ∙ ap (λ (x : TiaState). sink_after_clocks drawn put n x) stays)))

-- ---- clocks in which a write waits, without it
same-waiting : (t : TiaState) (w : Waiting) (n : ℕ) → t.waiting ≡ Some w → n ≤ w.clocks → record t { waiting = Some (record w { clocks = n + (w.clocks - n) }) } ≡ t
same-waiting t w n h l =
    let sum : n + (w.clocks - n) ≡ w.clocks = omega arith in
    ap (λ (m : ℕ). record t { waiting = Some (record w { clocks = m }) }) sum ∙ ap (λ (o : Option Waiting). record t { waiting = o }) (sym h)

pub waited-state : (t : TiaState) (w : Waiting) (n : ℕ) → t.waiting ≡ Some w → n ≤ w.clocks
    → record (iterate after_clock n (record t { waiting = None })) { waiting = Some (record w { clocks = w.clocks - n }) } ≡ iterate after_clock n t
waited-state t w n h l = sym (write-waits n (w.clocks - n) t w) ∙ ap (iterate after_clock n) (same-waiting t w n h l)

pub waited-sink : {S : Type 0} (drawn : S → ℕ → ℕ → ℕ → S) (sink : S) (t : TiaState) (w : Waiting) (n : ℕ) → t.waiting ≡ Some w → n ≤ w.clocks
    → sink_after_clocks drawn sink n (record t { waiting = None }) ≡ sink_after_clocks drawn sink n t
waited-sink drawn sink t w n h l = sym (sink-waits drawn sink n (w.clocks - n) t w) ∙ ap (sink_after_clocks drawn sink n) (same-waiting t w n h l)

-- ---- clocks of a TIA on which a write that has waited acts first
acts-once : (t : TiaState) (w : Waiting) → t.waiting ≡ Some w → w.clocks ≡ 0 → with_waited_writes (with_waited_write t) ≡ with_waited_writes t
acts-once t w h z =
    let none = record t { waiting = None } in
    let after = after_action w.register w.value none in
    let acted_now : with_waited_write t ≡ after = ap (λ o. with_waited o t) h ∙ cond-true (w.clocks == 0) _ _ (eq-eqb w.clocks 0 z) in
    let gone : with_waited_write after ≡ after = ap (λ o. with_waited o after) (acted-waiting w.register w.value none) in
    ap (λ (x : TiaState). with_waited_writes x) acted_now ∙ (ap (λ (x : TiaState). with_waited_hmove x) gone ∙ sym (ap (λ (x : TiaState). with_waited_hmove x) acted_now))

pub acts-clock : (t : TiaState) (w : Waiting) → t.waiting ≡ Some w → w.clocks ≡ 0 → after_clock (with_waited_write t) ≡ after_clock t
acts-clock t w h z = clock-is (with_waited_write t) ∙ (ap without-writes (acts-once t w h z) ∙ sym (clock-is t))

pub acts-pixel : (t : TiaState) (w : Waiting) → t.waiting ≡ Some w → w.clocks ≡ 0 → at_pixel (with_waited_write t) ≡ at_pixel t
acts-pixel t w h z = pixel-is (with_waited_write t) ∙ (ap pixel-without (acts-once t w h z) ∙ sym (pixel-is t))

-- the write itself, which is on its way no more
pub acts-now : (t : TiaState) (w : Waiting) → t.waiting ≡ Some w → w.clocks ≡ 0 → after_action w.register w.value (record t { waiting = None }) ≡ with_waited_write t
acts-now t w h z = sym (ap (λ o. with_waited o t) h ∙ cond-true (w.clocks == 0) _ _ (eq-eqb w.clocks 0 z))

pub acts-state : (t : TiaState) (w : Waiting) (n : ℕ) → t.waiting ≡ Some w → w.clocks ≡ 0 → 1 ≤ n → iterate after_clock n (with_waited_write t) ≡ iterate after_clock n t
acts-state t w zero h z l = absurd (omega arith)
acts-state t w (suc n) h z l = ap (iterate after_clock n) (acts-clock t w h z)

pub acts-sink : {S : Type 0} (drawn : S → ℕ → ℕ → ℕ → S) (sink : S) (t : TiaState) (w : Waiting) (n : ℕ) → t.waiting ≡ Some w → w.clocks ≡ 0 → 1 ≤ n
    → sink_after_clocks drawn sink n (with_waited_write t) ≡ sink_after_clocks drawn sink n t
acts-sink drawn sink t w zero h z l = absurd (omega arith)
acts-sink drawn sink t w (suc n) h z l =
    ap (λ (x : TiaState). sink_after_clocks drawn (with_pixel drawn sink (pixel_of (at_pixel (with_waited_write t)))) n x) (acts-clock t w h z)
    ∙ ap (λ (x : TiaState). sink_after_clocks drawn (with_pixel drawn sink (pixel_of x)) n (after_clock t)) (acts-pixel t w h z)

-- ---- a write that is put on its way before the clocks that come before it
pub late-write : (r : Register) (v : ℕ) (t : TiaState) → acts_late r ≡ true
    → after_register_write r v t ≡ record t { waiting = Some (record { register = r; value = v; clocks = delay_of r }) }
late-write Rsync v t h = cc
late-write r v t h = cc

pub free-waiting : (t : TiaState) → t.waiting ≡ None → record t { waiting = None } ≡ t
free-waiting t h = ap (λ (o : Option Waiting). record t { waiting = o }) (sym h)

abbrev pub waiting-of : Register → ℕ → ℕ → Waiting
waiting-of r v clocks = record { register = r; value = v; clocks = clocks }

pub late-state : (lag number v : ℕ) (t : TiaState) (w : Waiting) → t.waiting ≡ None → acts_late (register_of number) ≡ true → w ≡ record { register = register_of number; value = v; clocks = lag + delay_of (register_of number) }
    → iterate after_clock lag (record t { waiting = Some w }) ≡ tia_after_write (iterate after_clock lag t) number v
unfolding tia_after_write
late-state lag number v t w h l e =
    let r = register_of number in
    let now : Waiting = record { register = r; value = v; clocks = delay_of r } in
    ap (λ (x : Waiting). iterate after_clock lag (record t { waiting = Some x })) e
    ∙ (write-waits lag (delay_of r) t now
    ∙ (ap (λ (x : TiaState). record (iterate after_clock lag x) { waiting = Some now }) (free-waiting t h) ∙ sym (late-write r v (iterate after_clock lag t) l)))

pub stays-none : (n : ℕ) (t : TiaState) → t.waiting ≡ None → (iterate after_clock n t).waiting ≡ None
stays-none zero t h = h
stays-none (suc n) t h = stays-none n (after_clock t) (none-stays t h)

pub late-pixel : (n lag d : ℕ) (t : TiaState) (w : Waiting) → t.waiting ≡ None → n < lag → w.clocks ≡ lag + d
    → pixel_of (at_pixel (iterate after_clock n (record t { waiting = Some w }))) ≡ pixel_of (at_pixel (iterate after_clock n t))
late-pixel n lag d t w h l e =
    let k : ℕ = lag + d - n - 1 in
    let u = iterate after_clock n (record t { waiting = None }) in
    let sum : w.clocks ≡ n + suc k = omega arith in
    let same : u ≡ iterate after_clock n t = ap (iterate after_clock n) (free-waiting t h) in
    let none : u.waiting ≡ None = ap (λ (x : TiaState). x.waiting) same ∙ stays-none n t h in
    ap (λ (m : ℕ). pixel_of (at_pixel (iterate after_clock n (record t { waiting = Some (record w { clocks = m }) })))) sum
    ∙ (ap (λ (x : TiaState). pixel_of (at_pixel x)) (write-waits n (suc k) t w)
    ∙ (dot-nearer u w k ∙ ap (λ (x : TiaState). pixel_of (at_pixel x)) (free-waiting u none ∙ same)))
