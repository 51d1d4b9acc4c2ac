-- What the accesses of an instruction leave of a console: before a write that ends the frame no HMOVE is
-- on its way, and after it no write that could wait.
use Rattle.std.proofs.Common.{◌≡◌, ◌∙◌, ℕ, zero, suc, ◌+◌, ◌-◌, ◌%◌, ◌≤◌, Bool, true, false, List, [], ◌∷◌, Option, Some, None, arith, refl, sym, subst, if◌then◌else◌}
use Rattle.std.specs.Fn.{iterate}
use Rattle.std.specs.Prelude.{IfSome}
use Rattle.std.proofs.lemmas.Bool.{agree_below_at, cond_both, true≢false}
use Rattle.mos_cpu.specs.Registers.{after_pushes}
use Rattle.bus_cycles.specs.declared.bus.Purpose.{Purpose}
use Rattle.riot_map.specs.Place.{place_of}
use Rattle.riot_map.specs.declared.places.Place.{Place}
use Rattle.riot_map.specs.declared.places.Place.TheVariants.{Cart, Tia, Ram, Io}
use Rattle.tia_chip.specs.AtRest.{leaves_at_rest}
use Rattle.tia_chip.specs.Read.{tia_after_read}
use Rattle.tia_chip.specs.Registers.{register_of}
use Rattle.tia_chip.specs.Write.{effect_of, tia_after_write}
use Rattle.tia_chip.specs.declared.effect.Effect.{Effect}
use Rattle.tia_chip.specs.declared.effect.Effect.TheVariants.{Nothing, Sync, FrameEnd}
use Rattle.tia_chip.specs.declared.register.Register.{Register}
use Rattle.tia_chip.specs.declared.register.Register.TheVariants.{Vsync, Hmove, Ignored}
use Rattle.tia_chip.specs.declared.state.TiaState.{TiaState}
use Rattle.chip_machine.specs.Consoles.{Console, after_cycle, after_stop, at_read, at_write, cycles_to_line_start, meaning_of, read_at, with_effect, written_at}
use Rattle.tia_chip.proofs.AtRestLemmas.{read-at_rest, read-kept, write-at_rest, write-hmove}
use Rattle.chip_machine.proofs.SettledTia.{IsRunning, IsAtRest, IsWithin, tia_after_cycle, within-more, within-none, cycle-running, cycle-within, cycle-at_rest}
use Rattle.chip_machine.proofs.SettledTia.{at_rest-hmove, read-running, write-running, effect-vsync}

-- ---- what may be so along an instruction
-- Nothing has ended the frame, and an HMOVE acts with one of the next n clocks.
pub record IsFresh (n : ℕ) (t : TiaState) (ended : Bool) : Type 0 where
  pub running : IsRunning t
  pub within : IsWithin n t.hmove
  pub unended : ended ≡ false

-- No HMOVE is on its way past the next cycle. Where the frame has ended, nothing is.
pub record IsOver (t : TiaState) (ended : Bool) : Type 0 where
  pub running : IsRunning t
  pub within : IsWithin 3 t.hmove
  pub at_rest : ended ≡ true → IsAtRest t

-- Nothing has ended the frame.
pub record IsUnended (t : TiaState) (ended : Bool) : Type 0 where
  pub running : IsRunning t
  pub unended : ended ≡ false

-- Where the frame has ended, nothing is on its way.
pub record IsDone (t : TiaState) (ended : Bool) : Type 0 where
  pub running : IsRunning t
  pub at_rest : ended ≡ true → IsAtRest t

-- ---- cycles and reads keep it
pub fresh-cycle : (n k : ℕ) (t : TiaState) (ended : Bool) → n - 3 ≤ k → IsFresh n t ended → IsFresh k (tia_after_cycle t) ended
fresh-cycle n k t ended less h =
    record { running = cycle-running t h.running; within = within-more (n - 3) k _ less (cycle-within n t h.running h.within); unended = h.unended }

pub fresh-read : (n : ℕ) (t : TiaState) (number : ℕ) (ended : Bool) → IsFresh n t ended → IsFresh n (tia_after_read t number) ended
fresh-read n t number ended h =
    record { running = read-running t number h.running; within = rw (read-kept t number).0 h.within; unended = h.unended }

rest-cycle : (t : TiaState) → IsRunning t → IsAtRest t → IsAtRest (tia_after_cycle t)
rest-cycle t h rest =
    let none : IsWithin 0 t.hmove = rw (at_rest-hmove t rest) tt in
    cycle-at_rest t h (within-none _ (cycle-within 0 t h none))

pub done-cycle : (t : TiaState) (ended : Bool) → IsDone t ended → IsDone (tia_after_cycle t) ended
done-cycle t ended h = record { running = cycle-running t h.running; at_rest = λ e. rest-cycle t h.running (h.at_rest e) }

pub done-read : (t : TiaState) (number : ℕ) (ended : Bool) → IsDone t ended → IsDone (tia_after_read t number) ended
done-read t number ended h = record { running = read-running t number h.running; at_rest = λ e. read-at_rest t number (h.at_rest e) }

pub fresh-done : (n : ℕ) (t : TiaState) (ended : Bool) → IsFresh n t ended → IsDone t ended
fresh-done n t ended h = record { running = h.running; at_rest = λ e. absurd (true≢false (sym e ∙ h.unended)) }

-- ---- a write
-- What a write to this register leaves, after its cycle. One that reaches no register of the TIA is as
-- one to a register that is ignored.
pub record IsWritten (r : Register) (before after : TiaState) (was_ended ended : Bool) : Type 0 where
  pub running : IsRunning before → IsRunning after
  pub hmove : (r ≡ Hmove → ⊥) → after.hmove ≡ before.hmove
  pub at_rest : leaves_at_rest r ≡ true → IsAtRest before → IsAtRest after
  pub ended_as : (r ≡ Vsync → ⊥) → ended ≡ was_ended

data Status : Type 0 where
  Fresh : Status
  Over : Status
  Unended : Status

abbrev is_vsync : Register → Bool
is_vsync Vsync = true
is_vsync other = false

abbrev is_hmove : Register → Bool
is_hmove Hmove = true
is_hmove other = false

not-vsync : (r : Register) → is_vsync r ≡ false → r ≡ Vsync → ⊥
not-vsync r h e = let never : is_vsync Vsync ≡ false = subst (λ (r : Register). is_vsync r ≡ false) e h in true≢false never

not-hmove : (r : Register) → is_hmove r ≡ false → r ≡ Hmove → ⊥
not-hmove r h e = let never : is_hmove Hmove ≡ false = subst (λ (r : Register). is_hmove r ≡ false) e h in true≢false never

vsync-rest : (r : Register) → is_vsync r ≡ true → leaves_at_rest r ≡ true
vsync-rest Vsync h = refl
vsync-rest other h = absurd (cc)

rest-not-hmove : (r : Register) → leaves_at_rest r ≡ true → is_hmove r ≡ false
rest-not-hmove Hmove h = absurd (cc)
rest-not-hmove other h = refl

-- what is so after a write, if anything is
abbrev status_after : Status → Register → Option Status
status_after Fresh r = if is_vsync r then Some Over else if is_hmove r then Some Unended else Some Fresh
status_after Over r = if leaves_at_rest r then Some Over else None
status_after Unended r = if is_vsync r then None else Some Unended

abbrev Has : Status → TiaState → Bool → Type 0
Has Fresh t ended = IsFresh 3 t ended
Has Over t ended = IsOver t ended
Has Unended t ended = IsUnended t ended

Has-done : (status : Status) (t : TiaState) (ended : Bool) → Has status t ended → IsDone t ended
Has-done Fresh t ended h = fresh-done 3 t ended h
Has-done Over t ended h = record { running = h.running; at_rest = h.at_rest }
Has-done Unended t ended h = record { running = h.running; at_rest = λ e. absurd (true≢false (sym e ∙ h.unended)) }

module _ (r : Register) (t after : TiaState) (was_ended ended : Bool) (w : IsWritten r (tia_after_cycle t) after was_ended ended) where
  abbrev Next : Option Status → Type 0
  Next status = IfSome status (λ next. Has next after ended)

  none-left : IsRunning t → IsWithin 3 t.hmove → (tia_after_cycle t).hmove ≡ None
  none-left running within = within-none _ (cycle-within 3 t running within)

  stays-none : IsRunning t → IsWithin 3 t.hmove → is_hmove r ≡ false → IsWithin 3 after.hmove
  stays-none running within other = rw (w.hmove (not-hmove r other), none-left running within) tt

  over : IsRunning t → IsWithin 3 t.hmove → leaves_at_rest r ≡ true → IsOver after ended
  over running within rest =
      record {
        running = w.running (cycle-running t running);
        within = stays-none running within (rest-not-hmove r rest);
        at_rest = λ e. w.at_rest rest (cycle-at_rest t running (none-left running within));
      }

  status-written : (status : Status) → Has status t was_ended → Next (status_after status r)
  status-written Fresh h =
      cond_both (is_vsync r) _ _ Next (λ e. over h.running h.within (vsync-rest r e))
      (λ e. cond_both (is_hmove r) _ _ Next
      (λ f. record { running = w.running (cycle-running t h.running); unended = w.ended_as (not-vsync r e) ∙ h.unended })
      (λ f. record {
        running = w.running (cycle-running t h.running);
        within = stays-none h.running h.within f;
        unended = w.ended_as (not-vsync r e) ∙ h.unended;
      }))
  status-written Over h = cond_both (leaves_at_rest r) _ _ Next (λ e. over h.running h.within e) (λ e. tt)
  status-written Unended h =
      cond_both (is_vsync r) _ _ Next (λ e. tt)
      (λ e. record { running = w.running (cycle-running t h.running); unended = w.ended_as (not-vsync r e) ∙ h.unended })

-- Writes to these registers, one after another, can be followed.
abbrev passes : List Register → Option Status → Bool
passes [] None = false
passes [] (Some status) = true
passes (r ∷ rs) None = false
passes (r ∷ rs) (Some status) = passes rs (status_after status r)

none-passes : (rs : List Register) → passes rs None ≡ false
none-passes [] = refl
none-passes (r ∷ rs) = refl

once-passes : (r : Register) → passes (r ∷ []) (Some Fresh) ≡ true
once-passes Vsync = refl
once-passes Hmove = refl
once-passes other = refl

-- A change of a place writes it twice.
twice-passes : (r : Register) → passes (r ∷ r ∷ []) (Some Fresh) ≡ true
twice-passes Vsync = refl
twice-passes Hmove = refl
twice-passes other = refl

-- ---- a console
abbrev register_by : Place → Register
register_by (Tia number) = register_of number
register_by other = Ignored

-- The register of the TIA that a write to an address reaches.
abbrev register_at : ℕ → Register
register_at at = register_by (place_of at)

-- The stack's page leads to RAM and to the TIA by turns of 128 bytes.
abbrev pushes_at : ℕ → Bool
pushes_at stack =
    passes
    (register_at (256 + after_pushes stack 0) ∷ register_at (256 + after_pushes stack 1) ∷ register_at (256 + after_pushes stack 2) ∷ [])
    (Some Fresh)

pushes-pass : (stack : ℕ) → pushes_at stack ≡ true
pushes-pass stack =
    let low : ℕ = stack % 256 in
    let none : after_pushes stack 0 ≡ after_pushes low 0 = omega arith in
    let one : after_pushes stack 1 ≡ after_pushes low 1 = omega arith in
    let two : after_pushes stack 2 ≡ after_pushes low 2 = omega arith in
    rw (none, one, two) (agree_below_at pushes_at (λ stack. true) 256 low refl (omega arith))

module _ {S : Type 0} (drawn : S → ℕ → ℕ → ℕ → S) where
  -- what is so of a console's TIA, and of whether its frame has ended
  abbrev pub Of : (TiaState → Bool → Type 0) → Console S → Type 0
  Of Fact c = Fact c.tia c.has_ended

  module _ (Fact : TiaState → Bool → Type 0) (stays : (t : TiaState) (ended : Bool) → Fact t ended → Fact (tia_after_cycle t) ended) where
    cycles-stay : (n : ℕ) (c : Console S) → Of Fact c → Of Fact (iterate (after_cycle drawn) n c)
    cycles-stay zero c h = h
    cycles-stay (suc n) c h = cycles-stay n (after_cycle drawn c) (stays c.tia c.has_ended h)

    -- Cycles that pass without an access keep it.
    pub stop-stays : (c : Console S) → Of Fact c → Of Fact (after_stop drawn c)
    stop-stays c h = cond_both c.is_stopped _ _ (Of Fact) (λ e. cycles-stay (cycles_to_line_start c.tia.clock) c h) (λ e. h)

  place-read : (Fact : TiaState → Bool → Type 0) → ((t : TiaState) (number : ℕ) (ended : Bool) → Fact t ended → Fact (tia_after_read t number) ended)
      → (c : Console S) (place : Place) → Of Fact c → Of Fact (read_at c place)
  place-read Fact kept c (Cart address) h = h
  place-read Fact kept c (Tia register) h = kept c.tia register c.has_ended h
  place-read Fact kept c (Ram index) h = h
  place-read Fact kept c (Io register) h = h

  -- A read: a stop, a cycle, and the access.
  pub read-leads : (Before After : TiaState → Bool → Type 0)
      → ((t : TiaState) (ended : Bool) → Before t ended → Before (tia_after_cycle t) ended)
      → ((t : TiaState) (ended : Bool) → Before t ended → After (tia_after_cycle t) ended)
      → ((t : TiaState) (number : ℕ) (ended : Bool) → After t ended → After (tia_after_read t number) ended)
      → (c : Console S) (purpose : Purpose) (at : ℕ) → Of Before c → Of After ((meaning_of drawn).after_read c purpose at)
  unfolding meaning_of
  read-leads Before After stays leads kept c purpose at h =
      let stopped = after_stop drawn c in
      place-read After kept (at_read drawn c at) (place_of at) (leads stopped.tia stopped.has_ended (stop-stays Before stays c h))

  -- A write.
  effect-tia : (effect : Effect) (c : Console S) → (with_effect effect c).tia ≡ c.tia
  effect-tia Nothing c = refl
  effect-tia Sync c = refl
  effect-tia FrameEnd c = refl

  effect-ended : (effect : Effect) (c : Console S) → (effect ≡ FrameEnd → ⊥) → (with_effect effect c).has_ended ≡ c.has_ended
  effect-ended Nothing c h = refl
  effect-ended Sync c h = refl
  effect-ended FrameEnd c h = absurd (h refl)

  abbrev IsWrittenTo : Register → Console S → Console S → Type 0
  IsWrittenTo r before after = IsWritten r before.tia after.tia before.has_ended after.has_ended

  untouched : (r : Register) (t : TiaState) (ended : Bool) → IsWritten r t t ended ended
  untouched r t ended = record { running = λ h. h; hmove = λ h. refl; at_rest = λ e h. h; ended_as = λ h. refl }

  place-written : (c : Console S) (place : Place) (v : ℕ) → IsWrittenTo (register_by place) c (written_at c place v)
  place-written c (Cart address) v = untouched Ignored c.tia c.has_ended
  place-written c (Tia number) v =
      let after = record c { tia = tia_after_write c.tia number v } in
      let effect = effect_of c.tia number v in
      let tia = effect-tia effect after in
      record {
        running = λ h. subst IsRunning (sym tia) (write-running c.tia number v h);
        hmove = λ h. subst (λ (t : TiaState). t.hmove ≡ c.tia.hmove) (sym tia) (write-hmove c.tia number v h);
        at_rest = λ e h. subst IsAtRest (sym tia) (write-at_rest c.tia number v e h);
        ended_as = λ h. effect-ended effect after (λ e. h (effect-vsync c.tia number v e));
      }
  place-written c (Ram index) v = untouched Ignored c.tia c.has_ended
  place-written c (Io register) v = untouched Ignored c.tia c.has_ended

  written : (c : Console S) (at v : ℕ)
      → (let after = (meaning_of drawn).after_write c at v in
      IsWritten (register_at at) (tia_after_cycle c.tia) after.tia c.has_ended after.has_ended)
  unfolding meaning_of
  written c at v = place-written (at_write drawn c at v) (place_of at) v

  on-write : (status : Status) (c : Console S) (at v : ℕ) (rs : List Register) → passes (register_at at ∷ rs) (Some status) ≡ true → Of (Has status) c
      → (next : Status) × (passes rs (Some next) ≡ true) × Of (Has next) ((meaning_of drawn).after_write c at v)
  on-write status c at v rs pass h = by (status_after status (register_at at)) pass (status-written (register_at at) c.tia after.tia c.has_ended after.has_ended (written c at v) status h)
    where
      after : Console S
      after = (meaning_of drawn).after_write c at v

      by : (found : Option Status) → passes rs found ≡ true → IfSome found (λ next. Has next after.tia after.has_ended)
          → (next : Status) × (passes rs (Some next) ≡ true) × Of (Has next) ((meaning_of drawn).after_write c at v)
      by None pass h = absurd (true≢false (sym pass ∙ none-passes rs))
      by (Some next) pass h = (next, pass, h)

  -- ---- the writes of an instruction
  pub Ready-written : (c : Console S) (at v : ℕ) → Of (IsFresh 3) c → Of IsDone ((meaning_of drawn).after_write c at v)
  Ready-written c at v h =
      let one = on-write Fresh c at v [] (once-passes (register_at at)) h in
      Has-done one.0 _ _ one.2

  pub Ready-written_twice : (c : Console S) (at v w : ℕ) → Of (IsFresh 3) c
      → Of IsDone ((meaning_of drawn).after_write ((meaning_of drawn).after_write c at v) at w)
  Ready-written_twice c at v w h =
      let one = on-write Fresh c at v (register_at at ∷ []) (twice-passes (register_at at)) h in
      let two = on-write one.0 _ at w [] one.1 one.2 in
      Has-done two.0 _ _ two.2

  pub Ready-pushed_twice : (c : Console S) (stack v w : ℕ) → Of (IsFresh 3) c
      → Of IsDone
      ((meaning_of drawn).after_write ((meaning_of drawn).after_write c (256 + after_pushes stack 0) v) (256 + after_pushes stack 1) w)
  Ready-pushed_twice c stack v w h =
      let third = register_at (256 + after_pushes stack 2) ∷ [] in
      let one = on-write Fresh c (256 + after_pushes stack 0) v (register_at (256 + after_pushes stack 1) ∷ third) (pushes-pass stack) h in
      let two = on-write one.0 _ (256 + after_pushes stack 1) w third one.1 one.2 in
      Has-done two.0 _ _ two.2

  pub Ready-pushed_thrice : (c : Console S) (stack v w x : ℕ) → Of (IsFresh 3) c
      → Of IsDone
      ((meaning_of drawn).after_write
      ((meaning_of drawn).after_write ((meaning_of drawn).after_write c (256 + after_pushes stack 0) v) (256 + after_pushes stack 1) w)
      (256 + after_pushes stack 2) x)
  Ready-pushed_thrice c stack v w x h =
      let third = register_at (256 + after_pushes stack 2) ∷ [] in
      let one = on-write Fresh c (256 + after_pushes stack 0) v (register_at (256 + after_pushes stack 1) ∷ third) (pushes-pass stack) h in
      let two = on-write one.0 _ (256 + after_pushes stack 1) w third one.1 one.2 in
      let three = on-write two.0 _ (256 + after_pushes stack 2) x [] two.1 two.2 in
      Has-done three.0 _ _ three.2
