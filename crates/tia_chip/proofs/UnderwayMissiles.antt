-- What is true of a missile's numbers, and that steps, looks and writes keep it.
use Rattle.std.proofs.Common.{◌≡◌, ℕ, ◌+◌, ◌%◌, ◌/◌, ◌^◌, ◌<◌, ◌≤◌, ◌==◌, ◌&&◌, ◌⊎◌, not, Bool, true, false, arith, refl, if◌then◌else◌}
use Rattle.std.proofs.Common.{Option, Some, None, zero, suc, rules}
use Rattle.std.proofs.lemmas.Bool.{cond_both}
use Rattle.std.proofs.lemmas.Bool.Decides.{nat_tests}
use Rattle.std.specs.Prelude.{nat_le, nat_lt}
use Rattle.tia_chip.proofs.UnderwayPlayers.{next_counter-small}
use Rattle.tia_chip.specs.Bits.{has_bit}
use Rattle.tia_chip.specs.Blank.{is_in_blank}
use Rattle.tia_chip.specs.Missile.{begins_missile, copy_about_to_show, copy_before_step, is_locked, looked_at_missile}
use Rattle.tia_chip.specs.Missile.{missile_after_nusiz, missile_after_resmp, missile_after_step, missile_after_strobe}
use Rattle.tia_chip.specs.Missile.{resized_copy, size_of, stepped_missile_copy, strobed_missile_copy}
use Rattle.tia_chip.specs.Motion.{missile_after_pulse, still_moves}
use Rattle.tia_chip.specs.Numbers.{is_missile_copy, missile_copy_number, own_size_number}
use Rattle.tia_chip.specs.Registers.{fits_register}
use Rattle.tia_chip.specs.declared.missile.Missile.{Missile}
use Rattle.tia_chip.specs.declared.missile.MissileCopy.{MissileCopy}
use Rattle.tia_chip.specs.declared.register.Register.TheVariants.{Enam0, Hmm0, Resmp0}
use Rattle.tia_chip.specs.declared.state.TiaState.{TiaState}

-- a copy on its way: one that isn't drawn yet has the own size 1
abbrev pub IsCopy : Option MissileCopy → Type 0
IsCopy copy = (missile_copy_number copy < 13) × (own_size_number copy < 4) × (is_missile_copy copy ≡ true)

pub record IsMissileUnderway (m : Missile) : Type 0 where
  pub enam : fits_register Enam0 m.enam ≡ true
  pub resmp : fits_register Resmp0 m.resmp ≡ true
  pub hmm : fits_register Hmm0 m.hmm ≡ true
  pub counter : m.counter < 160
  pub copy : IsCopy m.copy

-- the size 1, 2, 4 or 8
abbrev pub IsSize : ℕ → Type 0
IsSize size = (size ≡ 1) ⊎ ((size ≡ 2) ⊎ ((size ≡ 4) ⊎ (size ≡ 8)))

pow-size : (k : ℕ) → k < 4 → IsSize (2 ^ k)
pow-size zero h = grind arith
pow-size (suc zero) h = grind arith
pow-size (suc (suc zero)) h = grind arith
pow-size (suc (suc (suc zero))) h = grind arith
pow-size (suc (suc (suc (suc k)))) h = absurd (omega arith)

pub IsSize-of : (register : ℕ) → IsSize (size_of register)
IsSize-of register = pow-size (register / 16 % 4) (omega arith)

pub own_size-cases : (copy : MissileCopy) → own_size_number (Some copy) < 4 → IsSize copy.own_size
own_size-cases copy h = grind (arith, nat_tests, h)

-- steps
IsCopy-beyond : (size : ℕ) (copy : MissileCopy) → IsSize size → IsCopy (Some copy)
    → IsCopy (if nat_le (4 + size) (copy.place + 1) then None else Some (record copy { place = copy.place + 1 }))
IsCopy-beyond size copy s h =
    cond_both (nat_le (4 + size) (copy.place + 1)) _ _ IsCopy (λ e. (omega arith, omega arith, refl))
    (λ e. (grind (arith, nat_tests, s, e), h.1, grind (arith, nat_tests, h.2)))

IsCopy-shown : (size own : ℕ) → IsSize size → IsSize own → IsCopy (if nat_le (4 + size) 4 then None else Some (record { place = 4; own_size = own }))
IsCopy-shown size own s o = cond_both (nat_le (4 + size) 4) _ _ IsCopy (λ e. (omega arith, omega arith, refl)) (λ e. (omega arith, grind (arith, nat_tests, o), refl))

IsCopy-about : (size clock : ℕ) (moves : Bool) → IsSize size → IsCopy (stepped_missile_copy size moves (Some (copy_about_to_show size clock moves)))
IsCopy-about size clock false s = IsCopy-shown size size s s
IsCopy-about size clock true s =
    cond_both (clock % 4 == 1) _ _ (λ c. IsCopy (stepped_missile_copy size true (Some c))) (λ e. (omega arith, omega arith, refl))
    (λ e. cond_both ((clock % 4 == 2) && nat_le size 2) _ _ (λ c. IsCopy (stepped_missile_copy size true (Some c))) (λ f. (omega arith, omega arith, refl)) (λ f. IsCopy-shown size size s s))

IsCopy-stepped : (size : ℕ) (moves : Bool) (copy : MissileCopy) → IsSize size → IsCopy (Some copy) → IsCopy (stepped_missile_copy size moves (Some copy))
IsCopy-stepped size true copy s h = IsCopy-beyond copy.own_size copy (own_size-cases copy h.1) h
IsCopy-stepped size false copy s h = IsCopy-beyond size copy s h

IsCopy-after_step : (size clock : ℕ) (moves : Bool) (copy : Option MissileCopy) → IsSize size → IsCopy copy
    → IsCopy (stepped_missile_copy size moves (copy_before_step size clock moves copy))
IsCopy-after_step size clock moves None s h = h
IsCopy-after_step size clock moves (Some copy) s h =
    cond_both (copy.place == 3) _ _ (λ c. IsCopy (stepped_missile_copy size moves c)) (λ e. IsCopy-about size clock moves s) (λ e. IsCopy-stepped size moves copy s h)

pub missile-stepped : (nusiz clock : ℕ) (m : Missile) → IsMissileUnderway m → IsMissileUnderway (missile_after_step nusiz clock m)
missile-stepped nusiz clock m h =
    record {
      enam = h.enam;
      resmp = h.resmp;
      hmm = h.hmm;
      counter = next_counter-small m.counter h.counter;
      copy = cond_both (begins_missile nusiz m) _ _ IsCopy (λ e. (omega arith, omega arith, refl)) (λ e. IsCopy-after_step (size_of nusiz) clock m.moves m.copy (IsSize-of nusiz) h.copy);
    }

-- looks, and what HMOVE changes
pub missile-looked_at : (m : Missile) → IsMissileUnderway m → IsMissileUnderway (looked_at_missile m)
missile-looked_at m h = search rules

pub missile-moved : (m : Missile) (moves : Bool) → IsMissileUnderway m → IsMissileUnderway (record m { moves = moves })
missile-moved m moves h = search rules

pub missile-unseen : (m : Missile) → IsMissileUnderway m → IsMissileUnderway (record m { seen = false })
missile-unseen m h = search rules

pub missile-pulsed : (t : TiaState) (nusiz : ℕ) (m : Missile) → IsMissileUnderway m → IsMissileUnderway (missile_after_pulse t nusiz m)
missile-pulsed t nusiz m h =
    let now = record m { moves = m.moves && still_moves m.hmm t.pulses } in
    cond_both (now.moves && is_in_blank t) _ _ IsMissileUnderway (λ e. missile-stepped nusiz t.clock now (missile-moved m now.moves h)) (λ e. missile-moved m now.moves h)

-- NUSIZ
IsCopy-resized : (size : ℕ) (copy : Option MissileCopy) → IsCopy copy → IsCopy (resized_copy size copy)
IsCopy-resized size None h = h
IsCopy-resized size (Some copy) h = cond_both (nat_le (4 + size) copy.place) _ _ IsCopy (λ e. (omega arith, omega arith, refl)) (λ e. h)

pub missile-resized : (nusiz : ℕ) (m : Missile) → IsMissileUnderway m → IsMissileUnderway (missile_after_nusiz nusiz m)
missile-resized nusiz m h = record { enam = h.enam; resmp = h.resmp; hmm = h.hmm; counter = h.counter; copy = IsCopy-resized (size_of nusiz) m.copy h.copy }

-- RESM
IsCopy-strobed : (size : ℕ) (in_blank : Bool) (late : ℕ) (copy : Option MissileCopy) → late ≤ 2 → IsCopy copy → IsCopy (strobed_missile_copy size in_blank late copy)
IsCopy-strobed size in_blank late None l h = h
IsCopy-strobed size in_blank late (Some copy) l h =
    cond_both (nat_lt copy.place 4) _ _ IsCopy (λ e. (omega arith, h.1, grind (arith, nat_tests, h.2, e)))
    (λ e. cond_both (nat_le 4 size) _ _ IsCopy (λ f. (grind (arith, nat_tests, l), h.1, grind (arith, nat_tests)))
    (λ f. cond_both in_blank _ _ IsCopy (λ g. (omega arith, omega arith, refl)) (λ g. (omega arith, h.1, refl))))

pub missile-strobed : (nusiz : ℕ) (in_blank : Bool) (late : ℕ) (m : Missile) → late ≤ 2 → IsMissileUnderway m
    → IsMissileUnderway (missile_after_strobe nusiz in_blank late m)
missile-strobed nusiz in_blank late m l h =
    record { enam = h.enam; resmp = h.resmp; hmm = h.hmm; counter = omega arith; copy = IsCopy-strobed (size_of nusiz) in_blank late m.copy l h.copy }

-- RESMP
pub missile-released : (width counter resmp : ℕ) (m : Missile) → fits_register Resmp0 resmp ≡ true → IsMissileUnderway m
    → IsMissileUnderway (missile_after_resmp width counter resmp m)
missile-released width counter resmp m e h =
    record {
      enam = h.enam;
      resmp = e;
      hmm = h.hmm;
      counter = cond_both (is_locked m && not (has_bit resmp 1)) _ _ (λ n. n < 160) (λ f. omega arith) (λ f. h.counter);
      copy = h.copy;
    }
