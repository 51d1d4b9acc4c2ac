-- A frame leaves the cartridge that it began with: accesses change what is selected, and the RAM.
use Rattle.std.proofs.Common.{◌≡◌, ℕ, zero, suc, refl}
use Rattle.std.specs.Fn.{iterate}
use Rattle.std.proofs.lemmas.Bool.{cond_both}
use Rattle.bus_cycles.specs.Execution.{step_of}
use Rattle.bus_cycles.specs.declared.bus.Purpose.{Purpose}
use Rattle.cart_board.specs.CartState.{Cartridge}
use Rattle.mos_cpu.specs.Registers.{Registers}
use Rattle.riot_map.specs.Place.{place_of}
use Rattle.riot_map.specs.declared.places.Place.{Place}
use Rattle.riot_map.specs.declared.places.Place.TheVariants.{Cart, Tia, Ram, Io}
use Rattle.tia_chip.specs.Write.{effect_of}
use Rattle.tia_chip.specs.declared.effect.Effect.{Effect}
use Rattle.tia_chip.specs.declared.effect.Effect.TheVariants.{Nothing, Sync, FrameEnd}
use Rattle.chip_machine.specs.Consoles.{Console, after_cycle, after_stop, cycles_to_line_start, meaning_of, read_at, with_effect, written_at}
use Rattle.chip_machine.proofs.CycleLemmas.{bus-kept}

read_at-cart : {S : Type 0} (c : Console S) (place : Place) → (read_at c place).cart.cartridge ≡ c.cart.cartridge
read_at-cart c (Cart address) = refl
read_at-cart c (Tia register) = refl
read_at-cart c (Ram index) = refl
read_at-cart c (Io register) = refl

effect-cart : {S : Type 0} (effect : Effect) (c : Console S) → (with_effect effect c).cart ≡ c.cart
effect-cart Nothing c = refl
effect-cart Sync c = refl
effect-cart FrameEnd c = refl

written_at-cart : {S : Type 0} (c : Console S) (place : Place) (value : ℕ) → (written_at c place value).cart.cartridge ≡ c.cart.cartridge
written_at-cart c (Cart address) value = refl
written_at-cart c (Tia register) value = rw (effect-cart (effect_of c.tia register value)) refl
written_at-cart c (Ram index) value = refl
written_at-cart c (Io register) value = refl

module _ {S : Type 0} (drawn : S → ℕ → ℕ → ℕ → S) (k : Cartridge) where
  abbrev HasCart : Console S → Type 0
  HasCart c = c.cart.cartridge ≡ k

  cycles-kept : (n : ℕ) (c : Console S) → HasCart c → HasCart (iterate (after_cycle drawn) n c)
  cycles-kept zero c has = has
  cycles-kept (suc n) c has = cycles-kept n (after_cycle drawn c) has

  pub stop-kept : (c : Console S) → HasCart c → HasCart (after_stop drawn c)
  stop-kept c has =
      cond_both c.is_stopped _ _ HasCart (λ _. cycles-kept (cycles_to_line_start c.tia.clock) c has) (λ _. has)

  read-kept : (c : Console S) (purpose : Purpose) (at : ℕ) → HasCart c → HasCart ((meaning_of drawn).after_read c purpose at)
  unfolding meaning_of
  read-kept c purpose at has = rw (read_at-cart _ (place_of at)) (stop-kept c has)

  write-kept : (c : Console S) (at byte : ℕ) → HasCart c → HasCart ((meaning_of drawn).after_write c at byte)
  unfolding meaning_of
  write-kept c at byte has = rw (written_at-cart _ (place_of at) byte) has

  pub step-cart : (r : Registers) (c : Console S) → HasCart c → HasCart (step_of (meaning_of drawn) r c).bus
  step-cart r c has = bus-kept (meaning_of drawn) HasCart read-kept write-kept r c has
