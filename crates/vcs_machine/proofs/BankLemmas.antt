-- The byte after one of the cartridge, in the bank that is selected.
use Rattle.std.proofs.Common.{◌≡◌, ℕ, ◌+◌, ◌/◌, ◌%◌, ◌<◌, List}
use Rattle.std.proofs.Common.{true, arith, refl}
use Rattle.std.specs.Prelude.{Option, Some, None, IfSome}
use Rattle.std.proofs.lemmas.Bool.{eqb-true}
use Rattle.std.proofs.lemmas.Bool.Decides.{nat_tests}
use Rattle.riot_map.specs.Bits.{has_bit}
use Rattle.riot_map.specs.Cart.{cart_byte}
use Rattle.riot_map.specs.Place.{place_of}
use Rattle.riot_map.specs.declared.places.Place.TheVariants.{Cart}
use Rattle.vcs_machine.specs.Consoles.{Console, meaning_of}

place-cart : (address place : ℕ) → place_of address ≡ Cart place → has_bit address 12 ≡ true × (place ≡ address)
place-cart address place e = (grind (arith, nat_tests), grind (arith, nat_tests))

-- The byte after one of the cartridge, as an instruction's.
pub told-after : {S : Type 0} (drawn : S → ℕ → ℕ → ℕ → S) (c : Console S) (address place : ℕ) (cartridge : List ℕ) (bank : ℕ) (byte : Option ℕ)
    → address < 65536 → place_of address ≡ Cart place → cartridge ≡ c.cartridge → bank ≡ c.bank
    → IfSome byte (λ b. b ≡ cart_byte cartridge bank (place + 1)) → IfSome byte (λ b. place % 4096 < 4095)
    → IfSome byte (λ b. (meaning_of drawn).peeked c ((address + 1) % 65536) ≡ Some b)
unfolding meaning_of
told-after drawn c address place cartridge bank None word e of_cart of_bank same inside = tt
told-after drawn c address place cartridge bank (Some byte) word e of_cart of_bank same inside =
    let at = place-cart address place e in
    let high : address / 4096 % 2 ≡ 1 = eqb-true _ _ at.0 in
    let few : address % 4096 < 4095 = rw at.1 at inside in
    let next : (address + 1) % 65536 ≡ address + 1 = omega (arith, few) in
    let there : (address + 1) / 4096 % 2 ≡ 1 = omega (arith, high, few) in
    let here : byte ≡ cart_byte c.cartridge c.bank (address + 1) = rw (at.1, of_cart, of_bank) at same in
    rw (next, there, here) refl
