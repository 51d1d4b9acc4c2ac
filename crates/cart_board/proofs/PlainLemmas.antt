-- Addresses that are plain.
use Rattle.std.proofs.Common.{◌≡◌, ℕ, ◌<◌, ◌≤◌, ◌%◌, ◌==◌, true, false, List, [], ◌∷◌, Option, Some, None, refl, sym, ap, arith}
use Rattle.std.specs.Prelude.{find, is_none, nat_le, bit_and, length, slice_index}
use Rattle.std.specs.List.{list_all}
use Rattle.std.proofs.lemmas.Bool.{and_parts, eqb-true, leb-true}
use Rattle.std.proofs.lemmas.Bool.Decides.{nat_tests}
use Rattle.std.proofs.lemmas.Nat.{and_mask}
use Rattle.cart_board.specs.Access.{is_at, banks_of_byte, offset_of}
use Rattle.cart_board.specs.CartState.{CartState}
use Rattle.cart_board.specs.Plain.{SelectsNothing, ShowsRom}
use Rattle.cart_board.specs.Private.Kept.{IsPlainAt, is_high}
use Rattle.cart_board.specs.declared.hot_spot.HotSpot.{HotSpot}

-- A hot spot of the last addresses is at none below them.
low-apart : (at mask value : ℕ) → mask ≡ 8191 → 8160 ≤ value → at % 8192 < 8160 → (bit_and at mask == value) ≡ false
low-apart at mask value is high low =
    let e : bit_and at mask ≡ at % 8192 = rw is (and_mask at 13) in
    rw e (grind (arith, nat_tests))

pub none-low : (at : ℕ) (spots : List HotSpot) → list_all is_high spots ≡ true → at % 8192 < 8160
    → ◌≡◌ {A = Option HotSpot} (find (is_at at) spots) None
none-low at [] all low = refl
none-low at (spot ∷ spots) all low =
    let parts = and_parts (is_high spot) (list_all is_high spots) all in
    let here = and_parts (spot.mask == 8191) (nat_le 8160 spot.value) parts.0 in
    let apart = low-apart at spot.mask spot.value (eqb-true _ _ here.0) (leb-true _ _ here.1) low in
    rw apart (none-low at spots parts.1 low)

pub none-left : {A : Type 0} (xs : List A) → length xs ≡ 0 → xs ≡ []
none-left [] e = refl
none-left (x ∷ xs) e = absurd (omega arith)

no-trigger : (trigger : Option ℕ) (banks : List ℕ) (at byte : ℕ) → is_none trigger ≡ true → banks_of_byte trigger banks at byte ≡ banks
no-trigger None banks at byte e = refl
no-trigger (Some other) banks at byte e = absurd cc

pub plain-selects : (c : CartState) (at : ℕ) → IsPlainAt c.cartridge.row at → SelectsNothing c at
plain-selects c at plain = record {
  before = λ written. rw plain.no_spot refl;
  behind = λ byte. ap (λ (banks : List ℕ). record c { banks = banks }) (no-trigger c.cartridge.row.trigger c.banks at byte plain.untriggered);
}

pub plain-shows : (c : CartState) (at byte : ℕ) → IsPlainAt c.cartridge.row at
    → byte ≡ slice_index c.cartridge.bytes (offset_of c.cartridge.row.rest (length c.cartridge.bytes) c.banks at) → ShowsRom c at byte
plain-shows c at byte plain e = record {
  selects = plain-selects c at plain;
  rom = rw plain.no_window refl;
  byte_is = λ bus. rw plain.no_window (sym e);
  keeps = λ bus. rw plain.no_window refl;
}
