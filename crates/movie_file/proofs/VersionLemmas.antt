-- What holds of each row of the versions' table holds of the row of any version.
use Rattle.std.proofs.Common.{◌≡◌, ℕ, ◌+◌, ◌^◌, ◌<◌, ◌≤◌, Bool, true, false, List, [], ◌∷◌, Option, Some, None}
use Rattle.std.proofs.Common.{refl, sym, ap, subst, ◌∙◌, arith, inl, inr}
use Rattle.std.specs.Prelude.{◌⊎◌, ◌==◌, ◌&&◌, ◌||◌, nat_le, nat_lt, find, unwrap_or, if◌then◌else◌}
use Rattle.std.specs.List.{list_all}
use Rattle.std.proofs.lemmas.Bool.{and_parts, cases_Bool, or_cases, eqb-true, ltb-true, leb-true}
use Rattle.cart_board.specs.Board.{Row}
use Rattle.cart_board.specs.Record.{record_length as board_record_length}
use Rattle.chip_machine.specs.RecordNumbers.{cart_place, record_length as chip_record_length}
use Rattle.movie_machine.specs.declared.rules.Rules.{Rules}
use Rattle.movie_machine.specs.declared.rules.Rules.TheVariants.{Guide, Chip}
use Rattle.movie_file.specs.declared.format.Version.{Version}
use Rattle.movie_file.specs.Format.{is_length, is_version, names_board, row_of, rules_by, version_2, versions, length_width, takes_cart, most_frames}
use Rattle.movie_file.specs.Format.{record_length, state_length}
use Rattle.movie_file.specs.RecordNumbers.{bank_place}
use Rattle.movie_file.proofs.ReadLemmas.{IsWide, wide16, wide32}

-- what holds of all holds of the one that is found
pub all_found : {X : Type 0} (p q : X → Bool) (xs : List X) (x : X) → list_all q xs ≡ true → find p xs ≡ Some x → q x ≡ true
all_found p q [] x all is = absurd cc
all_found p q (y ∷ ys) x all is = step (λ h. all_found p q ys x (and_parts (q y) (list_all q ys) all).1 h) (p y) is
  where
    step : (find p ys ≡ Some x → q x ≡ true) → (b : Bool) → (if b then Some y else find p ys) ≡ Some x → q x ≡ true
    step later true is = let same : y ≡ x = cc in ap q (sym same) ∙ (and_parts (q y) (list_all q ys) all).0
    step later false is = later is

pub each_version : (q : Version → Bool) → list_all q versions ≡ true → q version_2 ≡ true → (n : ℕ) → q (row_of n) ≡ true
each_version q all last n = by (find (λ row. row.number == n) versions) refl
  where
    by : (o : Option Version) → find (λ row. row.number == n) versions ≡ o → q (unwrap_or o version_2) ≡ true
    by None is = last
    by (Some row) is = all_found (λ row. row.number == n) q versions row all is

-- the number of a version has two bytes
pub small_version : (n : ℕ) → is_version n ≡ true → n < 2 ^ 16
small_version n is =
    let row = row_of n in
    let same = eqb-true row.number n is in
    let small = ltb-true row.number (2 ^ 16) (each_version (λ row. nat_lt row.number (2 ^ 16)) refl refl n) in
    omega arith

-- ---- the numbers of a version

pub own_record-some : (version : ℕ) → 0 < (row_of version).record_length
own_record-some version = ltb-true _ _ (each_version (λ row. nat_lt 0 row.record_length) refl refl version)

pub own_record-few : (version : ℕ) → (row_of version).record_length ≤ 206
own_record-few version = leb-true _ _ (each_version (λ row. nat_le row.record_length 206) refl refl version)

pub most_frames-most : (version : ℕ) → most_frames version ≤ 262143
most_frames-most version = leb-true _ _ (each_version (λ row. nat_le row.most_frames 262143) refl refl version)

-- what holds of each row by the guide's rules holds of the row of each version that is of them
of_guide : (q : Version → Bool) → list_all (λ row. names_board row.rules || q row) versions ≡ true → (version : ℕ) → rules_by version ≡ Guide
    → q (row_of version) ≡ true
of_guide q all version guide =
    let each = each_version (λ row. names_board row.rules || q row) all (last all) version in
    subst (λ (r : Rules). (names_board r || q (row_of version)) ≡ true) guide each
  where
    last : list_all (λ row. names_board row.rules || q row) versions ≡ true → (names_board version_2.rules || q version_2) ≡ true
    last all = all_found (λ row. row.number == 2) (λ row. names_board row.rules || q row) versions version_2 all refl

pub record_length-most : (version : ℕ) → rules_by version ≡ Guide → record_length version None ≤ state_length
record_length-most version guide = leb-true _ _ (of_guide (λ row. nat_le row.record_length state_length) refl version guide)

pub ruleset of_each_version = (own_record-some, own_record-few, most_frames-most, record_length-most)

-- a record by the chip's rules leaves nothing out
chip_part : (version : ℕ) → rules_by version ≡ Chip → (row_of version).record_length ≡ cart_place
chip_part version chip =
    let test = λ (row : Version). if names_board row.rules then row.record_length == cart_place else true in
    let is = subst (λ (r : Rules). (if names_board r then (row_of version).record_length == cart_place else true) ≡ true) chip (each_version test refl refl version) in
    eqb-true (row_of version).record_length cart_place is

pub chip_record : (version : ℕ) (row : Row) → rules_by version ≡ Chip → record_length version (Some row) ≡ chip_record_length row
chip_record version row chip = ap (λ (n : ℕ). n + board_record_length row) (chip_part version chip)

-- a record is whole, or leaves out the bank, and then no cartridge has banks
pub record_is_whole : (version : ℕ) → rules_by version ≡ Guide
    → ((record_length version None ≡ bank_place) × ((row_of version).longest_cartridge < 8192)) ⊎ (record_length version None ≡ state_length)
record_is_whole version guide =
    let row = row_of version in
    let old = (row.record_length == bank_place) && nat_lt row.longest_cartridge 8192 in
    let new = row.record_length == state_length in
    let each =
    of_guide (λ row. ((row.record_length == bank_place) && nat_lt row.longest_cartridge 8192) || (row.record_length == state_length)) refl version guide in
    elim (or_cases old new each) [
      | inl is ↦
          let parts = and_parts (row.record_length == bank_place) (nat_lt row.longest_cartridge 8192) is in
          inl (eqb-true row.record_length bank_place parts.0, ltb-true row.longest_cartridge 8192 parts.1)
      | inr is ↦ inr (eqb-true row.record_length state_length is)
    ]

-- ---- the length of a cartridge in a header

abbrev pub length_limit : Version → ℕ
length_limit row = if row.has_wide_length then 2 ^ 32 else 2 ^ 16

pub wide_length : (version : ℕ) → IsWide (length_width version) (length_limit (row_of version))
wide_length version = elim (cases_Bool (row_of version).has_wide_length) [
  | inl wide ↦ rw wide wide32
  | inr narrow ↦ rw narrow wide16
]

pub small_length : (version : ℕ) (board : Option Row) (n : ℕ) → takes_cart version board n ≡ true → n < length_limit (row_of version)
small_length version board n takes =
    let row = row_of version in
    let parts = and_parts (is_length board n) (nat_le n row.longest_cartridge) takes in
    let most = leb-true n row.longest_cartridge parts.1 in
    let room = ltb-true row.longest_cartridge (length_limit row) (each_version (λ row. nat_lt row.longest_cartridge (length_limit row)) refl refl version) in
    omega arith
