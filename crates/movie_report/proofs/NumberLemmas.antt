-- Which number stands at which place, and how many bytes the numbers have.
use Rattle.std.proofs.Common.{◌≡◌, ◌≢◌, ℕ, ◌+◌, ◌-◌, ◌<◌, ◌≤◌, ◌^◌, List, [], ◌∷◌, length, refl, arith, ap, ◌∙◌}
use Rattle.std.specs.Prelude.{◌++◌, map, slice_index_or, codes, Option, Some, None, nat_lt}
use Rattle.std.specs.Fmt.{decimal}
use Rattle.std.specs.List.{range_with_len}
use Rattle.std.proofs.lemmas.Bool.{ltb-true, ne_eqb}
use Rattle.std.proofs.lemmas.List.{get_or_append_left, get_or-append_right, length-append}
use Rattle.std.proofs.lemmas.List.FromFn.{get_or-map-range_with_len, length-map-range_with_len, length-range_with_len}
use Rattle.cart_board.specs.Board.{Row}
use Rattle.cart_board.specs.Boards.{IsBoard}
use Rattle.cart_board.specs.Record.{record_length}
use Rattle.cart_board.proofs.RowLemmas.{of_boards}
use Rattle.movie_report.specs.declared.numbers.TheConstants.{MEMORY, OF_CHIP_RIOT, OF_CHIP_TIA, OF_PROCESSOR, OF_RIOT, OF_TIA, OTHERS_AT}
use Rattle.movie_report.specs.Numbers.{NumberData, bank_name, bytes_in, cart_names, chip_names, guide_names, memory_name, memory_names}
use Rattle.movie_report.specs.Numbers.{names_of, other_names, processor_names, ram_name, state_names}
use Rattle.riot_chip.specs.Riot.{riot_numbers as riot_by_chip}
use Rattle.riot_map.specs.RiotFields.{riot_numbers}
use Rattle.tia_chip.specs.Numbers.{tia_numbers as tia_by_chip}
use Rattle.tia_core.specs.Numbers.{tia_numbers}
use Rattle.vcs_machine.specs.States.{bank_numbers}
use Rattle.movie_file.specs.Record.{whole_length}
use Rattle.movie_report.specs.Private.Places.{state_number_at, no_place}

length-memory_names : length memory_names ≡ MEMORY
unfolding memory_names
length-memory_names = refl

-- ---- how many there are

pub length-cart_names : (row : Row) → length (cart_names row) ≡ record_length row
unfolding cart_names
length-cart_names row =
    let count = length row.banks in
    let banks = map (bank_name count) (range_with_len 0 count) in
    let ram = map ram_name (range_with_len 0 row.ram) in
    omega (arith, length-append banks ram, length-map-range_with_len (bank_name count) 0 count, length-map-range_with_len ram_name 0 row.ram)

pub length-others : (board : Option Row) → length (state_names board) ≡ OTHERS_AT + length (other_names board)
unfolding state_names
length-others board =
    omega (
      arith,
      length-append processor_names (memory_names ++ other_names board),
      length-append memory_names (other_names board),
      length-memory_names,
    )

pub length-by_guide : length (state_names None) ≡ OTHERS_AT + (OF_RIOT + OF_TIA + 1)
length-by_guide = length-others None

pub length-by_chip : (row : Row) → length (state_names (Some row)) ≡ OTHERS_AT + (OF_CHIP_RIOT + OF_CHIP_TIA + record_length row)
length-by_chip row =
    omega (
      arith,
      length-others (Some row),
      length-append (names_of riot_by_chip) (names_of tia_by_chip ++ cart_names row),
      length-append (names_of tia_by_chip) (cart_names row),
      length-cart_names row,
    )

pub length-chip_names : (row : Row) → length (chip_names row) ≡ OF_CHIP_RIOT + OF_CHIP_TIA + record_length row
length-chip_names row =
    omega (
      arith,
      length-append (names_of riot_by_chip) (names_of tia_by_chip ++ cart_names row),
      length-append (names_of tia_by_chip) (cart_names row),
      length-cart_names row,
    )

-- a board has few of its own
pub few_on_board : (row : Row) → IsBoard row → record_length row < 2 ^ 12
few_on_board row is = ltb-true (record_length row) 4096 (of_boards (λ (row : Row). nat_lt (record_length row) 4096) refl row is)

pub ruleset number_counts = (length-by_guide, length-by_chip, few_on_board)

-- ---- their bytes

bytes_in-append : (some more : List NumberData) → bytes_in (some ++ more) ≡ bytes_in some + bytes_in more
bytes_in-append [] more = omega arith
bytes_in-append (n ∷ ns) more = omega (arith, bytes_in-append ns more)

-- of numbers of one byte each
bytes_in-map : (name : ℕ → NumberData) (places : List ℕ) → ((place : ℕ) → (name place).length ≡ 1) → bytes_in (map name places) ≡ length places
bytes_in-map name [] one = refl
bytes_in-map name (place ∷ places) one = omega (arith, one place, bytes_in-map name places one)

bytes_in-cart_names : (row : Row) → bytes_in (cart_names row) ≡ record_length row
unfolding cart_names
bytes_in-cart_names row =
    let count = length row.banks in
    omega (
      arith,
      bytes_in-append (map (bank_name count) (range_with_len 0 count)) (map ram_name (range_with_len 0 row.ram)),
      bytes_in-map (bank_name count) (range_with_len 0 count) (λ _. refl),
      bytes_in-map ram_name (range_with_len 0 row.ram) (λ _. refl),
      length-range_with_len 0 count,
      length-range_with_len 0 row.ram,
    )

-- They are those of a record.
pub bytes_in-numbers : (board : Option Row) → bytes_in (state_names board) ≡ whole_length board
unfolding state_names memory_names
bytes_in-numbers None = refl
bytes_in-numbers (Some row) = bytes_in-append (processor_names ++ memory_names ++ names_of riot_by_chip ++ names_of tia_by_chip) (cart_names row) ∙ ap (λ (n : ℕ). 206 + n) (bytes_in-cart_names row)

pub ruleset record_bytes = (bytes_in-numbers)

-- ---- which one stands at a place

pub number_at-processor : (board : Option Row) (place : ℕ) → place < OF_PROCESSOR
    → state_number_at board place ≡ slice_index_or processor_names place no_place
unfolding state_number_at state_names
number_at-processor board place low = get_or_append_left processor_names (memory_names ++ other_names board) no_place place low

pub number_at-memory : (board : Option Row) (place : ℕ) → OF_PROCESSOR ≤ place → place < OTHERS_AT
    → state_number_at board place ≡ memory_name (0x80 + (place - OF_PROCESSOR))
unfolding state_number_at state_names memory_names
number_at-memory board place high low =
    let others = other_names board in
    let within : place - OF_PROCESSOR < length memory_names = omega (arith, length-memory_names) in
    get_or-append_right processor_names (memory_names ++ others) OF_PROCESSOR place no_place refl high
    ∙ get_or_append_left memory_names others no_place (place - OF_PROCESSOR) within
    ∙ get_or-map-range_with_len memory_name 0x80 MEMORY (place - OF_PROCESSOR) (0x80 + (place - OF_PROCESSOR)) no_place (omega arith) (omega arith)

pub number_at-other : (board : Option Row) (place : ℕ) → OTHERS_AT ≤ place
    → state_number_at board place ≡ slice_index_or (other_names board) (place - OTHERS_AT) no_place
unfolding state_number_at state_names
number_at-other board place high =
    let others = other_names board in
    let seam : place - OF_PROCESSOR - MEMORY ≡ place - OTHERS_AT = omega arith in
    get_or-append_right processor_names (memory_names ++ others) OF_PROCESSOR place no_place refl (omega arith)
    ∙ get_or-append_right memory_names others MEMORY (place - OF_PROCESSOR) no_place length-memory_names (omega arith)
    ∙ ap (λ (i : ℕ). slice_index_or others i no_place) seam

pub ruleset number_places = (length-others, number_at-processor, number_at-memory, number_at-other)

-- ---- after the memory

pub guide-riot : (place : ℕ) → place < OF_RIOT → slice_index_or guide_names place no_place ≡ slice_index_or (names_of riot_numbers) place no_place
guide-riot place low = get_or_append_left (names_of riot_numbers) (names_of tia_numbers ++ names_of bank_numbers) no_place place low

pub guide-tia : (place : ℕ) → OF_RIOT ≤ place → place < OF_RIOT + OF_TIA
    → slice_index_or guide_names place no_place ≡ slice_index_or (names_of tia_numbers) (place - OF_RIOT) no_place
guide-tia place high low =
    let within : place - OF_RIOT < OF_TIA = omega arith in
    get_or-append_right (names_of riot_numbers) (names_of tia_numbers ++ names_of bank_numbers) OF_RIOT place no_place refl high
    ∙ get_or_append_left (names_of tia_numbers) (names_of bank_numbers) no_place (place - OF_RIOT) within

pub guide-bank : (place : ℕ) → OF_RIOT + OF_TIA ≤ place
    → slice_index_or guide_names place no_place ≡ slice_index_or (names_of bank_numbers) (place - OF_RIOT - OF_TIA) no_place
guide-bank place high =
    let within : OF_TIA ≤ place - OF_RIOT = omega arith in
    get_or-append_right (names_of riot_numbers) (names_of tia_numbers ++ names_of bank_numbers) OF_RIOT place no_place refl (omega arith)
    ∙ get_or-append_right (names_of tia_numbers) (names_of bank_numbers) OF_TIA (place - OF_RIOT) no_place refl within

pub ruleset guide_places = (guide-riot, guide-tia, guide-bank)

pub chip-riot : (row : Row) (place : ℕ) → place < OF_CHIP_RIOT
    → slice_index_or (chip_names row) place no_place ≡ slice_index_or (names_of riot_by_chip) place no_place
chip-riot row place low = get_or_append_left (names_of riot_by_chip) (names_of tia_by_chip ++ cart_names row) no_place place low

pub chip-tia : (row : Row) (place : ℕ) → OF_CHIP_RIOT ≤ place → place < OF_CHIP_RIOT + OF_CHIP_TIA
    → slice_index_or (chip_names row) place no_place ≡ slice_index_or (names_of tia_by_chip) (place - OF_CHIP_RIOT) no_place
chip-tia row place high low =
    let within : place - OF_CHIP_RIOT < OF_CHIP_TIA = omega arith in
    get_or-append_right (names_of riot_by_chip) (names_of tia_by_chip ++ cart_names row) OF_CHIP_RIOT place no_place refl high
    ∙ get_or_append_left (names_of tia_by_chip) (cart_names row) no_place (place - OF_CHIP_RIOT) within

pub chip-cart : (row : Row) (place : ℕ) → OF_CHIP_RIOT + OF_CHIP_TIA ≤ place
    → slice_index_or (chip_names row) place no_place ≡ slice_index_or (cart_names row) (place - OF_CHIP_RIOT - OF_CHIP_TIA) no_place
chip-cart row place high =
    let within : OF_CHIP_TIA ≤ place - OF_CHIP_RIOT = omega arith in
    get_or-append_right (names_of riot_by_chip) (names_of tia_by_chip ++ cart_names row) OF_CHIP_RIOT place no_place refl (omega arith)
    ∙ get_or-append_right (names_of tia_by_chip) (cart_names row) OF_CHIP_TIA (place - OF_CHIP_RIOT) no_place refl within

pub ruleset chip_places = (length-chip_names, chip-riot, chip-tia, chip-cart)

-- ---- of a board

-- A bank byte.
bank_at : (row : Row) (place : ℕ) → place < length row.banks → slice_index_or (cart_names row) place no_place ≡ bank_name (length row.banks) place
unfolding cart_names
bank_at row place low =
    let count = length row.banks in
    let within : place < length (map (bank_name count) (range_with_len 0 count)) = omega (arith, length-map-range_with_len (bank_name count) 0 count) in
    get_or_append_left (map (bank_name count) (range_with_len 0 count)) (map ram_name (range_with_len 0 row.ram)) no_place place within
    ∙ get_or-map-range_with_len (bank_name count) 0 count place place no_place low (omega arith)

pub cart-one_bank : (row : Row) (place : ℕ) → place < length row.banks → length row.banks ≡ 1
    → slice_index_or (cart_names row) place no_place ≡ record { name = codes "bank"; length = 1 }
cart-one_bank row place low one = bank_at row place low ∙ rw (one) refl

pub cart-bank : (row : Row) (place : ℕ) → place < length row.banks → length row.banks ≢ 1
    → slice_index_or (cart_names row) place no_place ≡ record { name = codes "bank " ++ decimal place; length = 1 }
cart-bank row place low more = bank_at row place low ∙ rw (ne_eqb (length row.banks) 1 more) refl

pub cart-ram : (row : Row) (place : ℕ) → length row.banks ≤ place → place < record_length row
    → slice_index_or (cart_names row) place no_place ≡ ram_name (place - length row.banks)
unfolding cart_names
cart-ram row place high low =
    let count = length row.banks in
    get_or-append_right (map (bank_name count) (range_with_len 0 count)) (map ram_name (range_with_len 0 row.ram)) count place no_place
    (length-map-range_with_len (bank_name count) 0 count) high
    ∙ get_or-map-range_with_len ram_name 0 row.ram (place - count) (place - count) no_place (omega arith) (omega arith)

pub ruleset cart_places = (few_on_board, cart-one_bank, cart-bank, cart-ram)
