-- A record that is read is the record that was written, and what was written is read again.
use Rattle.std.proofs.Common.{◌≡◌, ℕ, zero, suc, ◌+◌, ◌-◌, ◌≤◌, true, false, List, [], ◌∷◌, ◌++◌}
use Rattle.std.proofs.Common.{length, take, drop, Option, Some, None, refl, sym, ap, subst, ◌∙◌, append_assoc, arith}
use Rattle.std.specs.Prelude.{◌&&◌, ◌==◌, IfSome, if◌then◌else◌, nat_le, nat_lt, slice_index}
use Rattle.std.proofs.Math.Seq.{take-add}
use Rattle.std.proofs.lemmas.Bool.{and_parts, and_right, and_left, and_from, cond-true, cond-false, eq-eqb, eqb-true, leb-true, ltb-false, false_from_ne_true}
use Rattle.std.proofs.lemmas.Option.{cond_some}
use Rattle.std.proofs.lemmas.List.{take_all, take_at, drop_at, take-append-drop, length-append, length-take, length-drop}
use Rattle.std.proofs.lemmas.Slice.Eq.{bytes_eq-Decides}
use borrow.Rule.Slice.PartMut.{put_mid}
use Rattle.record_table.specs.Numbers.{bytes_of}
use Rattle.cart_board.specs.Board.{Row}
use Rattle.cart_board.specs.Boards.{IsBoard}
use Rattle.cart_board.specs.CartState.{Cartridge, are_banks, fits}
use Rattle.cart_board.specs.Record.{banks_in, record_length}
use Rattle.cart_board.proofs.RecordLemmas.{is_spelled}
use Rattle.cart_board.proofs.RowLemmas.{of_boards}
use Rattle.mos_cpu.specs.Registers.{Registers, is_status, processor_numbers}
use Rattle.riot_chip.specs.declared.fields.RiotFields.{RiotFields}
use Rattle.tia_chip.specs.Numbers.{tia_numbers}
use Rattle.tia_chip.specs.declared.state.TiaState.{TiaState}
use Rattle.chip_machine.specs.Record.{IsStateOf, record_of, riot_bytes}
use Rattle.chip_machine.specs.RecordNumbers.{cart_part, cart_place, cpu_at, cpu_length, cpu_part, fields_at, riot_at}
use Rattle.chip_machine.specs.RecordNumbers.{is_spelled as is_spelled_by, record_length as record_length_on, recorded_state, riot_length, riot_part}
use Rattle.chip_machine.specs.RecordNumbers.{spells_tia, state_at, tia_at, tia_length, tia_part, tia_place}
use Rattle.chip_machine.specs.States.{StateData, is_of, is_state}
use Rattle.chip_machine.specs.declared.fields.StateFields.{StateFields}
use Rattle.chip_machine.proofs.ByteLemmas.{IsBytes, IsBytes-drop, IsBytes-take}
use Rattle.chip_machine.proofs.RecordParts.{cart_back, cpu_again, cpu_back, length-riot_bytes, riot_again, riot_back}
use Rattle.chip_machine.proofs.StateLemmas.{state_parts}
use Rattle.chip_machine.proofs.TiaNumberLemmas.{tia_again, tia_parts}

-- ---- boards

-- a board has at most three bank bytes
pub few_banks : (row : Row) → IsBoard row → length row.banks ≤ 3
few_banks row is = leb-true (length row.banks) 3 (of_boards (λ (row : Row). nat_le (length row.banks) 3) refl row is)

-- ---- a record that is read is written again

-- three parts and two more, where each equals another
same_parts : (c d r s t u k l m n : List ℕ) → c ≡ d → r ≡ s → t ≡ u → k ++ m ≡ l → c ++ r ++ t ++ k ++ m ≡ d ++ s ++ u ++ l
same_parts c d r s t u k l m n cpu riot tia cart =
    append_assoc (c ++ r ++ t) k m ∙ (let e : c ++ r ++ t ++ (k ++ m) ≡ d ++ s ++ u ++ l = cc in e)

-- the state that bytes spell
abbrev pub read_of : Row → List ℕ → StateData
read_of row b = record { fields = fields_at row b; ram = drop (length row.banks) (cart_part b) }

module _ (row : Row) (b : List ℕ) (fits : IsBytes b) (len : length b ≡ cart_place + record_length row) where
  parts_are : cpu_part b ++ riot_part b ++ tia_part b ++ cart_part b ≡ b
  parts_are =
      rw (← take-add cpu_length riot_length b, ← take-add tia_place tia_length b) (take-append-drop cart_place b)

  part_fits : (a n : ℕ) → IsBytes (take n (drop a b))
  part_fits a n = IsBytes-take n (drop a b) (IsBytes-drop a b fits)

  length-part : (a n : ℕ) → a + n ≤ cart_place → length (take n (drop a b)) ≡ n
  length-part a n within = omega (arith, length-take n (drop a b), length-drop a b)

  pub record_back : length row.banks ≤ 3 → spells_tia (tia_part b) ≡ true → record_of row (read_of row b) ≡ b
  record_back few spelled =
      let tia = (bytes_eq-Decides (bytes_of tia_numbers (tia_at (tia_part b))) (tia_part b)).0 spelled in
      same_parts _ _ _ _ _ _ _ _ _ [] (cpu_back (cpu_part b) (part_fits 0 cpu_length) (length-part 0 cpu_length (omega arith)))
      (riot_back (riot_part b) (part_fits cpu_length riot_length) (length-part cpu_length riot_length (omega arith)))
      tia
      (cart_back row (cart_part b) few (omega (arith, length-drop cart_place b)))
      ∙ parts_are

  -- it is one of a cartridge on that board, if the tests are passed
  pub read_is : (cartridge : Cartridge) → cartridge.row ≡ row → is_state (fields_at row b) ≡ true → is_of cartridge (read_of row b) ≡ true
      → IsStateOf cartridge (read_of row b)
  read_is cartridge same numbers cart = record {
    numbers = numbers;
    cart = cart;
    pc = omega (arith, part_fits 0 cpu_length 5, part_fits 0 cpu_length 6);
    memory = omega (arith, length-take 128 (riot_part b), length-part cpu_length riot_length (omega arith));
    banks = refl;
  }

-- ---- a record that is written is read again

abbrev built : Registers → RiotFields → TiaState → List ℕ → StateFields
built cpu riot tia banks = record { cpu = cpu; riot = riot; tia = tia; banks = banks }

pub same_fields : (c d : Registers) (r s : RiotFields) (t u : TiaState) (a b : List ℕ) → c ≡ d → r ≡ s → t ≡ u → a ≡ b
    → built c r t a ≡ built d s u b
same_fields c d r s t u a b cpu riot tia banks = cc

abbrev nothing : List ℕ
nothing = []

drop-nil : (n : ℕ) → drop n nothing ≡ []
drop-nil zero = refl
drop-nil (suc n) = refl

pub drop-more : (n m : ℕ) (l : List ℕ) → drop (n + m) l ≡ drop m (drop n l)
drop-more zero m l = let none : 0 + m ≡ m = omega arith in ap (λ (k : ℕ). drop k l) none
drop-more (suc n) m [] = let more : suc n + m ≡ suc (n + m) = omega arith in ap (λ (k : ℕ). drop k nothing) more ∙ sym (drop-nil m)
drop-more (suc n) m (x ∷ l) = let more : suc n + m ≡ suc (n + m) = omega arith in ap (λ (k : ℕ). drop k (x ∷ l)) more ∙ drop-more n m l

-- What is so of the record of a state of a cartridge.
pub record IsRead (cartridge : Cartridge) (s : StateData) (b : List ℕ) : Type 0 where
  pub whole : length b ≡ cart_place + record_length cartridge.row
  pub fields : fields_at cartridge.row b ≡ s.fields
  pub spelled : spells_tia (tia_part b) ≡ true
  pub ram : drop (length cartridge.row.banks) (cart_part b) ≡ s.ram

module _ (cartridge : Cartridge) (s : StateData) (board : IsBoard cartridge.row) (h : IsStateOf cartridge s) where
  abbrev row : Row
  row = cartridge.row

  abbrev cart_bytes : List ℕ
  cart_bytes = take (length row.banks) s.fields.banks ++ s.ram

  -- the bytes after the processor and the RIOT
  abbrev tail_of : List ℕ
  tail_of = bytes_of tia_numbers s.fields.tia ++ cart_bytes

  parts_of : record_of row s ≡ bytes_of processor_numbers s.fields.cpu ++ (riot_bytes s.fields.riot ++ tail_of)
  parts_of = simp append_assoc

  riot_there : riot_part (record_of row s) ≡ riot_bytes s.fields.riot
  riot_there = ap riot_part parts_of ∙ take_at (riot_bytes s.fields.riot) tail_of riot_length (length-riot_bytes s.fields.riot h.memory)

  tail_there : drop tia_place (record_of row s) ≡ tail_of
  tail_there = ap (drop tia_place) parts_of ∙ drop_at (riot_bytes s.fields.riot) tail_of riot_length (length-riot_bytes s.fields.riot h.memory)

  tia_there : tia_part (record_of row s) ≡ bytes_of tia_numbers s.fields.tia
  tia_there = ap (take tia_length) tail_there

  cart_there : cart_part (record_of row s) ≡ cart_bytes
  cart_there =
      let before = bytes_of processor_numbers s.fields.cpu ++ riot_bytes s.fields.riot in
      let tia = bytes_of tia_numbers s.fields.tia in
      let len : length (before ++ tia) ≡ cart_place =
      omega (
        arith,
        length-append before tia,
        length-append (bytes_of processor_numbers s.fields.cpu) (riot_bytes s.fields.riot),
        length-riot_bytes s.fields.riot h.memory,
      ) in
      ap cart_part (append_assoc (before ++ tia) (take (length row.banks) s.fields.banks) s.ram) ∙ drop_at (before ++ tia) cart_bytes cart_place len

  fitting : (are_banks row (length cartridge.bytes) s.fields.banks ≡ true) × (length s.ram ≡ row.ram)
  fitting =
      let both = and_parts (are_banks row (length cartridge.bytes) s.fields.banks) (length s.ram == row.ram) h.cart in
      (both.0, eqb-true (length s.ram) row.ram both.1)

  pub read_again : IsRead cartridge s (record_of row s)
  read_again =
      let parts = state_parts s.fields h.numbers in
      let spelled = is_spelled row cartridge.bytes s.fields.banks s.ram (few_banks row board) h.banks fitting.0 fitting.1 in
      let tia = tia_again s.fields.tia parts.tia parts.settled parts.aligned in
      let length_riot = length-riot_bytes s.fields.riot h.memory in
      record {
        whole = ap length parts_of ∙ omega (arith, length-append (riot_bytes s.fields.riot) tail_of, length_riot, spelled.whole);
        fields = same_fields _ _ _ _ _ _ _ _
            (ap (λ (w : List ℕ). cpu_at (cpu_part w)) parts_of ∙ cpu_again s.fields.cpu h.pc)
            (ap riot_at riot_there ∙ riot_again s.fields.riot h.memory parts.part)
            (ap tia_at tia_there ∙ tia)
            (ap (banks_in row) cart_there ∙ spelled.banks);
        spelled = rw tia_there (let e : bytes_of tia_numbers (tia_at (bytes_of tia_numbers s.fields.tia)) ≡ bytes_of tia_numbers s.fields.tia = ap (bytes_of tia_numbers) tia in
            (bytes_eq-Decides _ _).1 e);
        ram = ap (drop (length row.banks)) cart_there ∙ spelled.ram;
      }

-- of any bytes that are that record
pub is_read : (cartridge : Cartridge) (s : StateData) (b : List ℕ) → IsBoard cartridge.row → IsStateOf cartridge s → b ≡ record_of cartridge.row s → IsRead cartridge s b
is_read cartridge s b board h is = rw is (read_again cartridge s board h)

-- ---- what isn't read

-- no processor has the byte of its status
pub no_cpu : (row : Row) (b : List ℕ) → is_status (slice_index (cpu_part b) 4) ≡ false → is_state (fields_at row b) ≡ false
no_cpu row b e = false_from_ne_true _ (λ lawful. let status = (state_parts (fields_at row b) lawful).status in absurd (cc))

-- the beam is beyond its scanline
pub no_tia : (row : Row) (b : List ℕ) → nat_lt (slice_index (tia_part b) 55) 76 ≡ false → is_state (fields_at row b) ≡ false
no_tia row b e = false_from_ne_true _ (λ lawful.
    let late : 76 ≤ slice_index (tia_part b) 55 = ltb-false _ _ e in
    let within = (tia_parts (fields_at row b).tia (state_parts (fields_at row b) lawful).tia).cycle in absurd (omega arith))

-- ---- how a record is read

abbrev state_with : StateFields → List ℕ → StateData
state_with fields ram = record { fields = fields; ram = ram }

same_parts_of : (f g : StateFields) (r q : List ℕ) → f ≡ g → r ≡ q → state_with f r ≡ state_with g q
same_parts_of f g r q fields ram = cc

abbrev pub recorded : Row → List ℕ → Option StateFields
recorded row b = if is_state (fields_at row b) && spells_tia (tia_part b) then Some (fields_at row b) else None

pub unlawful : (row : Row) (b : List ℕ) → is_state (fields_at row b) ≡ false → recorded row b ≡ None
unlawful row b e = cond-false _ _ _ (and_left (is_state (fields_at row b)) (spells_tia (tia_part b)) e)

pub unspelled : (row : Row) (b : List ℕ) → spells_tia (tia_part b) ≡ false → recorded row b ≡ None
unspelled row b e = cond-false _ _ _ (and_right (is_state (fields_at row b)) (spells_tia (tia_part b)) e)

pub spelled_fields : (row : Row) (b : List ℕ) (f : StateFields) → f ≡ fields_at row b → is_state f ≡ true → spells_tia (tia_part b) ≡ true
    → Some f ≡ recorded row b
spelled_fields row b f same lawful spelled =
    ap (λ (f : StateFields). Some f) same
    ∙ sym (cond-true _ _ _ (and_from (is_state (fields_at row b)) (spells_tia (tia_part b)) (ap is_state (sym same) ∙ lawful) spelled))

-- what a record spells is found
pub found_fields : (cartridge : Cartridge) (s : StateData) (b : List ℕ) → IsStateOf cartridge s → IsRead cartridge s b
    → recorded cartridge.row b ≡ Some s.fields
found_fields cartridge s b h read = sym (spelled_fields cartridge.row b s.fields (sym read.fields) h.numbers read.spelled)

pub none_some : {A : Type 0} (o : Option A) (x : A) → o ≡ None → o ≡ Some x → ⊥
none_some None x none some = absurd cc
none_some (Some y) x none some = absurd cc

pub same_some : {A : Type 0} (x y : A) → Some x ≡ Some y → x ≡ y
same_some x y e = cc

-- the RAM of a cartridge is what follows its bank bytes
pub ram_there : (b : List ℕ) (n m : ℕ) → n ≡ m → take (length b - (cart_place + n)) (drop (cart_place + n) b) ≡ drop m (cart_part b)
ram_there b n m same =
    take_all (length b - (cart_place + n)) (drop (cart_place + n) b) (omega (arith, length-drop (cart_place + n) b))
    ∙ drop-more cart_place n b
    ∙ ap (λ (k : ℕ). drop k (cart_part b)) same

-- What was found, where a state was made of fields that are recorded and of the RAM.
pub read_found : (row : Row) (b : List ℕ) (fields : StateFields) (ram : List ℕ) (found : Option StateData) (s : StateData)
    → recorded row b ≡ Some fields → ram ≡ drop (length row.banks) (cart_part b)
    → found ≡ (if is_state fields then Some (record { fields = fields; ram = ram }) else None) → found ≡ Some s
    → (is_state (fields_at row b) ≡ true) × (spells_tia (tia_part b) ≡ true) × (read_of row b ≡ s)
read_found row b fields ram found s is_recorded is_ram made some =
    let numbers = cond_some (is_state (fields_at row b) && spells_tia (tia_part b)) (fields_at row b) fields is_recorded in
    let both = and_parts (is_state (fields_at row b)) (spells_tia (tia_part b)) numbers.0 in
    let state = cond_some (is_state fields) (state_with fields ram) s (sym made ∙ some) in
    (both.0, both.1, same_parts_of (fields_at row b) fields _ ram numbers.1 (sym is_ram) ∙ state.1)

-- it is a state of a cartridge, and the bytes are its record
pub state_found : (cartridge : Cartridge) (b : List ℕ) (s : StateData) → IsBytes b → length b ≡ cart_place + record_length cartridge.row
    → IsBoard cartridge.row → is_state (fields_at cartridge.row b) ≡ true → spells_tia (tia_part b) ≡ true → read_of cartridge.row b ≡ s
    → is_of cartridge s ≡ true → IsStateOf cartridge s × (b ≡ record_of cartridge.row s)
state_found cartridge b s fits len board numbers spelled same =
    let row = cartridge.row in
    subst (λ (s : StateData). is_of cartridge s ≡ true → IsStateOf cartridge s × (b ≡ record_of row s)) same
    (λ cart. (read_is row b fits len cartridge refl numbers cart, sym (record_back row b fits len (few_banks row board) spelled)))

-- and no other state has that record
pub state_only : (cartridge : Cartridge) (b : List ℕ) (s t : StateData) → IsBoard cartridge.row → read_of cartridge.row b ≡ s → IsStateOf cartridge t
    → b ≡ record_of cartridge.row t → s ≡ t
state_only cartridge b s t board same h is =
    let read = is_read cartridge t b board h is in
    sym same ∙ same_parts_of _ _ _ _ read.fields read.ram

-- ---- the state that a record spells

-- what is found is a state of the cartridge, and the bytes are its record
pub recorded_takes : (cartridge : Cartridge) (b : List ℕ) (s : StateData) → IsBytes b → IsBoard cartridge.row → recorded_state cartridge b ≡ Some s
    → IsStateOf cartridge s × (b ≡ record_of cartridge.row s)
unfolding recorded_state
recorded_takes cartridge b s fits board e =
    let row = cartridge.row in
    let t = state_at row b in
    let c = cond_some ((length b == record_length_on row) && is_spelled_by cartridge t b) t s e in
    let parts = and_parts (length b == record_length_on row) (is_spelled_by cartridge t b) c.0 in
    let cart = and_parts (is_state t.fields && spells_tia (tia_part b)) (is_of cartridge t) parts.1 in
    let numbers = and_parts (is_state t.fields) (spells_tia (tia_part b)) cart.0 in
    let whole = eqb-true (length b) (record_length_on row) parts.0 in
    state_found cartridge b s fits whole board numbers.0 numbers.1 c.1 (ap (is_of cartridge) (sym c.1) ∙ cart.1)

-- and it is found
pub recorded_again : (cartridge : Cartridge) (s : StateData) → IsBoard cartridge.row → IsStateOf cartridge s
    → recorded_state cartridge (record_of cartridge.row s) ≡ Some s
unfolding recorded_state
recorded_again cartridge s board h =
    let row = cartridge.row in
    let b = record_of row s in
    let read : IsRead cartridge s b = read_again cartridge s board h in
    let same : state_at row b ≡ s = same_parts_of _ _ _ _ read.fields read.ram in
    let numbers = and_from (is_state s.fields) (spells_tia (tia_part b)) h.numbers read.spelled in
    let is : is_spelled_by cartridge s b ≡ true = and_from (is_state s.fields && spells_tia (tia_part b)) (is_of cartridge s) numbers h.cart in
    let spelled : is_spelled_by cartridge (state_at row b) b ≡ true = ap (λ (t : StateData). is_spelled_by cartridge t b) same ∙ is in
    let whole = eq-eqb (length b) (record_length_on row) read.whole in
    cond-true _ _ _ (and_from (length b == record_length_on row) (is_spelled_by cartridge (state_at row b) b) whole spelled)
    ∙ ap (λ (t : StateData). Some t) same

-- it is as long as its board's
pub length-record_on : (cartridge : Cartridge) (s : StateData) → IsBoard cartridge.row → IsStateOf cartridge s
    → length (record_of cartridge.row s) ≡ record_length_on cartridge.row
length-record_on cartridge s board h = let read : IsRead cartridge s (record_of cartridge.row s) = read_again cartridge s board h in read.whole

-- what is a state of the cartridge with this record, if there is one, is what is recorded
pub found_is_recorded : (cartridge : Cartridge) (b : List ℕ) (found : Option StateData) → IsBytes b → IsBoard cartridge.row
    → IfSome found (λ s. IsStateOf cartridge s × (b ≡ record_of cartridge.row s))
    → ((s : StateData) → IsStateOf cartridge s → b ≡ record_of cartridge.row s → found ≡ Some s) → found ≡ recorded_state cartridge b
found_is_recorded cartridge b (Some s) fits board is only =
    sym (ap (recorded_state cartridge) is.1 ∙ recorded_again cartridge s board is.0)
found_is_recorded cartridge b None fits board is only = by (recorded_state cartridge b) refl
  where
    by : (recorded : Option StateData) → recorded_state cartridge b ≡ recorded → None ≡ recorded
    by (Some s) e = let takes = recorded_takes cartridge b s fits board e in only s takes.0 takes.1
    by None e = refl

-- two states have the same TIA exactly where its bytes are the same
pub same_tias : (f g : StateFields) → is_state f ≡ true → is_state g ≡ true → bytes_of tia_numbers f.tia ≡ bytes_of tia_numbers g.tia → f.tia ≡ g.tia
same_tias f g one other bytes =
    let p = state_parts f one in
    let q = state_parts g other in
    sym (tia_again f.tia p.tia p.settled p.aligned) ∙ ap tia_at bytes ∙ tia_again g.tia q.tia q.settled q.aligned

-- ---- parts one after another

-- what is put after a beginning
pub put_after : (a k : ℕ) (prefix part rest : List ℕ) → length prefix ≡ a → put_mid a k (prefix ++ rest) part ≡ prefix ++ part ++ drop k rest
put_after a k prefix part rest len = rw (take_at prefix rest a len, drop_at prefix rest a len) (sym (append_assoc prefix part (drop k rest)))

-- five parts that are appended one by one
pub appended : (out a b c d e o p q r s : List ℕ) → o ≡ out ++ a → p ≡ o ++ b → q ≡ p ++ c → r ≡ q ++ d → s ≡ r ++ e
    → s ≡ out ++ (a ++ b ++ c ++ d ++ e)
appended out a b c d e o p q r s first second third fourth fifth = rw (fifth, fourth, third, second, first) (simp append_assoc)

pub same_five : (out a b c d e v w x y z : List ℕ) → a ≡ v → b ≡ w → c ≡ x → d ≡ y → e ≡ z
    → out ++ (a ++ b ++ c ++ d ++ e) ≡ out ++ (v ++ w ++ x ++ y ++ z)
same_five out a b c d e v w x y z first second third fourth fifth = cc
