-- The names that are held in an input, and the input of names.
use Rattle.std.proofs.Common.{◌≡◌, ℕ, ◌+◌, ◌%◌, ◌^◌, Bool, true, false, cond, List, []}
use Rattle.std.proofs.Common.{◌∷◌, bit_and, lit<, sym, refl, ap, ◌∙◌, arith, Some}
use Rattle.std.specs.Prelude.{◌&&◌, ◌||◌, nat_eq, nat_lt, fold, bit_xor, sum_by}
use Rattle.std.specs.Int.{bit_at}
use Rattle.std.specs.List.{list_all, list_any, position_or_len}
use Rattle.std.specs.Str.{bytes_eq}
use Rattle.std.proofs.lemmas.Bool.{agree_below, agree_below_at, cond_both, eqb-true}
use Rattle.std.proofs.lemmas.Bool.{not-true}
use Rattle.std.proofs.lemmas.Bool.Decides.{nat_tests}
use Rattle.std.proofs.lemmas.List.Sums.{AllPass-from_list_all}
use Rattle.std.proofs.lemmas.Map.Views.{any-filter_same}
use Rattle.std.proofs.lemmas.Nat.Bits.{bit_at_xor, bit_at-lt}
use Rattle.std.proofs.Math.Bool.{and-true, or-false, or_assoc}
use Rattle.vcs_machine.specs.Inputs.{InputData}
use Rattle.input_text.specs.declared.name.Name.{Name}
use Rattle.input_text.specs.declared.name.Name.TheVariants.{Up0}
use Rattle.input_text.specs.declared.name.Port.{Port}
use Rattle.input_text.specs.declared.name.Port.TheVariants.{Swcha, Swchb, Buttons}
use Rattle.input_text.specs.Names.{bit_of_name, names, idle, port_byte, with_byte, is_held, hold}
use Rattle.input_text.specs.Names.{names_in, input_with, IsInputOfBytes}
use Rattle.input_text.specs.Texts.{name_of}

abbrev pub word_of : Name → List ℕ
word_of name = (bit_of_name name).word

abbrev is_its_word : Name → Name → Bool
is_its_word name other = bytes_eq (word_of other) (word_of name)

abbrev place_of : Name → ℕ
place_of name = position_or_len (is_its_word name) names

-- what is true of each name, by a test of all of them
pub every_name : (test : Name → Bool) → list_all test names ≡ true → (name : Name) → test name ≡ true
every_name test all Up0 = AllPass-from_list_all test names all 0 Up0 (lit< tt)
every_name test all name = AllPass-from_list_all test names all (place_of name) Up0 (lit< tt)

pub word_is_named : (name : Name) → name_of (word_of name) ≡ Some name
word_is_named Up0 = refl
word_is_named _ = refl

same_name : (name other : Name) → is_its_word name other ≡ true → other ≡ name
same_name name other e = grind arith

abbrev is_same_port : Port → Port → Bool
is_same_port Swcha Swcha = true
is_same_port Swchb Swchb = true
is_same_port Buttons Buttons = true
is_same_port _ _ = false

turned_bit : (p q : Port) (c : InputData) (mask n : ℕ) → bit_at (port_byte p (with_byte q (bit_xor (port_byte q c) mask) c)) n
    ≡ (bit_at (port_byte p c) n + cond (is_same_port p q) (bit_at mask n) 0) % 2
turned_bit p q c mask n = grind (arith, bit_at_xor, bit_at-lt)

-- the bit of another name in the place of a name's
abbrev bit_there : Name → Name → ℕ
bit_there name other =
    cond (is_same_port (bit_of_name name).port (bit_of_name other).port) (bit_at (2 ^ (bit_of_name other).bit) (bit_of_name name).bit) 0

one_bit : (name other : Name) → bit_there name other ≡ cond (is_its_word name other) 1 0
one_bit name other = grind arith

hold_more : (c : InputData) (other name : Name) → is_held (hold c other) name ≡ (is_held c name || is_its_word name other)
hold_more c other name =
    let port : Port = (bit_of_name name).port in
    let bit : ℕ = (bit_of_name name).bit in
    let turned = turned_bit port (bit_of_name other).port c (2 ^ (bit_of_name other).bit) bit in
    let own = one_bit name other in
    let same = same_name name other in
    grind (arith, nat_tests, bit_at-lt (port_byte port c) bit, bit_at-lt (port_byte port idle) bit)

held_from : (c : InputData) (held : List Name) (name : Name)
    → is_held (fold hold c held) name ≡ (is_held c name || list_any (is_its_word name) held)
held_from c [] name = sym (or-false (is_held c name))
held_from c (other ∷ held) name =
    held_from (hold c other) held name ∙ ap (λ (b : Bool). b || list_any (is_its_word name) held) (hold_more c other name)
    ∙ or_assoc (is_held c name) (is_its_word name other) (list_any (is_its_word name) held)

pub held_found : (held : List Name) (name : Name) → is_held (input_with held) name ≡ list_any (is_its_word name) held
held_found held name = grind (arith, held_from, not-true, every_name)

-- the names that are held in the input of those that are held in an input
names_held : (c : InputData) (name : Name) → is_held (input_with (names_in c)) name ≡ is_held c name
names_held c name =
    held_found (names_in c) name
    ∙ any-filter_same (is_its_word name) (is_held c) (is_held c name) (λ other e. ap (is_held c) (same_name name other e)) names
    ∙ rw (every_name (λ n. list_any (is_its_word n) names) refl name) (and-true (is_held c name))

-- a byte in which these names are held
abbrev byte_with : Port → (Name → Bool) → ℕ
byte_with port held =
    bit_xor (port_byte port idle)
    (sum_by (λ name. cond (is_same_port port (bit_of_name name).port && held name) (2 ^ (bit_of_name name).bit) 0) names)

abbrev input_by : (Name → Bool) → InputData
input_by held = record { swcha = byte_with Swcha held; swchb = byte_with Swchb held; buttons = byte_with Buttons held }

abbrev at_port : Port → ℕ → Name → Bool
at_port port n = is_held (with_byte port n idle)

-- which bytes a port of a movie's input has
abbrev has_byte : Port → ℕ → Bool
has_byte Swcha byte = nat_lt byte 256
has_byte Swchb byte = nat_lt byte 256 && nat_eq (bit_and byte 52) 52
has_byte Buttons byte = nat_lt byte 4

abbrev HasBytes : InputData → Type 0
HasBytes c = (port : Port) → has_byte port (port_byte port c) ≡ true

has_bytes : (c : InputData) → IsInputOfBytes c → HasBytes c
has_bytes c so port = grind arith

-- what is true of each byte that a port has, by a test of all of them
every_byte : (port : Port) (test : ℕ → Bool) → agree_below (has_byte port) (λ b. has_byte port b && test b) 256 ≡ true
    → (byte : ℕ) → has_byte port byte ≡ true → test byte ≡ true
every_byte Swcha test all byte e = grind (arith, nat_tests, agree_below_at (has_byte Swcha) (λ b. has_byte Swcha b && test b) 256 byte all)
every_byte port test all byte e = grind (arith, nat_tests, agree_below_at (has_byte port) (λ b. has_byte port b && test b) 256 byte all)

byte_known : (port : Port) (c : InputData) → has_byte port (port_byte port c) ≡ true → byte_with port (is_held c) ≡ port_byte port c
byte_known Swcha c e = eqb-true _ _ (every_byte Swcha (λ b. nat_eq (byte_with Swcha (at_port Swcha b)) b) refl c.swcha e)
byte_known port c e = eqb-true _ _ (every_byte port (λ b. nat_eq (byte_with port (at_port port b)) b) refl (port_byte port c) e)

-- an input is that of the names that are held in it
input_known : (c : InputData) → HasBytes c → input_by (is_held c) ≡ c
input_known c so = rw (byte_known Swcha c (so Swcha), byte_known Swchb c (so Swchb), byte_known Buttons c (so Buttons)) refl

byte_turned : (name : Name) (byte : ℕ) → has_byte (bit_of_name name).port byte ≡ true
    → has_byte (bit_of_name name).port (bit_xor byte (2 ^ (bit_of_name name).bit)) ≡ true
byte_turned Up0 byte e = every_byte Swcha (λ b. has_byte Swcha (bit_xor b 16)) refl byte e
byte_turned name byte e = every_byte (bit_of_name name).port (λ b. has_byte (bit_of_name name).port (bit_xor b (2 ^ (bit_of_name name).bit))) refl byte e

byte_written : (p q : Port) (byte : ℕ) (c : InputData) → has_byte q byte ≡ true → HasBytes c → has_byte p (port_byte p (with_byte q byte c)) ≡ true
byte_written p q byte c e so = grind arith

held_bytes : (c : InputData) (held : List Name) → HasBytes c → HasBytes (fold hold c held)
held_bytes c [] so = so
held_bytes c (name ∷ held) so =
    held_bytes (hold c name) held (cond_both (is_held c name) c _ HasBytes (λ _. so)
    (λ _ p. byte_written p (bit_of_name name).port _ c (byte_turned name (port_byte (bit_of_name name).port c) (so (bit_of_name name).port)) so))

pub holding_held : (c : InputData) → IsInputOfBytes c → input_with (names_in c) ≡ c
holding_held c lawful =
    let same : is_held (input_with (names_in c)) ≡ is_held c = λ i. λ name. names_held c name i in
    let at_rest : HasBytes idle = has_bytes idle (record { swcha = lit< tt; swchb = lit< tt; input = refl }) in
    sym (input_known (input_with (names_in c)) (held_bytes idle (names_in c) at_rest)) ∙ ap input_by same ∙ input_known c (has_bytes c lawful)
