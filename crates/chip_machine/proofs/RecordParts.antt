-- The bytes of a part that are read are those that were written, and what was written is read again.
use Rattle.std.proofs.Common.{◌≡◌, ℕ, ◌^◌, ◌<◌, ◌≤◌, List, [], ◌∷◌, ◌++◌, length, take}
use Rattle.std.proofs.Common.{drop, refl, ap, ◌∙◌, arith}
use Rattle.std.proofs.lemmas.List.{take_at, drop_at, take-append-drop, length-append, length-drop}
use Rattle.std.proofs.lemmas.Nat.{from_be_bytes-to_be_bytes_2}
use Rattle.record_table.specs.Numbers.{bytes_of}
use Rattle.cart_board.specs.Board.{Row}
use Rattle.cart_board.specs.Record.{banks_in}
use Rattle.cart_board.specs.declared.bank.BankNumbers.{BankNumbers}
use Rattle.std.specs.Prelude.{slice_index, nat_lt, if◌then◌else◌}
use Rattle.mos_cpu.specs.Registers.{Registers, processor_numbers}
use Rattle.riot_chip.specs.Riot.{riot_numbers}
use Rattle.riot_chip.specs.declared.fields.RiotFields.{RiotFields}
use Rattle.chip_machine.specs.Record.{riot_bytes}
use Rattle.chip_machine.specs.RecordNumbers.{cpu_at, riot_with, riot_at, cpu_length, riot_length}
use Rattle.chip_machine.proofs.ByteLemmas.{IsBytes, IsBytes-drop, cells, cells_whole, two_back}

-- ---- written as they were read

pub cpu_back : (b : List ℕ) → IsBytes b → length b ≡ cpu_length → bytes_of processor_numbers (cpu_at b) ≡ b
cpu_back b fits len =
    ap (λ (w : List ℕ). cells 5 0 b ++ w) (two_back _ _ (fits 5) (fits 6)) ∙ cells_whole cpu_length b len

pub riot_back : (b : List ℕ) → IsBytes b → length b ≡ riot_length → riot_bytes (riot_at b) ≡ b
riot_back b fits len =
    let ports = drop 128 b in
    let ports_fit = IsBytes-drop 128 b fits in
    let whole = cells_whole 9 ports (omega (arith, length-drop 128 b)) in
    let part = ap (λ (w : List ℕ). cells 5 0 ports ++ w ++ cells 2 7 ports) (two_back _ _ (ports_fit 5) (ports_fit 6)) in
    ap (λ (w : List ℕ). take 128 b ++ w) (part ∙ whole) ∙ take-append-drop 128 b

abbrev bank_by : List BankNumbers → List ℕ → ℕ → ℕ
bank_by numbers b i = if nat_lt i (length numbers) then slice_index b i else 0

banks_back : (numbers : List BankNumbers) (b : List ℕ) → length numbers ≤ 3 → length numbers ≤ length b
    → take (length numbers) (bank_by numbers b 0 ∷ bank_by numbers b 1 ∷ bank_by numbers b 2 ∷ []) ++ drop (length numbers) b ≡ b
banks_back [] b few long = refl
banks_back (n ∷ []) [] few long = absurd (omega arith)
banks_back (n ∷ []) (x ∷ b) few long = refl
banks_back (n ∷ m ∷ []) [] few long = absurd (omega arith)
banks_back (n ∷ m ∷ []) (x ∷ []) few long = absurd (omega arith)
banks_back (n ∷ m ∷ []) (x ∷ y ∷ b) few long = refl
banks_back (n ∷ m ∷ l ∷ []) [] few long = absurd (omega arith)
banks_back (n ∷ m ∷ l ∷ []) (x ∷ []) few long = absurd (omega arith)
banks_back (n ∷ m ∷ l ∷ []) (x ∷ y ∷ []) few long = absurd (omega arith)
banks_back (n ∷ m ∷ l ∷ []) (x ∷ y ∷ z ∷ b) few long = refl
banks_back (n ∷ m ∷ l ∷ k ∷ more) b few long = absurd (omega arith)

pub cart_back : (row : Row) (b : List ℕ) → length row.banks ≤ 3 → length row.banks ≤ length b
    → take (length row.banks) (banks_in row b) ++ drop (length row.banks) b ≡ b
cart_back row b few long = banks_back row.banks b few long

-- ---- read as they were written

pub cpu_again : (c : Registers) → c.pc < 2 ^ 16 → cpu_at (bytes_of processor_numbers c) ≡ c
cpu_again c pc = ap (λ (n : ℕ). record c { pc = n }) (from_be_bytes-to_be_bytes_2 c.pc pc)

module _ (r : RiotFields) (ram : length r.ram ≡ 128) where
  pub length-riot_bytes : length (riot_bytes r) ≡ riot_length
  length-riot_bytes = omega (arith, length-append r.ram (bytes_of riot_numbers r))

  pub riot_again : r.timer.part < 2 ^ 16 → riot_at (riot_bytes r) ≡ r
  riot_again part =
      ap (λ (w : List ℕ). riot_with w (drop 128 (riot_bytes r))) (take_at r.ram _ 128 ram)
      ∙ ap (λ (w : List ℕ). riot_with r.ram w) (drop_at r.ram (bytes_of riot_numbers r) 128 ram)
      ∙ ap (λ (n : ℕ). record r { timer = record r.timer { part = n } }) (from_be_bytes-to_be_bytes_2 r.timer.part part)
