-- The bytes of a part that are read are those that were written, and what was written is read
-- again.
use Rattle.std.proofs.Common.{◌≡◌, ℕ, ◌*◌, ◌/◌, ◌^◌, ◌<◌, List, [], ◌∷◌, ◌++◌, length, get_or, take}
use Rattle.std.proofs.Common.{drop, sym, ap, ◌∙◌, arith}
use Rattle.std.proofs.lemmas.List.{take_at, drop_at, take-append-drop, length-append, length-drop}
use Rattle.std.proofs.lemmas.Nat.{from_be_bytes-to_be_bytes_2}
use Rattle.mos_cpu.specs.Registers.{Registers}
use Rattle.riot_map.specs.declared.fields.RiotFields.{RiotFields}
use Rattle.tia_core.specs.declared.fields.TiaFields.{TiaFields}
use Rattle.record_table.specs.Numbers.{bytes_of}
use Rattle.mos_cpu.specs.Registers.{processor_numbers}
use Rattle.riot_map.specs.RiotFields.{riot_numbers}
use Rattle.tia_core.specs.Numbers.{tia_numbers}
use Rattle.movie_file.specs.Record.{riot_bytes}
use Rattle.movie_file.specs.RecordNumbers.{cpu_at, riot_with, riot_at, tia_at, cpu_length, riot_length, tia_length}
use Rattle.movie_file.proofs.ByteLemmas.{IsBytes, IsBytes-drop, cells, cells_whole, two_back}

-- ---- written as they were read

pub cpu_back : (b : List ℕ) → IsBytes b → length b ≡ cpu_length → bytes_of processor_numbers (cpu_at b) ≡ b
cpu_back b fits len =
    ap (λ (w : List ℕ). cells 5 0 b ++ w) (two_back _ _ (fits 5) (fits 6)) ∙ cells_whole cpu_length b len

pub riot_back : (b : List ℕ) → IsBytes b → length b ≡ riot_length → riot_bytes (riot_at b) ≡ b
riot_back b fits len =
    let ports = drop 128 b in
    let ports_fit = IsBytes-drop 128 b fits in
    let whole = cells_whole 10 ports (omega (arith, length-drop 128 b)) in
    let part = ap (λ (w : List ℕ). cells 5 0 ports ++ w ++ cells 3 7 ports) (two_back _ _ (ports_fit 5) (ports_fit 6)) in
    ap (λ (w : List ℕ). take 128 b ++ w) (part ∙ whole) ∙ take-append-drop 128 b

pub tia_back : (b : List ℕ) → IsBytes b → length b ≡ tia_length → bytes_of tia_numbers (tia_at b) ≡ b
tia_back b fits len =
    let last = λ (n : ℕ). n ∷ get_or b 41 0 ∷ [] in
    let third : 3 * get_or b 40 0 / 3 ≡ get_or b 40 0 = omega arith in
    ap (λ (w : List ℕ). cells 37 0 b ++ w ++ get_or b 39 0 ∷ last (3 * get_or b 40 0 / 3)) (two_back _ _ (fits 37) (fits 38))
    ∙ ap (λ (n : ℕ). cells 40 0 b ++ last n) third
    ∙ cells_whole tia_length b len

-- ---- read as they were written

pub cpu_again : (c : Registers) → c.pc < 2 ^ 16 → cpu_at (bytes_of processor_numbers c) ≡ c
cpu_again c pc = ap (λ (n : ℕ). record c { pc = n }) (from_be_bytes-to_be_bytes_2 c.pc pc)

module _ (r : RiotFields) (ram : length r.ram ≡ 128) where
  pub length-riot_bytes : length (riot_bytes r) ≡ riot_length
  length-riot_bytes = omega (arith, length-append r.ram (bytes_of riot_numbers r))

  pub riot_again : r.part < 2 ^ 16 → riot_at (riot_bytes r) ≡ r
  riot_again part =
      ap (λ (w : List ℕ). riot_with w (drop 128 (riot_bytes r))) (take_at r.ram _ 128 ram)
      ∙ ap (λ (w : List ℕ). riot_with r.ram w) (drop_at r.ram (bytes_of riot_numbers r) 128 ram)
      ∙ ap (λ (n : ℕ). record r { part = n }) (from_be_bytes-to_be_bytes_2 r.part part)

pub tia_again : (t : TiaFields) → t.collisions < 2 ^ 16 → t.clock ≡ 3 * (t.clock / 3) → tia_at (bytes_of tia_numbers t) ≡ t
tia_again t fits aligned =
    ap (λ (n : ℕ). record t { collisions = n; clock = 3 * (t.clock / 3) })
    (from_be_bytes-to_be_bytes_2 t.collisions fits)
    ∙ ap (λ (n : ℕ). record t { clock = n }) (sym aligned)
