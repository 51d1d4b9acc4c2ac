-- The inputs that are read are spelled so, and what is spelled so is read.
use Rattle.std.proofs.Common.{◌≡◌, ℕ, ◌+◌, ◌*◌, ◌≤◌, List, [], ◌∷◌, ◌++◌}
use Rattle.std.proofs.Common.{length, take, Ok, refl, ap, ◌∙◌, arith, add-one}
use Rattle.std.specs.Prelude.{IsTrue}
use Rattle.std.specs.List.{flat_map, AllByRecursion}
use Rattle.std.proofs.lemmas.List.Concat.{flat_map-cons}
use Rattle.vcs_machine.specs.Inputs.{InputData, is_input, input_bytes}
use Rattle.movie_file.specs.Format.{input_length}
use Rattle.movie_file.specs.declared.error.MovieError.TheVariants.{BadInput}
use Rattle.movie_file.specs.Reading.{input_data_at, input_at, inputs_at}
use Rattle.movie_file.proofs.ByteLemmas.{IsBytes, cells_is}
use Rattle.movie_file.proofs.ReadLemmas.{guard_then, ok_is}
use Rattle.movie_file.proofs.ItemLemmas.{ReadsItems, ItemsRead, items_take, items_again}

abbrev pub AreInputs : List InputData → Type 0
AreInputs xs = AllByRecursion (λ i. IsTrue (is_input i)) xs

-- the number of an input's successor
abbrev pub next_input : ℕ → InputData → ℕ
next_input k i = k + 1

pub reads_inputs : ReadsItems input_at next_input input_length inputs_at
unfolding inputs_at
reads_inputs = record { none = λ k bytes. refl; more = λ n k bytes. rw add-one refl }

input_takes : (k : ℕ) (bytes : List ℕ) (i : InputData) → input_length ≤ length bytes → IsBytes bytes → input_at k bytes ≡ Ok i
    → (input_bytes i ≡ take input_length bytes) × ((is : List InputData) → AreInputs is → AreInputs (i ∷ is))
unfolding input_at
input_takes k bytes i long fits e =
    let g = guard_then (is_input (input_data_at bytes)) (BadInput k) (Ok (input_data_at bytes)) i e in
    rw (← ok_is (input_data_at bytes) i g.1) (cells_is 3 0 bytes long, λ is all. (g.0, all))

pub inputs_take : (n k : ℕ) (bytes : List ℕ) (x : List InputData × List ℕ) → input_length * n ≤ length bytes → IsBytes bytes
    → inputs_at n k bytes ≡ Ok x → ItemsRead input_bytes AreInputs input_length n bytes x
inputs_take = items_take reads_inputs input_bytes (λ k. AreInputs) (λ k. tt) input_takes

pub inputs_again : (k : ℕ) (xs : List InputData) (rest : List ℕ) → AreInputs xs → inputs_at (length xs) k (flat_map input_bytes xs ++ rest) ≡ Ok (xs, rest)
unfolding input_at
inputs_again =
    items_again reads_inputs input_bytes (λ k. AreInputs)
    (λ k i is rest all. let lawful = all.0 in (rw lawful refl, refl, all.1))

pub length-inputs : (xs : List InputData) → length (flat_map input_bytes xs) ≡ input_length * length xs
length-inputs [] = refl
length-inputs (i ∷ xs) = ap length (flat_map-cons input_bytes i xs) ∙ omega (arith, length-inputs xs)
