-- Records in movies: what a version leaves out is 0.
use Rattle.std.proofs.Common.{◌≡◌, ℕ, zero, suc, ◌<◌, eqb, leb, List}
use Rattle.std.proofs.Common.{[], ◌∷◌, ◌++◌, length, take, Option, Some, None, refl, sym}
use Rattle.std.proofs.Common.{ap, ◌∙◌, arith, inl, inr}
use Rattle.std.specs.Prelude.{◌||◌, cond, option_and_then, IsTrue}
use Rattle.std.proofs.lemmas.Bool.{and_parts, leb-true}
use Rattle.std.proofs.lemmas.Option.{cond_some}
use Rattle.std.proofs.lemmas.Bool.Decides.{nat_tests}
use Rattle.std.proofs.lemmas.List.{append-nil, take_more, take_at, take_all, length-take}
use Rattle.riot_map.specs.Cart.{has_banks, is_cart_length}
use Rattle.movie_machine.specs.declared.rules.Rules.TheVariants.{Guide}
use Rattle.vcs_machine.specs.declared.fields.StateFields.{StateFields}
use Rattle.movie_file.specs.Format.{row_of, rules_by, takes_cart, record_length, state_length}
use Rattle.movie_file.specs.RecordNumbers.{bank_place}
use Rattle.movie_file.specs.Movie.{IsState, IsStateWith}
use Rattle.movie_file.specs.Record.{record_of, recorded_state, movie_record, fits_bank}
use Rattle.movie_file.specs.Record.{whole_record, guide_state_at}
use Rattle.movie_file.proofs.ByteLemmas.{IsBytes}
use Rattle.movie_file.proofs.RecordLaws.{state_takes, state_again, length-record_of, fields_again}
use Rattle.movie_file.proofs.VersionLemmas.{record_is_whole, record_length-most}

-- a cartridge without banks has bank 0
bank_of_old : (version cartridge_length bank : ℕ) → (row_of version).longest_cartridge < 8192 → IsTrue (takes_cart version None cartridge_length)
    → IsTrue (has_banks cartridge_length || eqb bank 0) → bank ≡ 0
bank_of_old version cartridge_length bank short takes fits =
    let parts = and_parts (is_cart_length cartridge_length) (leb cartridge_length (row_of version).longest_cartridge) takes in
    let most = leb-true cartridge_length (row_of version).longest_cartridge parts.1 in
    grind (arith, nat_tests)

-- ---- there and back

pub length-movie_record : (version : ℕ) → rules_by version ≡ Guide → (f : StateFields) → IsState f → length (movie_record version f) ≡ record_length version None
length-movie_record version guide f h = omega (arith, length-take (record_length version None) (record_of f), length-record_of f h, record_length-most version guide)

whole_again : (version : ℕ) → rules_by version ≡ Guide → (cartridge_length : ℕ) (f : StateFields) → IsTrue (takes_cart version None cartridge_length) → IsStateWith cartridge_length f
    → whole_record version (movie_record version f) ≡ record_of f
whole_again version guide cartridge_length f takes h =
    let len = length-record_of f h.state in
    let whole : take state_length (record_of f) ≡ record_of f = take_all state_length (record_of f) (omega (arith, len)) in
    elim (record_is_whole version guide) [
      | inl old ↦
          let none : f.bank ≡ 0 = bank_of_old version cartridge_length f.bank old.1 takes h.bank in
          let last = ap (λ (s : StateFields). s.bank) (fields_again f h.state) ∙ none in
          rw old.0 (sym (rw last at (take_more (record_of f) bank_place 0 (omega (arith, len)))) ∙ whole)
      | inr new ↦ rw new (append-nil _ ∙ whole)
    ]

pub guide_state_again : (version : ℕ) → rules_by version ≡ Guide → (cartridge_length : ℕ) (f : StateFields) → IsTrue (takes_cart version None cartridge_length) → IsStateWith cartridge_length f
    → guide_state_at version cartridge_length (movie_record version f) ≡ Some f
unfolding guide_state_at
guide_state_again version guide cartridge_length f takes h = let fits = h.bank in rw (whole_again version guide cartridge_length f takes h, state_again f h.state, fits) refl

-- a byte 0 more, and a whole record, are bytes
IsBytes-zero : (bytes : List ℕ) → IsBytes bytes → IsBytes (bytes ++ 0 ∷ [])
IsBytes-zero [] fits zero = omega arith
IsBytes-zero [] fits (suc i) = omega arith
IsBytes-zero (b ∷ bytes) fits zero = fits 0
IsBytes-zero (b ∷ bytes) fits (suc i) = IsBytes-zero bytes (λ j. fits (suc j)) i

IsBytes-whole : (version : ℕ) → rules_by version ≡ Guide → (bytes : List ℕ) → IsBytes bytes → IsBytes (whole_record version bytes)
IsBytes-whole version guide bytes fits = elim (record_is_whole version guide) [
  | inl old ↦ rw old.0 (IsBytes-zero bytes fits)
  | inr new ↦ rw (new, append-nil) fits
]

whole_back : (version : ℕ) (bytes : List ℕ) → length bytes ≡ record_length version None → take (record_length version None) (whole_record version bytes) ≡ bytes
whole_back version bytes len = take_at bytes _ (record_length version None) len

fitting : (cartridge_length : ℕ) (o : Option StateFields) (f : StateFields)
    → option_and_then (λ g. cond (fits_bank cartridge_length g) (Some g) None) o ≡ Some f → (o ≡ Some f) × IsTrue (fits_bank cartridge_length f)
fitting cartridge_length (Some g) f e =
    let c = cond_some (fits_bank cartridge_length g) g f e in
    (ap (λ (x : StateFields). Some x) c.1, rw (← c.1) c.0)
fitting cartridge_length None f e = absurd (cc)

pub guide_state_takes : (version : ℕ) → rules_by version ≡ Guide → (cartridge_length : ℕ) (bytes : List ℕ) (f : StateFields) → IsBytes bytes → length bytes ≡ record_length version None
    → guide_state_at version cartridge_length bytes ≡ Some f
    → IsStateWith cartridge_length f × (bytes ≡ movie_record version f)
unfolding guide_state_at
guide_state_takes version guide cartridge_length bytes f fits len e =
    let found = fitting cartridge_length (recorded_state (whole_record version bytes)) f e in
    let taken = state_takes (whole_record version bytes) f (IsBytes-whole version guide bytes fits) found.0 in
    (record { state = taken.0; bank = found.1 }, sym (whole_back version bytes len) ∙ ap (take (record_length version None)) taken.1)
