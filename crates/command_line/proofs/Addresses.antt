-- Words that write addresses.
use Rattle.std.proofs.Common.{◌≡◌, ◌≢◌, ◌∙◌, ℕ, ◌<◌, Bool, true, false, if◌then◌else◌, arith, List, [], ◌∷◌, Option, Some, None, Ok, length, map, option_map, unwrap_or, get_or, sym, ap, refl}
use Rattle.std.specs.Prelude.{MatchOption, find, nat_eq, slice_get}
use Rattle.std.proofs.lemmas.Bool.Decides.{nat_tests}
use Rattle.std.specs.Borrow.{Bor}
use Rattle.std.proofs.lemmas.Option.{slice_get-get_or, slice_get-map}
use Rattle.clap.specs.Words.{Text, all_of, found_of, matched_of, raw_values, rows_of}
use Rattle.clap.specs.declared.ArgMatches.{ArgMatches}
use Rattle.clap.proofs.WalkLemmas.{raw_values-rows}
use Rattle.replay_plan.specs.declared.watches.Address.{Address}
use Rattle.command_line.specs.Meanings.{AreAddresses, byte_in, without_dollar}

-- a word that writes none
no_address : (words : List Text) (addresses : List Address) (i : ℕ) (word : Text) → slice_get words i ≡ Some word
    → ((a : Address) → byte_in word ≡ Ok (a.number ∷ []) → ⊥) → AreAddresses words addresses → ⊥
no_address words addresses i word at none are = go (slice_get addresses i) refl
  where
    there : Some (byte_in word) ≡ option_map (λ (a : Address). Ok (a.number ∷ [])) (slice_get addresses i)
    there =
        ap (option_map byte_in) (sym at) ∙ sym (slice_get-map byte_in words i)
        ∙ ap (λ xs. slice_get xs i) are ∙ slice_get-map (λ (a : Address). Ok (a.number ∷ [])) addresses i

    go : (o : Option Address) → slice_get addresses i ≡ o → ⊥
    go None e =
        let bad : Some (byte_in word) ≡ option_map (λ (a : Address). Ok (a.number ∷ [])) None =
        there ∙ ap (option_map (λ (a : Address). Ok (a.number ∷ []))) e in
        cc
    go (Some a) e =
        let same : Some (byte_in word) ≡ Some (Ok (a.number ∷ [])) = there ∙ ap (option_map (λ (a : Address). Ok (a.number ∷ []))) e in
        none a (ap (λ o. unwrap_or o (Ok [])) same)

-- the words that `clap` found
words_read : (m : ArgMatches) (id : Text) (r : Option (Bor (List (Bor Text))))
    → option_map (λ s. map (λ v. v.now) s.now) r ≡ option_map raw_values (matched_of (found_of m) id)
    → unwrap_or (all_of id (rows_of (found_of m))) [] ≡ unwrap_or (option_map (λ s. map (λ v. v.now) s.now) r) []
words_read m id r is = ap (λ o. unwrap_or o []) (sym (is ∙ raw_values-rows (found_of m) id))

-- The same of a word of a slice.
pub no_address_at : (words : List (Bor Text)) (i : ℕ) (d : Bor Text) → i < length words
    → ((a : Address) → byte_in (get_or words i d).now ≡ Ok (a.number ∷ []) → ⊥)
    → (addresses : List Address) → AreAddresses (map (λ word. word.now) words) addresses → ⊥
no_address_at words i d less none addresses are =
    no_address (map (λ word. word.now) words) addresses i (get_or words i d).now
    (slice_get-map (λ (word : Bor Text). word.now) words i ∙ ap (option_map (λ (word : Bor Text). word.now)) (slice_get-get_or words i d less)) none are

-- a word without its dollar sign, by what `strip_prefix` and `unwrap_or` give
pub undollared : (word : Bor Text) (r : Option (Bor Text)) → MatchOption r ((rest : List ℕ) → word.now ≢ 36 ∷ rest) (λ x. word.now ≡ 36 ∷ x.now)
    → (unwrap_or r word).now ≡ without_dollar word.now
undollared word (Some x) is = rw is refl
undollared word None none = go word.now none
  where
    go : (text : Text) → ((rest : List ℕ) → text ≢ 36 ∷ rest) → text ≡ without_dollar text
    go [] none = refl
    go (first ∷ rest) none = other (nat_eq first 36) refl
      where
        other : (b : Bool) → nat_eq first 36 ≡ b → first ∷ rest ≡ if b then rest else first ∷ rest
        other true e = let same : first ≡ 36 = grind (arith, nat_tests) in absurd (none rest (ap (λ (c : ℕ). c ∷ rest) same))
        other false e = refl

-- what is found among texts is found among the words that are they
pub find_text : (p : Text → Bool) (words : List (Bor Text)) → option_map (λ word. word.now) (find (λ word. p word.now) words)
    ≡ find p (map (λ word. word.now) words)
find_text p [] = refl
find_text p (word ∷ more) = elim (p word.now) as (λ b. option_map (λ word. word.now) (if b then Some word else find (λ word. p word.now) more)
    ≡ if b then Some word.now else find p (map (λ word. word.now) more)) [
      | true ↦ refl
      | false ↦ find_text p more
    ]

-- the words that `clap` found, or none
pub words_or : (m : ArgMatches) (id : Text) (r : Option (Bor (List (Bor Text)))) (given other : Bor (List (Bor Text)))
    → option_map (λ s. map (λ v. v.now) s.now) r ≡ option_map raw_values (matched_of (found_of m) id) → given ≡ unwrap_or r other → other.now ≡ []
    → unwrap_or (all_of id (rows_of (found_of m))) [] ≡ map (λ v. v.now) given.now
words_or m id r given other is given_is none = words_read m id r is ∙ go r ∙ ap (λ (s : Bor (List (Bor Text))). map (λ v. v.now) s.now) (sym given_is)
  where
    go : (r : Option (Bor (List (Bor Text)))) → unwrap_or (option_map (λ s. map (λ v. v.now) s.now) r) [] ≡ map (λ v. v.now) (unwrap_or r other).now
    go None = rw none refl
    go (Some s) = refl
