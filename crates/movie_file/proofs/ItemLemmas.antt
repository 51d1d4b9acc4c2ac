-- Reading items one after the other: as a loop does, and what is spelled by those that are read.
use Rattle.std.proofs.Common.{◌≡◌, ℕ, zero, suc, ◌-◌, ◌+◌, ◌*◌, ◌≤◌, ◌<◌, List, [], ◌∷◌, ◌++◌, length, take, drop, Result}
use Rattle.std.proofs.Common.{Ok, Err, refl, sym, ap, ◌∙◌, append_assoc, arith}
use Rattle.std.specs.List.{flat_map}
use Rattle.std.proofs.lemmas.List.{append-nil, drop_at, length-drop, take-append-drop}
use Rattle.std.proofs.lemmas.List.Concat.{flat_map-cons}
use Rattle.movie_file.specs.declared.error.MovieError.{MovieError}
use Rattle.movie_file.specs.MovieError.{GivesUnlessRefused}
use Rattle.movie_file.specs.Reading.{◌>>=◌}
use Rattle.movie_file.proofs.ByteLemmas.{IsBytes, IsBytes-drop}
use Rattle.movie_file.proofs.ReadLemmas.{bind_ok, ok_is, Takes}
use Rattle.refused.specs.declared.Refused.{Refused}
use Rattle.refused.specs.declared.Refused.TheVariants.{NoMemory, Of}

-- what was read before, and what is still read
abbrev pub with_prefix : {A : Type 0} → List A → Result (List A × List ℕ) MovieError → Result (List A × List ℕ) MovieError
with_prefix prefix read = read >>= λ x. Ok (prefix ++ x.0, x.1)

regroup : {A : Type 0} (prefix : List A) (n : A) (read : Result (List A × List ℕ) MovieError)
    → with_prefix prefix (read >>= λ x. Ok (n ∷ x.0, x.1)) ≡ with_prefix (prefix ++ n ∷ []) read
regroup prefix n (Ok x) = ap (λ (ns : List _). Ok (ns, x.1)) (simp append_assoc)
regroup prefix n (Err f) = refl

-- Items of so many bytes each are read one after the other. `next` says how an item is read after one.
pub record ReadsItems {A S : Type 0} (item : S → List ℕ → Result A MovieError) (next : S → A → S) (size : ℕ)
    (items : ℕ → S → List ℕ → Result (List A × List ℕ) MovieError) : Type 0 where
  pub none : (s : S) (bytes : List ℕ) → items 0 s bytes ≡ Ok ([], bytes)
  pub more : (n : ℕ) (s : S) (bytes : List ℕ)
      → items (suc n) s bytes ≡ (item s bytes >>= λ a. items n (next s a) (drop size bytes) >>= λ x. Ok (a ∷ x.0, x.1))

-- what was read is spelled by the bytes before the rest
pub record ItemsRead {A : Type 0} (text : A → List ℕ) (Are : List A → Type 0) (size n : ℕ) (bytes : List ℕ) (x : List A × List ℕ) : Type 0 where
  pub takes : Takes bytes (flat_map text x.0) x.1
  pub count : length x.0 ≡ n
  pub each : Are x.0
  pub left : length x.1 + size * n ≡ length bytes

module _ {A S : Type 0} {item : S → List ℕ → Result A MovieError} {next : S → A → S} {size : ℕ}
    {items : ℕ → S → List ℕ → Result (List A × List ℕ) MovieError} (reads : ReadsItems item next size items) where
  -- an item goes from what is read to what was read
  pub go_on : (prefix : List A) (count i : ℕ) (s : S) (bytes : List ℕ) (a : A) → i < count → item s bytes ≡ Ok a
      → with_prefix prefix (items (count - i) s bytes) ≡ with_prefix (prefix ++ a ∷ []) (items (count - (i + 1)) (next s a) (drop size bytes))
  go_on prefix count i s bytes a lt is =
      let k : count - i ≡ suc (count - (i + 1)) = omega arith in
      rw (k, reads.more, is) (regroup prefix a (items (count - (i + 1)) (next s a) (drop size bytes)))

  -- an item that is refused ends it
  pub ends : (e : MovieError) (prefix : List A) (count i : ℕ) (s : S) (bytes : List ℕ) → i < count → item s bytes ≡ Err e
      → with_prefix prefix (items (count - i) s bytes) ≡ Err e
  ends e prefix count i s bytes lt fails = let k : count - i ≡ suc (count - (i + 1)) = omega arith in rw (k, reads.more, fails) refl

  -- and so does one for which memory was refused
  pub stops : (e : Refused MovieError) (prefix : List A) (count i : ℕ) (s : S) (bytes : List ℕ) → i < count
      → GivesUnlessRefused {X = A} (λ a. a) (Err e) (item s bytes)
      → GivesUnlessRefused {X = List A × List ℕ} (λ x. x) (Err e) (with_prefix prefix (items (count - i) s bytes))
  stops (Of e) prefix count i s bytes lt fails = ends e prefix count i s bytes lt fails
  stops NoMemory prefix count i s bytes lt fails = tt

  -- and none are left at its end
  pub done : (prefix : List A) (count i : ℕ) (s : S) (bytes : List ℕ) → count ≤ i → with_prefix prefix (items (count - i) s bytes) ≡ Ok (prefix, bytes)
  done prefix count i s bytes le = let k : count - i ≡ 0 = omega arith in rw (k, reads.none, append-nil) refl

  module _ (text : A → List ℕ) (Are : S → List A → Type 0) where
    -- items that are read are lawful, and spelled so, if each is
    pub items_take : ((s : S) → Are s [])
        → ((s : S) (bytes : List ℕ) (a : A) → size ≤ length bytes → IsBytes bytes → item s bytes ≡ Ok a
        → (text a ≡ take size bytes) × ((others : List A) → Are (next s a) others → Are s (a ∷ others)))
        → (n : ℕ) (s : S) (bytes : List ℕ) (x : List A × List ℕ) → size * n ≤ length bytes → IsBytes bytes → items n s bytes ≡ Ok x
        → ItemsRead text (Are s) size n bytes x
    items_take empty first zero s bytes x long fits e =
        let is = ok_is ([], bytes) x (sym (reads.none s bytes) ∙ e) in
        rw (← is) (record { takes = record { parts = refl; rest_fits = fits }; count = refl; each = empty s; left = omega arith })
    items_take empty first (suc n) s bytes x long fits e =
        let a = bind_ok (item s bytes) _ x (sym (reads.more n s bytes) ∙ e) in
        let b = bind_ok (items n (next s a.0) (drop size bytes)) _ x a.2 in
        let here = first s bytes a.0 (omega arith) fits a.1 in
        let later = items_take empty first n (next s a.0) (drop size bytes) b.0 (omega (arith, length-drop size bytes)) (IsBytes-drop size bytes fits) b.1 in
        let parts : bytes ≡ text a.0 ++ (flat_map text b.0.0 ++ b.0.1) = rw (here.0, ← later.takes.parts) (sym (take-append-drop size bytes)) in
        rw (← ok_is (a.0 ∷ b.0.0, b.0.1) x b.2) (record {
          takes = record { parts = rw (flat_map-cons, append_assoc) parts; rest_fits = later.takes.rest_fits };
          count = ap suc later.count;
          each = here.1 b.0.0 later.each;
          left = omega (arith, later.left, length-drop size bytes);
        })

    -- what lawful items spell is read
    pub items_again : ((s : S) (a : A) (others : List A) (rest : List ℕ) → Are s (a ∷ others)
        → (item s (text a ++ rest) ≡ Ok a) × (length (text a) ≡ size) × Are (next s a) others)
        → (s : S) (others : List A) (rest : List ℕ) → Are s others → items (length others) s (flat_map text others ++ rest) ≡ Ok (others, rest)
    items_again again s [] rest each = reads.none s rest
    items_again again s (a ∷ others) rest each =
        let after = flat_map text others ++ rest in
        let here = again s a others after each in
        let left = drop_at (text a) after size here.1 in
        rw (flat_map-cons, append_assoc, reads.more, here.0, left, items_again again (next s a) others rest here.2) refl
