-- Words that are one edit apart, from their first letters on.
use Rattle.std.proofs.Common.{◌≡◌, ◌↔◌, ◌⊎◌, ◌∙◌, ℕ, List, [], ◌∷◌, ◌++◌, inl, inr, sym, ap, refl}
use Rattle.std.proofs.Common.{arith, length, ◌-◌, ◌≤◌, take, drop, get_or, slice_index}
use Rattle.std.specs.Char.{to_ascii_lowercase}
use Rattle.input_text.specs.Mistakes.{HasOneMore, IsChanged, IsExchanged, IsNear, small}
use Rattle.input_text.proofs.LineLemmas.{rest_from}
use Rattle.input_text.specs.Private.Ends.{BeginAlike, HasOneMoreFirst, IsChangedFirst, IsExchangedFirst, IsNearFirst}

head : (x y : ℕ) (a b : List ℕ) → x ∷ a ≡ y ∷ b → x ≡ y
head x y a b e = ap (λ (l : List ℕ). get_or l 0 0) e

tail : (x y : ℕ) (a b : List ℕ) → x ∷ a ≡ y ∷ b → a ≡ b
tail x y a b e = ap (λ (l : List ℕ). drop 1 l) e

module _ (h : ℕ) where
  on_more : (a b : List ℕ) → HasOneMore a b → HasOneMore (h ∷ a) (h ∷ b)
  on_more a b (first, last, x, is, has) = (h ∷ first, last, x, ap (λ (l : List ℕ). h ∷ l) is, ap (λ (l : List ℕ). h ∷ l) has)

  pub on_near : (a b : List ℕ) → IsNear a b → IsNear (h ∷ a) (h ∷ b)
  on_near a b (inl same) = inl (ap (λ (l : List ℕ). h ∷ l) same)
  on_near a b (inr (inl more)) = inr (inl (on_more a b more))
  on_near a b (inr (inr (inl less))) = inr (inr (inl (on_more b a less)))
  on_near a b (inr (inr (inr (inl (first, last, x, y, is, has))))) =
      inr (inr (inr (inl (h ∷ first, last, x, y, ap (λ (l : List ℕ). h ∷ l) is, ap (λ (l : List ℕ). h ∷ l) has))))
  on_near a b (inr (inr (inr (inr (first, last, x, y, is, has))))) =
      inr (inr (inr (inr (h ∷ first, last, x, y, ap (λ (l : List ℕ). h ∷ l) is, ap (λ (l : List ℕ). h ∷ l) has))))

  off_more : (a b first last : List ℕ) (x : ℕ) → h ∷ a ≡ first ++ last → h ∷ b ≡ first ++ x ∷ last → HasOneMore a b
  off_more a b [] last x is has = ([], a, h, refl, tail h x b last has ∙ sym is)
  off_more a b (z ∷ first) last x is has = (first, last, x, tail h z a (first ++ last) is, tail h z b (first ++ x ∷ last) has)

  off_changed : (a b first last : List ℕ) (x y : ℕ) → h ∷ a ≡ first ++ x ∷ last → h ∷ b ≡ first ++ y ∷ last → (a ≡ b) ⊎ IsChanged a b
  off_changed a b [] last x y is has = inl (tail h x a last is ∙ sym (tail h y b last has))
  off_changed a b (z ∷ first) last x y is has = inr (first, last, x, y, tail h z a (first ++ x ∷ last) is, tail h z b (first ++ y ∷ last) has)

  off_exchanged : (a b first last : List ℕ) (x y : ℕ) → h ∷ a ≡ first ++ x ∷ y ∷ last → h ∷ b ≡ first ++ y ∷ x ∷ last → (a ≡ b) ⊎ IsExchanged a b
  off_exchanged a b [] last x y is has =
      let same : y ≡ x = sym (head h y b (x ∷ last) has) ∙ head h x a (y ∷ last) is in
      inl (tail h x a (y ∷ last) is ∙ ap (λ (n : ℕ). n ∷ last) same ∙ sym (tail h y b (x ∷ last) has))
  off_exchanged a b (z ∷ first) last x y is has =
      inr (first, last, x, y, tail h z a (first ++ x ∷ y ∷ last) is, tail h z b (first ++ y ∷ x ∷ last) has)

  changed : (a b : List ℕ) → (a ≡ b) ⊎ IsChanged a b → IsNear a b
  changed a b (inl same) = inl same
  changed a b (inr is) = inr (inr (inr (inl is)))

  exchanged : (a b : List ℕ) → (a ≡ b) ⊎ IsExchanged a b → IsNear a b
  exchanged a b (inl same) = inl same
  exchanged a b (inr is) = inr (inr (inr (inr is)))

  pub off_near : (a b : List ℕ) → IsNear (h ∷ a) (h ∷ b) → IsNear a b
  off_near a b (inl same) = inl (tail h h a b same)
  off_near a b (inr (inl (first, last, x, is, has))) = inr (inl (off_more a b first last x is has))
  off_near a b (inr (inr (inl (first, last, x, is, has)))) = inr (inr (inl (off_more b a first last x is has)))
  off_near a b (inr (inr (inr (inl (first, last, x, y, is, has))))) = changed a b (off_changed a b first last x y is has)
  off_near a b (inr (inr (inr (inr (first, last, x, y, is, has))))) = exchanged a b (off_exchanged a b first last x y is has)

-- Words that don't begin with one letter.
abbrev pub IsApart : List ℕ → List ℕ → Type 0
IsApart a b = BeginAlike a b → ⊥

module _ (a b : List ℕ) where
  pub from_first : IsNearFirst a b → IsNear a b
  from_first (inl none) = inl (none.0 ∙ sym none.1)
  from_first (inr (inl (x, has))) = inr (inl ([], a, x, refl, has))
  from_first (inr (inr (inl (x, has)))) = inr (inr (inl ([], b, x, refl, has)))
  from_first (inr (inr (inr (inl (last, x, y, is, has))))) = inr (inr (inr (inl ([], last, x, y, is, has))))
  from_first (inr (inr (inr (inr (last, x, y, is, has))))) = inr (inr (inr (inr ([], last, x, y, is, has))))

same_first : (a b : List ℕ) → IsApart a b → a ≡ b → (a ≡ []) × (b ≡ [])
same_first [] b apart same = (refl, sym same)
same_first (x ∷ a) b apart same = absurd (apart (x, a, a, refl, sym same))

more_first : (a b first last : List ℕ) (x : ℕ) → IsApart a b → a ≡ first ++ last → b ≡ first ++ x ∷ last → HasOneMoreFirst a b
more_first a b [] last x apart is has = (x, has ∙ ap (λ (l : List ℕ). x ∷ l) (sym is))
more_first a b (z ∷ first) last x apart is has = absurd (apart (z, first ++ last, first ++ x ∷ last, is, has))

changed_first : (a b first last : List ℕ) (x y : ℕ) → IsApart a b → a ≡ first ++ x ∷ last → b ≡ first ++ y ∷ last → IsChangedFirst a b
changed_first a b [] last x y apart is has = (last, x, y, is, has)
changed_first a b (z ∷ first) last x y apart is has = absurd (apart (z, first ++ x ∷ last, first ++ y ∷ last, is, has))

exchanged_first : (a b first last : List ℕ) (x y : ℕ) → IsApart a b → a ≡ first ++ x ∷ y ∷ last → b ≡ first ++ y ∷ x ∷ last → IsExchangedFirst a b
exchanged_first a b [] last x y apart is has = (last, x, y, is, has)
exchanged_first a b (z ∷ first) last x y apart is has = absurd (apart (z, first ++ x ∷ y ∷ last, first ++ y ∷ x ∷ last, is, has))

pub to_first : (a b : List ℕ) → IsApart a b → IsNear a b → IsNearFirst a b
to_first a b apart (inl same) = inl (same_first a b apart same)
to_first a b apart (inr (inl (first, last, x, is, has))) = inr (inl (more_first a b first last x apart is has))
to_first a b apart (inr (inr (inl (first, last, x, is, has)))) =
    inr (inr (inl (more_first b a first last x (λ (h, c, d, e, f). apart (h, d, c, f, e)) is has)))
to_first a b apart (inr (inr (inr (inl (first, last, x, y, is, has))))) = inr (inr (inr (inl (changed_first a b first last x y apart is has))))
to_first a b apart (inr (inr (inr (inr (first, last, x, y, is, has))))) = inr (inr (inr (inr (exchanged_first a b first last x y apart is has))))

-- What is near to a word is what is near at the first letters, where those differ.
pub near_first : (a b : List ℕ) → IsApart a b → IsNearFirst a b ↔ IsNear a b
near_first a b apart = (from_first a b, to_first a b apart)

-- ---- words in small letters

after_first : (xs : List ℕ) → take (length xs - 1) (drop 1 xs) ≡ drop 1 xs
after_first xs = rest_from xs 1

pub small_first : (b : List ℕ) → 1 ≤ length b → small b ≡ to_ascii_lowercase (slice_index b 0) ∷ small (take (length b - 1) (drop 1 b))
small_first [] some = absurd (omega arith)
small_first (x ∷ b) some = ap (λ (l : List ℕ). to_ascii_lowercase x ∷ small l) (sym (after_first (x ∷ b)))

pub small_second : (b : List ℕ) → 2 ≤ length b
    → small b ≡ to_ascii_lowercase (slice_index b 0) ∷ to_ascii_lowercase (slice_index b 1) ∷ small (take (length b - 2) (drop 2 b))
small_second [] some = absurd (omega arith)
small_second (x ∷ []) some = absurd (omega arith)
small_second (x ∷ y ∷ b) some =
    ap (λ (l : List ℕ). to_ascii_lowercase x ∷ to_ascii_lowercase y ∷ small l) (sym (rest_from (x ∷ y ∷ b) 2))

pub one_more : (a b : List ℕ) → 1 ≤ length b → (small a ≡ small (take (length b - 1) (drop 1 b))) ↔ HasOneMoreFirst (small a) (small b)
one_more a b some = (to, from)
  where
    to : small a ≡ small (take (length b - 1) (drop 1 b)) → HasOneMoreFirst (small a) (small b)
    to e = (
      to_ascii_lowercase (slice_index b 0),
      small_first b some ∙ ap (λ (l : List ℕ). to_ascii_lowercase (slice_index b 0) ∷ l) (sym e),
    )

    from : HasOneMoreFirst (small a) (small b) → small a ≡ small (take (length b - 1) (drop 1 b))
    from (x, has) = sym (tail _ x _ (small a) (sym (small_first b some) ∙ has))

pub one_changed : (a b : List ℕ) → 1 ≤ length a → HasOneMoreFirst (small (take (length a - 1) (drop 1 a))) (small b) ↔ IsChangedFirst (small a) (small b)
one_changed a b some = (to, from)
  where
    to : HasOneMoreFirst (small (take (length a - 1) (drop 1 a))) (small b) → IsChangedFirst (small a) (small b)
    to (y, has) = (small (take (length a - 1) (drop 1 a)), to_ascii_lowercase (slice_index a 0), y, small_first a some, has)

    from : IsChangedFirst (small a) (small b) → HasOneMoreFirst (small (take (length a - 1) (drop 1 a))) (small b)
    from (last, x, y, is, has) = (y, has ∙ ap (λ (l : List ℕ). y ∷ l) (sym (tail _ x _ last (sym (small_first a some) ∙ is))))

abbrev pub small_at : List ℕ → ℕ → ℕ
small_at a k = to_ascii_lowercase (slice_index a k)

pub one_exchanged : (a b : List ℕ) → 2 ≤ length a → 2 ≤ length b
    → ((small_at a 0 ≡ small_at b 1) × (small_at a 1 ≡ small_at b 0) × (small (take (length a - 2) (drop 2 a)) ≡ small (take (length b - 2) (drop 2 b))))
    ↔ IsExchangedFirst (small a) (small b)
one_exchanged a b some other = (to, from)
  where
    more : List ℕ → List ℕ
    more l = small (take (length l - 2) (drop 2 l))

    to : (small_at a 0 ≡ small_at b 1) × (small_at a 1 ≡ small_at b 0) × (more a ≡ more b) → IsExchangedFirst (small a) (small b)
    to (first, second, same) = (
      more b,
      small_at a 0,
      small_at a 1,
      small_second a some ∙ ap (λ (l : List ℕ). small_at a 0 ∷ small_at a 1 ∷ l) same,
      small_second b other ∙ rw (first, second) refl,
    )

    from : IsExchangedFirst (small a) (small b) → (small_at a 0 ≡ small_at b 1) × (small_at a 1 ≡ small_at b 0) × (more a ≡ more b)
    from (last, x, y, is, has) =
        let one : small_at a 0 ∷ small_at a 1 ∷ more a ≡ x ∷ y ∷ last = sym (small_second a some) ∙ is in
        let two : small_at b 0 ∷ small_at b 1 ∷ more b ≡ y ∷ x ∷ last = sym (small_second b other) ∙ has in
        let one_after = tail _ x _ _ one in
        let two_after = tail _ y _ _ two in (
          head _ x _ _ one ∙ sym (head _ x _ _ two_after),
          head _ y _ _ one_after ∙ sym (head _ y _ _ two),
          tail _ y _ _ one_after ∙ sym (tail _ x _ _ two_after),
        )

-- Words that begin with one letter.
pub alike_at : (a b : List ℕ) → 1 ≤ length a → 1 ≤ length b → (small_at a 0 ≡ small_at b 0) ↔ BeginAlike (small a) (small b)
alike_at [] b some other = absurd (omega arith)
alike_at (x ∷ a) [] some other = absurd (omega arith)
alike_at (x ∷ a) (y ∷ b) some other =
    (λ same. (small_at (x ∷ a) 0, small a, small b, refl, rw same refl), λ (h, c, d, one, two). head _ h _ c one ∙ sym (head _ h _ d two))

pub near_on : (a b : List ℕ) → BeginAlike (small a) (small b) → IsNear (small (drop 1 a)) (small (drop 1 b)) ↔ IsNear (small a) (small b)
near_on [] b (h, c, d, one, two) = cc
near_on (x ∷ a) [] (h, c, d, one, two) = cc
near_on (x ∷ a) (y ∷ b) (h, c, d, one, two) =
    let same : to_ascii_lowercase x ≡ to_ascii_lowercase y = head _ h _ c one ∙ sym (head _ h _ d two) in
    rw same (on_near (to_ascii_lowercase y) (small a) (small b), off_near (to_ascii_lowercase y) (small a) (small b))
