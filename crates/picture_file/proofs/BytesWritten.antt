-- What is written, over several writes.
use Rattle.std.proofs.Common.{◌≡◌, ℕ, suc, subst, get_or, drop-cons, ◌+◌, ◌<◌, List, [], ◌++◌}
use Rattle.std.proofs.Common.{length, take, drop, Option, Some, None, refl, sym, ap, ◌∙◌}
use Rattle.std.proofs.Common.{append_assoc}
use Rattle.std.proofs.lemmas.List.{append-nil, take-append-drop, flat_map_more, take_more}
use Rattle.std.proofs.Math.Seq.{take-add}
use Rattle.std.proofs.lemmas.List.Concat.{flat_map-append, flat_map-cons}
use Rattle.std.specs.List.{flat_map}
use Rattle.std.specs.Io.KnownBytes.{Appends, Keeps}
use Rattle.picture_file.specs.Prefixes.{AppendsPrefix}

pub appends_nothing : (a : Option (List ℕ)) → Appends a a []
appends_nothing None = tt
appends_nothing (Some xs) = sym (append-nil xs)

pub appends_kept : (a b c : Option (List ℕ)) (p : List ℕ) → Appends a b p → Keeps b c → Appends a c p
appends_kept None b c p h k = tt
appends_kept (Some xs) None c p h k = absurd h
appends_kept (Some xs) (Some ys) None p h k = absurd k
appends_kept (Some xs) (Some ys) (Some zs) p h k = k ∙ h

pub appends_then : (a b c : Option (List ℕ)) (p q : List ℕ) → Appends a b p → Appends b c q → Appends a c (p ++ q)
appends_then None b c p q h k = tt
appends_then (Some xs) None c p q h k = absurd h
appends_then (Some xs) (Some ys) None p q h k = absurd k
appends_then (Some xs) (Some ys) (Some zs) p q h k = k ∙ ap (λ (w : List ℕ). w ++ q) h ∙ append_assoc xs p q

-- what a write took goes to the bytes before it
pub appends_more : (a b c : Option (List ℕ)) (i n : ℕ) (bytes rest : List ℕ) → rest ≡ drop i bytes → Appends a b (take i bytes)
    → Appends b c (take n rest) → Appends a c (take (i + n) bytes)
appends_more a b c i n bytes rest e h k =
    subst (λ (w : List ℕ). Appends a c w) (sym (take-add i n bytes))
    (appends_then a b c (take i bytes) (take n (drop i bytes)) h (subst (λ (w : List ℕ). Appends b c (take n w)) e k))

pub keeps_same : (a : Option (List ℕ)) → Keeps a a
keeps_same None = tt
keeps_same (Some xs) = refl

-- ---- prefixs

pub prefix_all : (a b : Option (List ℕ)) (p : List ℕ) → Appends a b p → AppendsPrefix a b p
prefix_all a b p h = record { prefix = p; rest = []; whole = sym (append-nil p); written = h }

pub prefix_longer : (a b : Option (List ℕ)) (p q : List ℕ) → AppendsPrefix a b p → AppendsPrefix a b (p ++ q)
prefix_longer a b p q h =
    record { prefix = h.prefix; rest = h.rest ++ q; whole = ap (λ (w : List ℕ). w ++ q) h.whole ∙ append_assoc h.prefix h.rest q; written = h.written }

pub prefix_after : (a b c : Option (List ℕ)) (p q : List ℕ) → Appends a b p → AppendsPrefix b c q → AppendsPrefix a c (p ++ q)
prefix_after a b c p q h k =
    record {
      prefix = p ++ k.prefix;
      rest = k.rest;
      whole = ap (λ (w : List ℕ). p ++ w) k.whole
          ∙ sym (append_assoc p k.prefix k.rest);
      written = appends_then a b c p k.prefix h k.written;
    }

-- the pieces of a list, up to one and from the next
pieces_at : {X : Type 0} (f : X → List ℕ) (xs : List X) (i : ℕ) (d : X) → i < length xs
    → flat_map f xs ≡ flat_map f (take i xs) ++ (f (get_or xs i d) ++ flat_map f (drop (suc i) xs))
pieces_at f xs i d lt =
    ap (flat_map f) (sym (take-append-drop i xs)) ∙ flat_map-append f (take i xs) (drop i xs)
    ∙ ap (λ (w : List _). flat_map f (take i xs) ++ flat_map f w) (drop-cons xs i d lt)
    ∙ ap (λ (w : List ℕ). flat_map f (take i xs) ++ w) (flat_map-cons f (get_or xs i d) (drop (suc i) xs))

-- a prefix of one piece, after a head and the pieces before it
pub prefix_behind : {X : Type 0} (f : X → List ℕ) (h : List ℕ) (xs : List X) (i : ℕ) (d : X) (a b c : Option (List ℕ)) → i < length xs
    → Appends a b (h ++ flat_map f (take i xs)) → AppendsPrefix b c (f (get_or xs i d)) → AppendsPrefix a c (h ++ flat_map f xs)
prefix_behind f h xs i d a b c lt before k =
    let piece = f (get_or xs i d) in
    let rest = flat_map f (drop (suc i) xs) in
    let whole : h ++ flat_map f xs ≡ (h ++ flat_map f (take i xs)) ++ (piece ++ rest) =
    ap (λ (w : List ℕ). h ++ w) (pieces_at f xs i d lt) ∙ sym (append_assoc h (flat_map f (take i xs)) (piece ++ rest)) in
    subst (AppendsPrefix a c) (sym whole) (prefix_after a b c (h ++ flat_map f (take i xs)) (piece ++ rest) before (prefix_longer b c piece rest k))

pub prefix_in : {X : Type 0} (f : X → List ℕ) (xs : List X) (i : ℕ) (d : X) (a b c : Option (List ℕ)) → i < length xs
    → Appends a b (flat_map f (take i xs)) → AppendsPrefix b c (f (get_or xs i d)) → AppendsPrefix a c (flat_map f xs)
prefix_in f xs i d a b c lt before k = prefix_behind f [] xs i d a b c lt before k

pub appends_behind : {X : Type 0} (f : X → List ℕ) (h : List ℕ) (xs : List X) (i : ℕ) (d : X) (a b c : Option (List ℕ)) → i < length xs
    → Appends a b (h ++ flat_map f (take i xs)) → Appends b c (f (get_or xs i d)) → Appends a c (h ++ flat_map f (take (i + 1) xs))
appends_behind f h xs i d a b c lt before k =
    let piece = f (get_or xs i d) in
    let whole : (h ++ flat_map f (take i xs)) ++ piece ≡ h ++ flat_map f (take (i + 1) xs) =
    flat_map_more f h (take i xs) (get_or xs i d) ∙ ap (λ (w : List _). h ++ flat_map f w) (sym (take_more xs i d lt)) in
    subst (Appends a c) whole (appends_then a b c (h ++ flat_map f (take i xs)) piece before k)
