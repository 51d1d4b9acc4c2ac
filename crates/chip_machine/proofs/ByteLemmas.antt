-- Lists cell by cell, bytes, and numbers of two bytes.
use Rattle.std.proofs.Common.{◌≡◌, ℕ, zero, suc, ◌+◌, ◌<◌, ◌≤◌, Bool, true, false, cond, List}
use Rattle.std.proofs.Common.{[], ◌∷◌, length, get_or, take, drop, Some, None, refl, ◌∙◌, arith}
use Rattle.std.proofs.Common.{drop-cons}
use Rattle.std.specs.Int.{w16, from_be_bytes, to_be_bytes}
use Rattle.std.proofs.lemmas.Bool.{cases_lt}
use Rattle.std.proofs.lemmas.List.{take_all, length-take, get_or-drop, get_or-take, get_or_past}
use Rattle.std.proofs.lemmas.Nat.{be_bytes_2}

abbrev pub IsBytes : List ℕ → Type 0
IsBytes bytes = (i : ℕ) → get_or bytes i 0 < 256

pub IsBytes-drop : (n : ℕ) (bytes : List ℕ) → IsBytes bytes → IsBytes (drop n bytes)
IsBytes-drop n bytes h i = rw get_or-drop (h (n + i))

pub IsBytes-take : (n : ℕ) (bytes : List ℕ) → IsBytes bytes → IsBytes (take n bytes)
IsBytes-take n bytes h i = grind (arith, get_or-take, get_or_past, length-take, cases_lt, h i)

-- n cells from i on
abbrev pub cells : ℕ → ℕ → List ℕ → List ℕ
cells zero i b = []
cells (suc n) i b = get_or b i 0 ∷ cells n (suc i) b

cells_is : (n i : ℕ) (b : List ℕ) → i + n ≤ length b → cells n i b ≡ take n (drop i b)
cells_is zero i b h = refl
cells_is (suc n) i b h =
    let lt : i < length b = omega arith in rw (drop-cons b i 0, ← cells_is n (suc i) b (omega arith)) refl

-- a list is its cells
pub cells_whole : (n : ℕ) (b : List ℕ) → length b ≡ n → cells n 0 b ≡ b
cells_whole n b h = cells_is n 0 b (omega arith) ∙ take_all n b (omega arith)

IsBytes_two : (x y : ℕ) → x < 256 → y < 256 → IsBytes (x ∷ y ∷ [])
IsBytes_two x y hx hy zero = hx
IsBytes_two x y hx hy (suc zero) = hy
IsBytes_two x y hx hy (suc (suc i)) = omega arith

pub two_back : (x y : ℕ) → x < 256 → y < 256 → to_be_bytes w16 (from_be_bytes w16 (x ∷ y ∷ [])) ≡ x ∷ y ∷ []
two_back x y hx hy = be_bytes_2 (x ∷ y ∷ []) _ refl (IsBytes_two x y hx hy) refl

-- nothing was taken, since a test failed
pub unchosen : {A : Type 0} (t : Bool) (x : A) → cond t (Some x) None ≡ None → t ≡ false
unchosen true x e = absurd cc
unchosen false x e = refl
