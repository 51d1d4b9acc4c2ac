-- Where each part of a text had room, the whole has.
use Rattle.std.proofs.Common.{◌≡◌, ◌+◌, ℕ, Option, None, Some, Result, Ok, Err, IfSome, List, [], ◌∷◌, length, true, sym, subst, arith, length-append}
use Rattle.std.proofs.lemmas.Bool.{false≢true}
use Rattle.std.specs.Fmt.{WritesText}
use Rattle.std.specs.List.{FoldsTo, concat}
use Rattle.std.specs.Result.{OnOk, is_ok}
use Rattle.named_files.specs.FileErrors.{HasRoom, left_after}
use Rattle.named_files.specs.declared.size_limit.Quota.{Quota}

-- A quota that has room for a text, and what is left then.
abbrev pub Takes : Quota → List ℕ → Quota → Type 0
Takes old text new = HasRoom old.left (length text) × (new.left ≡ left_after (length text) old.left)

room_for_both : (left after : Option ℕ) (a b : ℕ) → HasRoom left a → after ≡ left_after a left → HasRoom after b → HasRoom left (a + b)
room_for_both None after a b one is two = tt
room_for_both (Some left) after a b one is two =
    let P : Option ℕ → Type 0 = λ x. HasRoom x b in
    let rest = subst P is two in omega (arith, one, rest)

room_for_none : (left : Option ℕ) → HasRoom left 0
room_for_none None = tt
room_for_none (Some left) = omega arith

pub room_for_all : (old : Quota) (parts : List (List ℕ)) (new : Quota) → FoldsTo Takes old parts new → HasRoom old.left (length (concat parts))
room_for_all old [] new takes = room_for_none old.left
room_for_all old (part ∷ parts) new takes =
    let P : ℕ → Type 0 = λ n. HasRoom old.left n in
    subst P (sym (length-append part (concat parts)))
    (room_for_both old.left takes.0.left (length part) (length (concat parts)) takes.1.0 takes.1.1 (room_for_all takes.0 parts new takes.2))

pub room_of_text : (old : Quota) (text : Option (List ℕ)) (new : Quota) → WritesText Takes old text new → IfSome text (λ bytes. HasRoom old.left (length bytes))
room_of_text old None new writes = tt
room_of_text old (Some bytes) new writes =
    let P : List ℕ → Type 0 = λ text. HasRoom old.left (length text) in
    subst P writes.whole (room_for_all old writes.parts new writes.calls)

pub room_if_written : {E : Type 0} (result : Result (Unit {0}) E) (old : Quota) (text : Option (List ℕ)) (new : Quota)
    → OnOk result (WritesText Takes old text new) → is_ok result ≡ true → IfSome text (λ bytes. HasRoom old.left (length bytes))
room_if_written (Ok nothing) old text new writes is = room_of_text old text new writes
room_if_written (Err error) old text new writes is = absurd (false≢true is)
