-- Why a line of a text can't be read, and which name a word was to be. This project's own.
use Rattle.std.specs.Prelude.{◌≡◌, ◌⊎◌, ℕ, true, false, not, List, ◌∷◌, ◌++◌, map, drop}
use Rattle.std.specs.Prelude.{Option, Some, None, IfSome, find, is_some, slice_get}
use Rattle.std.specs.Borrow.{Bor}
use Rattle.std.specs.Char.{to_ascii_lowercase}
use Rattle.std.specs.List.{AllByRecursion}
use Rattle.input_text.specs.Names.{bit_of_name, names}
use Rattle.input_text.specs.Texts.{is_count, is_readable, name_of}
use Rattle.input_text.specs.declared.mistake.Mistake.{Mistake}
use Rattle.input_text.specs.declared.mistake.Mistake.TheVariants.{NoCount, NoName, TooManyFrames}
use Rattle.input_text.specs.declared.name.Name.{Name}

-- What is wrong with the words of a bad line: the first says no number of frames; or it does, and of
-- the others this is the first that is no name; or they can be read, and say too many frames.
abbrev pub IsMistake : List (List ℕ) → Mistake → Type 0
IsMistake words (NoCount word) = (slice_get words 0 ≡ Some word.now) × (is_count word.now ≡ false)
IsMistake words (NoName word) =
    IfSome (slice_get words 0) (λ count. is_count count ≡ true)
    × (find (λ word. not (is_some (name_of word))) (drop 1 words) ≡ Some word.now)
IsMistake words TooManyFrames = is_readable words ≡ true

-- A word in small letters.
abbrev pub small : List ℕ → List ℕ
small word = map to_ascii_lowercase word

-- A word has one letter more than another.
abbrev pub HasOneMore : List ℕ → List ℕ → Type 0
HasOneMore a b = (first last : List ℕ) × (x : ℕ) × (a ≡ first ++ last) × (b ≡ first ++ x ∷ last)

-- One letter of a word is another.
abbrev pub IsChanged : List ℕ → List ℕ → Type 0
IsChanged a b = (first last : List ℕ) × (x y : ℕ) × (a ≡ first ++ x ∷ last) × (b ≡ first ++ y ∷ last)

-- Two neighbours of a word are exchanged.
abbrev pub IsExchanged : List ℕ → List ℕ → Type 0
IsExchanged a b = (first last : List ℕ) × (x y : ℕ) × (a ≡ first ++ x ∷ y ∷ last) × (b ≡ first ++ y ∷ x ∷ last)

-- Two words are the same, or at most one edit apart: a letter is inserted, deleted, changed, or
-- exchanged with its neighbour.
abbrev pub IsNear : List ℕ → List ℕ → Type 0
IsNear a b = (a ≡ b) ⊎ HasOneMore a b ⊎ HasOneMore b a ⊎ IsChanged a b ⊎ IsExchanged a b

-- A name is near to a word, whatever letters are capital ones.
abbrev pub IsNearTo : List ℕ → Name → Type 0
IsNearTo word name = IsNear (small word) (small (bit_of_name name).word)

-- The first of some names that is near to a word, if one is, as it is written; and the name that a
-- word was to be, which is the first of all.
abbrev pub IsMeantAmong : List ℕ → List Name → Option (Bor (List ℕ)) → Type 0
IsMeantAmong word all None = AllByRecursion (λ name. IsNearTo word name → ⊥) all
IsMeantAmong word all (Some text) =
    (before after : List Name) × (name : Name) × (all ≡ before ++ name ∷ after)
    × AllByRecursion (λ other. IsNearTo word other → ⊥) before × IsNearTo word name
    × (text.now ≡ (bit_of_name name).word)

abbrev pub IsMeant : List ℕ → Option (Bor (List ℕ)) → Type 0
IsMeant word text = IsMeantAmong word names text
