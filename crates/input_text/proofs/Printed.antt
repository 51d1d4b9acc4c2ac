-- Printed inputs: one list of stretches, and so one text.
use Rattle.std.proofs.Common.{◌≡◌, ◌≤◌, ℕ, ◌+◌, ◌<◌, zero, suc, true, false, cond, List, [], ◌∷◌, ◌++◌}
use Rattle.std.proofs.Common.{length, get_or, take, drop, replicate, Some, sym, refl, ap, ◌∙◌}
use Rattle.std.proofs.Common.{subst, arith, add-one, append_assoc, length-drop, drop-cons}
use Rattle.std.specs.Prelude.{codes, slice_get, filter}
use Rattle.std.specs.Fmt.{decimal}
use Rattle.std.specs.List.{flat_map}
use Rattle.std.proofs.lemmas.List.{append-nil, length-take, length-replicate}
use Rattle.vcs_machine.specs.Inputs.{InputData}
use Rattle.input_text.specs.declared.stretch.Stretch.{Stretch}
use Rattle.input_text.specs.declared.name.Name.{Name}
use Rattle.input_text.specs.declared.name.Name.TheVariants.{Up0}
use Rattle.input_text.specs.Names.{bit_of_name, names, is_held}
use Rattle.input_text.specs.Stretches.{BeginWith, AreStretches, IsNumbered, IsPrinted, line_of, name_after_space}

-- what is left of a line, from a place of the table of names on
abbrev pub left_of_line : InputData → ℕ → List ℕ
left_of_line input place = flat_map name_after_space (filter (is_held input) (drop place names)) ++ 10 ∷ []

-- a text and what is left of a line, at the next place
pub next_name : (text : List ℕ) (input : InputData) (place : ℕ) (name : Name) → place < length names → name ≡ get_or names place Up0
    → text ++ left_of_line input place
    ≡ cond (is_held input name) ((text ++ 32 ∷ []) ++ (bit_of_name name).word) text ++ left_of_line input (place + 1)
next_name text input place name h e =
    let left : drop place names ≡ name ∷ drop (place + 1) names = rw (e, add-one) (drop-cons names place Up0 h) in
    let others : List Name = filter (is_held input) (drop (place + 1) names) in
    rw left (elim (is_held input name) as (λ b. text ++ (flat_map name_after_space (cond b (name ∷ others) others) ++ 10 ∷ [])
    ≡ cond b ((text ++ 32 ∷ []) ++ (bit_of_name name).word) text ++ (flat_map name_after_space others ++ 10 ∷ [])) [
      | true ↦ simp append_assoc
      | false ↦ refl
    ])

-- the text has what comes before the rest: with the lines of the rest it is that of all inputs
pub record PrintedUpTo (inputs rest : List InputData) (text : List ℕ) : Type 0 where
  pub left : length rest ≤ length inputs
  pub more : (others : List ℕ) → IsPrinted rest others → IsPrinted inputs (text ++ others)

pub printed_more : (inputs rest : List InputData) (text : List ℕ) (s : Stretch) → BeginWith s rest → PrintedUpTo inputs rest text
    → PrintedUpTo inputs (drop s.count rest) (text ++ line_of s)
printed_more inputs rest text s begins so = record {
  left = omega (arith, so.left, length-drop s.count rest);
  more = λ others after.
      rw append_assoc (so.more (line_of s ++ others) (record {
        stretches = s ∷ after.stretches;
        inputs_are = (begins, after.inputs_are);
        text_is = ap (λ (lines : List ℕ). line_of s ++ lines) after.text_is;
      }));
}

pub printed_all : (inputs : List InputData) (text : List ℕ) → PrintedUpTo inputs [] text → IsPrinted inputs text
printed_all inputs text so = rw append-nil at (so.more [] (record { stretches = []; inputs_are = refl; text_is = refl }))

-- the same of lines with the numbers of their frames, of which the rest begins with this one
pub record NumberedUpTo (first : ℕ) (inputs : List InputData) (frame : ℕ) (rest : List InputData) (text : List ℕ) : Type 0 where
  pub frame_is : frame + length rest ≡ first + length inputs
  pub more : (others : List ℕ) → IsNumbered frame rest others → IsNumbered first inputs (text ++ others)

pub numbered_more : (first : ℕ) (inputs : List InputData) (frame : ℕ) (rest : List InputData) (text : List ℕ) (s : Stretch) → BeginWith s rest
    → s.count ≤ length rest → NumberedUpTo first inputs frame rest text
    → NumberedUpTo first inputs (frame + s.count) (drop s.count rest) ((text ++ (decimal frame ++ codes ": ")) ++ line_of s)
numbered_more first inputs frame rest text s begins within so = record {
  frame_is = omega (arith, so.frame_is, length-drop s.count rest);
  more = λ others after.
      let line : List ℕ = (decimal frame ++ codes ": ") ++ line_of s in
      subst (IsNumbered first inputs) (simp append_assoc) (so.more (line ++ others) (record {
        stretches = s ∷ after.stretches;
        inputs_are = (begins, after.inputs_are);
        text_is = ap (λ (lines : List ℕ). line ++ lines) after.text_is ∙ simp append_assoc;
      }));
}

pub numbered_all : (first : ℕ) (inputs : List InputData) (frame : ℕ) (text : List ℕ) → NumberedUpTo first inputs frame [] text
    → IsNumbered first inputs text
numbered_all first inputs frame text so = rw append-nil at (so.more [] (record { stretches = []; inputs_are = refl; text_is = refl }))

-- each of the first inputs is that of the stretch
pub input_at : (inputs : List InputData) (n k : ℕ) (input : InputData) → take n inputs ≡ replicate n input → k < n
    → slice_get inputs k ≡ Some input
input_at inputs zero k input e h = absurd (omega arith)
input_at [] (suc n) k input e h = cc
input_at (i ∷ inputs) (suc n) zero input e h = cc
input_at (i ∷ inputs) (suc n) (suc k) input e h =
    let others : take n inputs ≡ replicate n input = cc in input_at inputs n k input others (omega arith)

same_first : (inputs : List InputData) (s t : Stretch) → BeginWith s inputs → BeginWith t inputs → s ≡ t
same_first inputs s t p q = grind (arith, input_at)

none_begins : (s : Stretch) → BeginWith s [] → ⊥
none_begins s p = omega (arith, p.some, ap length p.equal, length-take {A = InputData} s.count [], length-replicate s.count s.input)

same_stretches : (inputs : List InputData) (ss ts : List Stretch) → AreStretches inputs ss → AreStretches inputs ts → ss ≡ ts
same_stretches inputs [] [] p q = refl
same_stretches inputs [] (t ∷ ts) p q = absurd (none_begins t (rw p at q.0))
same_stretches inputs (s ∷ ss) [] p q = absurd (none_begins s (rw q at p.0))
same_stretches inputs (s ∷ ss) (t ∷ ts) p q =
    let first = same_first inputs s t p.0 q.0 in
    let rest : AreStretches (drop t.count inputs) ss = subst (λ (u : Stretch). AreStretches (drop u.count inputs) ss) first p.1 in
    let others = same_stretches (drop t.count inputs) ss ts rest q.1 in
    cc

pub one_text : (inputs : List InputData) (a b : List ℕ) → IsPrinted inputs a → IsPrinted inputs b → a ≡ b
one_text inputs a b p q =
    p.text_is ∙ ap (flat_map line_of) (same_stretches inputs p.stretches q.stretches p.inputs_are q.inputs_are) ∙ sym q.text_is
