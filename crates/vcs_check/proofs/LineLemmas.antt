-- The words of a command line, one by one, and what is known of their line.
use Rattle.std.proofs.Common.{◌≡◌, ◌⊎◌, inl, inr, ◌↔◌, ◌+◌, ◌<◌, ◌++◌, ℕ, Global, IfOk, List, [], ◌∷◌, Result, Ok, Err, String, ap, append-nil, codes, cond, false}
use Rattle.std.proofs.Common.{Bool, get_or, length, not, refl, string_bytes, subst, sym, take, true, ◌∙◌}
use Rattle.std.specs.Str.{bytes_eq}
use Rattle.std.proofs.lemmas.List.{map_push, take_more}
use Rattle.std.proofs.lemmas.List.Elements.{filter-append}
use Rattle.clap.specs.Words.{Text, matches_of, subcommand_of}
use Rattle.clap.specs.declared.error.kind.ErrorKind.{ErrorKind}
use Rattle.command_line.specs.Meanings.{AsksForReasons, IsLine}
use Rattle.command_line.specs.Table.{program_app}
use Rattle.command_line.specs.declared.command.CommandLine.{CommandLine}
use Rattle.command_line.specs.declared.command.LineFault.{LineFault}
use Rattle.command_line.specs.declared.command.LineFault.TheVariants.{Usage}
use Rattle.vcs_check.specs.Lines.{IsAdvised, IsLineOf, IsMistake, texts_of, without_explain}

pub texts_more : {Z : Type 0} (words : List (String Z)) (i : ℕ) (d : String Z) → i < length words
    → texts_of (take (i + 1) words) ≡ texts_of (take i words) ++ (string_bytes (get_or words i d) ∷ [])
texts_more words i d within = ap texts_of (take_more words i d within) ∙ map_push (λ word. string_bytes word) (take i words) (get_or words i d)

pub without_explain_more : {Z : Type 0} (words : List (String Z)) (i : ℕ) (d : String Z) → i < length words
    → without_explain (texts_of (take (i + 1) words))
    ≡ without_explain (texts_of (take i words)) ++ cond (not (bytes_eq (string_bytes (get_or words i d)) (codes "--explain"))) (string_bytes (get_or words i d) ∷ []) []
without_explain_more words i d within =
    ap without_explain (texts_more words i d within)
    ∙ filter-append (λ word. not (bytes_eq word (codes "--explain"))) (texts_of (take i words)) (string_bytes (get_or words i d) ∷ [])

pub left_out : {Z : Type 0} (words others : List (String Z)) (i : ℕ) (word : String Z) → i < length words → word ≡ get_or words i word
    → texts_of others ≡ without_explain (texts_of (take i words)) → bytes_eq (string_bytes word) (codes "--explain") ≡ true
    → texts_of others ≡ without_explain (texts_of (take (i + 1) words))
left_out words others i word within is was out =
    let P : String _ → Type 0 = λ x. bytes_eq (string_bytes x) (codes "--explain") ≡ true in
    let test = subst P is out in
    was ∙ sym (without_explain_more words i word within ∙ rw (test, append-nil))

pub let_in : {Z : Type 0} (words others : List (String Z)) (i : ℕ) (word copied : String Z) → i < length words → word ≡ get_or words i word
    → texts_of others ≡ without_explain (texts_of (take i words)) → bytes_eq (string_bytes word) (codes "--explain") ≡ false
    → string_bytes copied ≡ string_bytes word
    → texts_of (others ++ (copied ∷ [])) ≡ without_explain (texts_of (take (i + 1) words))
let_in words others i word copied within is was in_it same =
    let P : String _ → Type 0 = λ x. bytes_eq (string_bytes x) (codes "--explain") ≡ false in
    let test = subst P is in_it in
    let more = without_explain_more words i word within in
    map_push (λ text. string_bytes text) others copied
    ∙ ap (λ l. l ++ (string_bytes copied ∷ [])) was
    ∙ ap (λ x. without_explain (texts_of (take i words)) ++ (x ∷ [])) (same ∙ ap (λ x. string_bytes x) is)
    ∙ sym (more ∙ rw test)

pub not_false : (b : Bool) → not b ≡ false → b ≡ true
not_false true is = refl
not_false false is = sym is

pub not_true : (b : Bool) → not b ≡ true → b ≡ false
not_true false is = refl
not_true true is = sym is

-- What is known of a line for each of two reasons.
pub line_for_both : {E : Type 0} (words : List Text) (answer : Result CommandLine E) → IfOk answer (IsLine (subcommand_of program_app words))
    → IfOk answer (λ line. (line.explain ≡ true) ↔ AsksForReasons (matches_of program_app words) (subcommand_of program_app words))
    → IfOk answer (IsLineOf words)
line_for_both words (Ok line) one two = (one, two)
line_for_both words (Err fault) one two = tt

-- A mistake stays one.
pub mistake_told : (P : Type 0) (fault told : LineFault) (kind : ErrorKind) (text : String Global) → fault ≡ Usage kind text
    → IsMistake told ⊎ P → IsAdvised fault told ⊎ P
mistake_told P fault told kind text is (inl mistake) = let Q : LineFault → Type 0 = λ x. IsAdvised x told in inl (subst Q (sym is) mistake)
mistake_told P fault told kind text is (inr shown) = inr shown
