-- How a fact is written: as a line, or as a member of a JSON object (RFC 8259) after those before
-- it. This project's own.
use Rattle.std.specs.Prelude.{ℕ, Bool, List, [], ◌∷◌, ◌++◌, codes, Option, Some, None, if◌then◌else◌}
use Rattle.std.specs.Fmt.{decimal}
use Rattle.replay_plan.specs.declared.notation.Notation.{Notation}
use Rattle.replay_plan.specs.declared.notation.Notation.TheVariants.{Lines, Json}

-- A fact that is a number, with what stands before and after it in its line.
abbrev pub number_fact : Notation → List ℕ → List ℕ → ℕ → List ℕ → List ℕ
number_fact Lines name before n after = before ++ (decimal n ++ (after ++ 10 ∷ []))
number_fact Json name before n after = codes ",\"" ++ (name ++ (codes "\":" ++ decimal n))

-- A fact that is a word, with what stands before it in its line.
abbrev pub word_fact : Notation → List ℕ → List ℕ → List ℕ → List ℕ
word_fact Lines name before word = before ++ (word ++ 10 ∷ [])
word_fact Json name before word = codes ",\"" ++ (name ++ (codes "\":\"" ++ (word ++ codes "\"")))

-- A fact that is an answer, with what stands before it in its line. Nothing is written where there is none.
abbrev pub answer_fact : Notation → List ℕ → List ℕ → Option Bool → List ℕ
answer_fact notation name before None = []
answer_fact Lines name before (Some answer) = before ++ ((if answer then codes "yes" else codes "no") ++ 10 ∷ [])
answer_fact Json name before (Some answer) = codes ",\"" ++ (name ++ (codes "\":" ++ (if answer then codes "true" else codes "false")))
