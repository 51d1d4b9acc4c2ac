-- What the signs of a movie's segments and of its claims say of a false checkpoint, in a sentence: in which claims the run is, which
-- is decided, and then what may have been changed. Whatever was changed, the sentence is true of it. This project's own.
use Rattle.std.specs.Prelude.{ℕ, ◌+◌, ◌-◌, ◌==◌, nat_lt, Bool, true, false, List, [], ◌∷◌, ◌++◌, length, codes, count_by}
use Rattle.std.specs.Prelude.{take, drop, if◌then◌else◌}
use Rattle.std.specs.Fmt.{decimal}
use Rattle.movie_file.specs.Movie.{MovieData}
use Rattle.replay_plan.specs.declared.notation.Notation.{Notation}
use Rattle.replay_plan.specs.declared.notation.Notation.TheVariants.{Lines, Json}
use Rattle.movie_report.specs.ClaimSigns.{claim_signs}
use Rattle.movie_report.specs.declared.segments.Sign.{Sign}
use Rattle.movie_report.specs.declared.segments.Sign.TheVariants.{Passes, Differs, Faults}

-- A segment doesn't reach the claim at its end, or the run isn't in a claim.
abbrev pub breaks : Sign → Bool
breaks Passes = false
breaks Differs = true
breaks Faults = true

-- How many of these signs say so.
abbrev pub broken : List Sign → ℕ
broken signs = count_by breaks signs

-- ---- in which claims the run is: by the number of the first claim that it isn't in, and the signs of the claims after that

-- What stands before a number, by how many come after it.
abbrev pub separator : ℕ → List ℕ
separator left = if left == 0 then codes " and " else codes ", "

-- The number of a claim, if the run isn't in that.
abbrev pub number_text : Sign → ℕ → ℕ → List ℕ
number_text sign left number = if breaks sign then separator left ++ decimal number else []

-- The numbers of the claims after the one of this number that the run isn't in.
abbrev pub more_numbers : ℕ → List Sign → List ℕ
more_numbers number [] = []
more_numbers number (sign ∷ later) = number_text sign (broken later) (number + 1) ++ more_numbers (number + 1) later

-- Up to eight claims are named, and of more how many they are.
abbrev pub all_but : ℕ → List Sign → List ℕ
all_but number later =
    if nat_lt (broken later) 8
    then codes "the run is in all claims but " ++ (decimal number ++ more_numbers number later)
    else codes "the run isn't in " ++ (decimal (1 + broken later) ++ (codes " of " ++ (decimal (number + length later)
    ++ (codes " claims, claim " ++ (decimal number ++ codes " first")))))

abbrev pub none_from : ℕ → List ℕ
none_from number = if number == 1 then codes "the run is in no claim" else codes "the run is in no claim from " ++ (decimal number ++ codes " on")

-- ---- what may have been changed

-- If the claim is the movie's last, nothing tells it from what leads to it.
abbrev pub last_text : ℕ → List ℕ
last_text number =
    if number == 1
    then codes "the run isn't in the only claim: that claim was changed, or what leads to it"
    else codes "the run is in all claims but " ++ (decimal number ++ codes ": that claim was changed, or what leads to it")

-- If the run comes back into a claim: by whether it leaves out one claim alone, and whether one segment alone breaks.
abbrev pub changed_text : (one_claim one_segment : Bool) → List ℕ
changed_text true true = codes ": that claim or what leads to it was changed, without lasting effect"
changed_text true false = codes ": that claim was changed, or what leads to it and from it"
changed_text false true = codes ": these claims or what leads to them were changed, without lasting effect"
changed_text false false = codes ": these claims were changed, or what leads to them and from them"

-- If it doesn't, and one segment alone breaks, that goes from one run to another.
abbrev pub other_run_text : ℕ → List ℕ
other_run_text number =
    if number == 1
    then codes ", and only segment 1 doesn't lead to its claim: the start state, its inputs or the cartridge were changed, or the claims are of another run"
    else codes ", and only segment " ++ (decimal number
    ++ codes " doesn't lead to its claim: its inputs or the cartridge were changed, or the claims before and after it are of two runs")

-- If more do, the segments name no cause. The first segment begins at the start.
abbrev pub first_text : ℕ → List ℕ
first_text number = if number == 1 then codes "the start state, " else codes ""

abbrev pub many_text : ℕ → ℕ → List ℕ
many_text number count =
    codes ", and " ++ (decimal count ++ (codes " segments don't lead to their claims: " ++ (first_text number
    ++ codes "inputs, the cartridge or claims were changed")))

-- By how many segments after the first that breaks do so too.
abbrev pub gone_text : ℕ → ℕ → List ℕ
gone_text number others = if others == 0 then other_run_text number else many_text number (1 + others)

-- The sentence, by the number of the first claim that the run isn't in and of the segment before that, and by the signs of the
-- segments and of the claims after it.
abbrev pub sentence : ℕ → List Sign → List Sign → List ℕ
sentence number segments claims =
    if length claims == 0 then last_text number
    else (if broken claims == length claims then none_from number ++ gone_text number (broken segments)
    else all_but number claims ++ changed_text (broken claims == 0) (broken segments == 0))

-- The signs after the one of this number, from 1, of the segments that end with a claim, or of claims.
abbrev pub claimed_after : MovieData → ℕ → List Sign → List Sign
claimed_after m number signs = take (length m.checkpoints - number) (drop number signs)

-- That of a movie with these signs of its segments.
abbrev pub sentence_in : MovieData → ℕ → List Sign → List ℕ
sentence_in m number signs = sentence number (claimed_after m number signs) (claimed_after m number (claim_signs m))

abbrev pub reason_text : Notation → List ℕ → List ℕ
reason_text Lines text = text ++ 10 ∷ []
reason_text Json text = codes ",\"reason\":\"" ++ (text ++ codes "\"")
