-- Refusals: their names, and what it is to answer what reading gives, always or unless memory is
-- refused. This project's own.
use Rattle.std.specs.Prelude.{◌≡◌, ℕ, List, ◌++◌, Result, Ok, Err, codes}
use Rattle.std.specs.Fmt.{decimal}
use Rattle.movie_file.specs.declared.error.MovieError.{MovieError}
use Rattle.movie_file.specs.declared.error.MovieError.TheVariants.{Short, BadMagic, BadVersion, BadBoard}
use Rattle.movie_file.specs.declared.error.MovieError.TheVariants.{BadCartSize, BadCounts, BadState}
use Rattle.movie_file.specs.declared.error.MovieError.TheVariants.{BadInput, BadOrder, Trailing}
use Rattle.refused.specs.declared.Refused.{Refused}
use Rattle.refused.specs.declared.Refused.TheVariants.{NoMemory, Of}

-- the name of a refusal, and its number if it has one
abbrev pub refusal_text : MovieError → List ℕ
refusal_text Short = codes "Short"
refusal_text BadMagic = codes "BadMagic"
refusal_text BadVersion = codes "BadVersion"
refusal_text BadBoard = codes "BadBoard"
refusal_text BadCartSize = codes "BadCartSize"
refusal_text BadCounts = codes "BadCounts"
refusal_text (BadState k) = codes "BadState " ++ decimal k
refusal_text (BadInput k) = codes "BadInput " ++ decimal k
refusal_text (BadOrder k) = codes "BadOrder " ++ decimal k
refusal_text Trailing = codes "Trailing"

-- a call's answer, seen by `view`, is what reading gives
abbrev pub Gives : {X Y : Type 0} → (X → Y) → Result X MovieError → Result Y MovieError → Type 0
Gives view (Ok x) read = read ≡ Ok (view x)
Gives view (Err e) read = read ≡ Err e

-- it is, unless memory was refused
abbrev pub GivesUnlessRefused : {X Y : Type 0} → (X → Y) → Result X (Refused MovieError) → Result Y MovieError → Type 0
GivesUnlessRefused view (Ok x) read = read ≡ Ok (view x)
GivesUnlessRefused view (Err (Of e)) read = read ≡ Err e
GivesUnlessRefused view (Err NoMemory) read = Unit {0}
