-- The facts of a movie and its verdict. This project's own.
use Rattle.std.specs.Prelude.{◌≡◌, ℕ, ◌+◌, ◌==◌, List, [], ◌∷◌, ◌++◌, length, codes, Option, if◌then◌else◌}
use Rattle.std.specs.Fmt.{decimal}
use Rattle.std.specs.Str.{bytes_eq}
use Rattle.hex.specs.Hex.{encode_lower}
use Rattle.input_text.specs.Names.{is_idle}
use Rattle.md5.specs.Md5.{md5}
use Rattle.sha1.specs.Sha1.{sha1}
use Rattle.sha2.specs.Sha256.{sha256}
use Rattle.riot_map.specs.Cart.{has_banks}
use Rattle.cart_board.specs.Board.{Row}
use Rattle.movie_machine.specs.Carts.{board_of, bytes_of}
use Rattle.movie_machine.specs.States.{state_at_power_on}
use Rattle.movie_machine.specs.declared.cart.Cart.{Cart}
use Rattle.movie_machine.specs.declared.cart.Cart.TheVariants.{Guide, Chip}
use Rattle.vcs_machine.specs.Inputs.{InputData}
use Rattle.movie_file.specs.Movie.{MovieData}
use Rattle.movie_file.specs.Record.{record_in}
use Rattle.replay_segments.specs.declared.verdict.Verdict.{Verdict}
use Rattle.movie_report.specs.CheckpointFacts.{checkpoints_text}
use Rattle.movie_report.specs.Differences.{differences_text}
use Rattle.movie_report.specs.Expectations.{agreement_text}
use Rattle.movie_report.specs.FailureFacts.{HasFailure}
use Rattle.movie_report.specs.VerdictHeads.{verdict_head}
use Rattle.movie_report.specs.Notations.{number_fact, word_fact}
use Rattle.movie_report.specs.Notes.{notes_of, notes_text}
use Rattle.movie_report.specs.declared.differences.Comparison.TheVariants.{Start}
use Rattle.movie_report.specs.declared.expectations.Agreement.{Agreement}
use Rattle.replay_plan.specs.declared.notation.Notation.{Notation}
use Rattle.replay_plan.specs.declared.notation.Notation.TheVariants.{Lines, Json}

-- The bank scheme by which a cartridge is played: by the chip's rules that of its board.
abbrev pub banks_of : Cart → List ℕ
banks_of (Guide bytes) = if has_banks (length bytes) then codes "F8" else codes "none"
banks_of (Chip cartridge) = cartridge.row.name

-- The length of a cartridge, its digests, and its bank scheme.
abbrev pub cartridge_text : Notation → Cart → List ℕ
cartridge_text notation cartridge =
    number_fact notation (codes "cartridge") (codes "cartridge: ") (length (bytes_of cartridge)) (codes " bytes")
    ++ (word_fact notation (codes "md5") (codes "md5: ") (encode_lower (md5 (bytes_of cartridge)))
    ++ (word_fact notation (codes "sha1") (codes "sha1: ") (encode_lower (sha1 (bytes_of cartridge)))
    ++ (word_fact notation (codes "sha256") (codes "sha256: ") (encode_lower (sha256 (bytes_of cartridge)))
    ++ word_fact notation (codes "banks") (codes "banks: ") (banks_of cartridge))))

-- Whether a start state is that of power-on: of the records of both.
abbrev pub start_text : Notation → List ℕ → List ℕ → List ℕ
start_text notation start power =
    word_fact notation (codes "start") (codes "start: ") (if bytes_eq start power then codes "power-on" else codes "not power-on")

-- In which numbers it differs from that, if it does.
abbrev pub start_differences_text : Notation → Option Row → List ℕ → List ℕ → List ℕ
start_differences_text notation board start power =
    if bytes_eq start power then [] else differences_text notation Start board start power

-- The number of the last of some frames in which anything is held, if the first of them has number
-- `before` + 1; `last` if there is none.
abbrev pub last_held : ℕ → ℕ → List InputData → ℕ
last_held last before [] = last
last_held last before (input ∷ inputs) = last_held (if is_idle input then last else before + 1) (before + 1) inputs

-- That of the frames of a movie: 0 if there is none.
abbrev pub held_text : Notation → ℕ → List ℕ
held_text Lines frame =
    if frame == 0 then codes "last input: none" ++ 10 ∷ []
    else codes "last input: frame " ++ (decimal frame ++ 10 ∷ [])
held_text Json frame =
    if frame == 0 then codes ",\"last_input\":null" else codes ",\"last_input\":" ++ decimal frame

-- What the movie is, of whose file these are the bytes, and which program says so.
abbrev pub movie_text : Notation → List ℕ → List ℕ → MovieData → List ℕ
movie_text notation program bytes m =
    number_fact notation (codes "version") (codes "movie version: ") m.version []
    ++ (number_fact notation (codes "frames") (codes "movie frames: ") (length m.inputs) []
    ++ (word_fact notation (codes "movie_sha256") (codes "movie sha256: ") (encode_lower (sha256 bytes))
    ++ (held_text notation (last_held 0 0 m.inputs)
    ++ word_fact notation (codes "program") (codes "program: ") program)))

-- How a report begins: lines follow the line of the verdict, and an object names it.
abbrev pub head_text : Notation → Verdict → List ℕ
head_text Lines verdict = []
head_text Json verdict = verdict_head verdict

-- How it ends.
abbrev pub end_text : Notation → List ℕ
end_text Lines = []
end_text Json = codes "}" ++ 10 ∷ []

-- What a movie is, whatever its verdict: the cartridge, whether it starts at power-on, its checkpoints and its file.
abbrev pub facts_text : Notation → List ℕ → List ℕ → MovieData → List ℕ → List ℕ → List ℕ
facts_text notation program bytes m start power =
    cartridge_text notation m.cartridge ++ (start_text notation start power ++ (checkpoints_text notation m ++ movie_text notation program bytes m))

-- What follows what went wrong: the notes, the facts, and last the numbers of a start that isn't power-on. With the records of
-- the start state and of power-on.
abbrev pub notes_and_facts_text : Notation → List ℕ → List ℕ → MovieData → List ℕ → List ℕ → List ℕ
notes_and_facts_text notation program bytes m start power =
    notes_text notation (notes_of m start power)
    ++ (facts_text notation program bytes m start power ++ start_differences_text notation (board_of m.cartridge) start power)

-- A report of the movie that these bytes are and of its verdict, and of how it agrees with a ROM, if one is expected, and with the
-- rest, by a program of this name.
abbrev pub IsReport : Notation → List ℕ → List ℕ → MovieData → Verdict → Option (List ℕ) → Agreement → List ℕ → Type 0
IsReport notation program bytes m verdict rom agreement text =
    (failure : List ℕ) × HasFailure notation m verdict failure
    × (text ≡ head_text notation verdict ++ (failure ++ (agreement_text notation rom (bytes_of m.cartridge) agreement
    ++ (notes_and_facts_text notation program bytes m (record_in m.cartridge m.start) (record_in m.cartridge (state_at_power_on m.cartridge)) ++ end_text notation))))
