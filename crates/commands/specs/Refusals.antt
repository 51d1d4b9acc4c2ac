-- How bytes that are no movie, or no cartridge, are refused: as a line, or as an object of JSON
-- (RFC 8259). This project's own.
use Rattle.std.specs.Prelude.{◌≡◌, ℕ, List, [], ◌∷◌, ◌++◌, codes, Option, Some, None}
use Rattle.std.specs.Fmt.{decimal}
use Rattle.cart_board.specs.Board.{Row}
use Rattle.hex.specs.Hex.{encode_lower}
use Rattle.sha2.specs.Sha256.{sha256}
use Rattle.movie_file.specs.MovieError.{refusal_text}
use Rattle.movie_file.specs.declared.error.MovieError.{MovieError}
use Rattle.movie_file.specs.declared.error.MovieError.TheVariants.{BadState, BadInput, BadOrder, BadCartSize}
use Rattle.movie_hints.specs.Hints.{Explains, TellsRom}
use Rattle.movie_hints.specs.HintTexts.{expected_text, field_text, found_text, hint_text}
use Rattle.movie_hints.specs.declared.hint.Hint.{Hint}
use Rattle.movie_hints.specs.declared.hint.Hint.TheVariants as hints
use Rattle.movie_hints.specs.declared.mismatch.Mismatch.{Mismatch}
use Rattle.replay_plan.specs.declared.notation.Notation.{Notation}
use Rattle.replay_plan.specs.declared.notation.Notation.TheVariants.{Lines, Json}
use Rattle.commands.specs.Answers.{AnswerData, text_answer}
use Rattle.commands.specs.Lines.{line_bytes}
use Rattle.commands.specs.Remarks.{known_if, no_cartridge}
use Rattle.commands.specs.declared.line.Line.TheVariants as lines
use Rattle.commands.specs.declared.remark.WhichInput.{WhichInput}
use Rattle.commands.specs.declared.remark.WhichInput.TheVariants.{First}
use Rattle.commands.specs.declared.status.Status.TheVariants as statuses

-- The number that a refusal has,
abbrev pub number_member : MovieError → List ℕ
number_member (BadState number) = codes ",\"at\":" ++ decimal number
number_member (BadInput number) = codes ",\"at\":" ++ decimal number
number_member (BadOrder number) = codes ",\"at\":" ++ decimal number
number_member other = []

-- a field that isn't what was expected,
abbrev pub mismatch_members : Mismatch → List ℕ
mismatch_members m =
    codes ",\"byte\":" ++ (decimal m.byte ++ (codes ",\"field\":\"" ++ (field_text m.field ++ (codes "\",\"expected\":\""
    ++ (expected_text m.expected ++ (codes "\",\"found\":\"" ++ (found_text m.found ++ codes "\"")))))))

abbrev pub field_members : Hint → List ℕ
field_members (hints.Mismatch mismatch) = mismatch_members mismatch
field_members other = []

-- and the whole reason, each as members of an object.
abbrev pub reason_members : Option Hint → List ℕ
reason_members None = []
reason_members (Some hint) = field_members hint ++ (codes ",\"reason\":\"" ++ (hint_text hint ++ codes "\""))

-- The object of a refusal of these bytes by a program of this name.
abbrev pub refusal_object : List ℕ → List ℕ → MovieError → Option Hint → List ℕ
refusal_object program bytes error hint =
    codes "{\"verdict\":\"refused\",\"refusal\":\"" ++ (refusal_text error ++ (codes "\"" ++ (number_member error ++ (reason_members hint
    ++ (codes ",\"program\":\"" ++ (program ++ (codes "\",\"movie_sha256\":\"" ++ (encode_lower (sha256 bytes) ++ (codes "\"}" ++ 10 ∷ [])))))))))

-- What is written of it.
abbrev pub refusal_bytes : Notation → List ℕ → List ℕ → MovieError → Option Hint → List ℕ
refusal_bytes Lines program bytes error hint = line_bytes (lines.Refused error)
refusal_bytes Json program bytes error hint = refusal_object program bytes error hint

-- The answer that these bytes are refused so. It has a reason that is true of the bytes, which an object
-- says too; it has none only where it isn't known which number of a state is wrong.
abbrev pub Refuses : Notation → List ℕ → List ℕ → MovieError → AnswerData → Type 0
Refuses notation program bytes error answer =
    (hint : Option Hint) × Explains bytes error hint
    × (answer ≡ record (text_answer statuses.Refused (refusal_bytes notation program bytes error hint)) { remark = known_if First hint })

-- The object of a refusal of a ROM, by a program of this name, with this reason.
abbrev pub rom_refusal_object : List ℕ → Hint → List ℕ
rom_refusal_object program hint =
    codes "{\"rom_refusal\":\"BadCartSize\",\"reason\":\"" ++ (hint_text hint ++ (codes "\",\"program\":\"" ++ (program ++ (codes "\"}" ++ 10 ∷ []))))

abbrev pub rom_refusal_bytes : Notation → List ℕ → Hint → List ℕ
rom_refusal_bytes Lines program hint = line_bytes (lines.Refused BadCartSize)
rom_refusal_bytes Json program hint = rom_refusal_object program hint

-- The answer that the bytes of this input are no cartridge, on this board or on none. It has a reason,
-- likewise.
abbrev pub RefusesRom : WhichInput → Notation → List ℕ → Option Row → List ℕ → AnswerData → Type 0
RefusesRom input notation program board rom answer =
    (hint : Hint) × TellsRom board rom hint
    × (answer ≡ record (text_answer statuses.Refused (rom_refusal_bytes notation program hint)) { remark = Some (no_cartridge input hint) })
