-- The line or the object of a frame of a movie's run. This project's own.
use Rattle.std.specs.Prelude.{ℕ, ◌+◌, ◌-◌, Bool, true, false, ◌==◌, if◌then◌else◌, List, []}
use Rattle.std.specs.Prelude.{◌∷◌, ◌++◌, length, codes, slice_get, slice_index, Option, Some, None}
use Rattle.std.specs.Fmt.{decimal}
use Rattle.std.specs.List.{flat_map, position_or_len}
use Rattle.std.specs.Str.{bytes_eq}
use Rattle.hex.specs.Hex.{encode_lower, encode_upper}
use Rattle.sha2.specs.Sha256.{sha256}
use Rattle.vcs_machine.specs.Faults.{hex2}
use Rattle.vcs_machine.specs.Inputs.{InputData}
use Rattle.movie_machine.specs.Outcomes.{FrameOutcome, Played, Failed, frame_of}
use Rattle.movie_machine.specs.States.{memory_of}
use Rattle.movie_machine.specs.declared.cart.Cart.{Cart}
use Rattle.movie_machine.specs.declared.state.State.{State}
use Rattle.vcs_machine.specs.Pictures.{Rows}
use Rattle.movie_file.specs.Movie.{MovieData}
use Rattle.movie_file.specs.Record.{record_in}
use Rattle.movie_file.specs.Run.{run}
use Rattle.movie_file.specs.declared.checkpoint.Checkpoint.{Checkpoint}
use Rattle.picture_file.specs.PictureBytes.{picture_bytes}
use Rattle.replay_plan.specs.Limits.{first_address}
use Rattle.replay_plan.specs.declared.notation.Notation.{Notation}
use Rattle.replay_plan.specs.declared.notation.Notation.TheVariants.{Lines, Json}
use Rattle.replay_plan.specs.declared.watches.Address.{Address}
use Rattle.replay_plan.specs.declared.watches.Details.{Details}

-- How many cycles a frame took, and how many rows its picture has.
abbrev pub frame_text : ℕ → ℕ → ℕ → List ℕ
frame_text frame cycles rows =
    codes "frame " ++ (decimal frame ++ (codes ": " ++ (decimal cycles ++ (codes " cycles, " ++ (decimal rows ++ codes " rows")))))

-- How many cycles a frame took, and how many rows its picture has: the beginning of a line, or of an
-- object of JSON (RFC 8259).
abbrev pub length_text : Notation → ℕ → ℕ → ℕ → List ℕ
length_text Lines frame cycles rows = frame_text frame cycles rows
length_text Json frame cycles rows =
    codes "{\"frame\":" ++ (decimal frame ++ (codes ",\"cycles\":" ++ (decimal cycles ++ (codes ",\"rows\":" ++ decimal rows))))

-- A checkpoint of this number, and whether its claim is true.
abbrev pub told_claim : Notation → ℕ → Bool → List ℕ
told_claim Lines number true = codes ", checkpoint " ++ (decimal number ++ codes " true")
told_claim Lines number false = codes ", checkpoint " ++ (decimal number ++ codes " false")
told_claim Json number true = codes ",\"checkpoint\":" ++ (decimal number ++ codes ",\"claim_is_true\":true")
told_claim Json number false = codes ",\"checkpoint\":" ++ (decimal number ++ codes ",\"claim_is_true\":false")

-- It is if the state that it claims has the same record, with this cartridge, as this one.
abbrev pub claim_text : Notation → Cart → ℕ → Option Checkpoint → State → List ℕ
claim_text notation cartridge number None state = []
claim_text notation cartridge number (Some c) state =
    told_claim notation number (bytes_eq (record_in cartridge c.state) (record_in cartridge state))

-- The one that stands after a frame, if one does, which the run leaves in this state.
abbrev pub checkpoint_text : Notation → MovieData → ℕ → State → List ℕ
checkpoint_text notation m frame state =
    let j = position_or_len (λ c. c.frame == frame) m.checkpoints in
    claim_text notation m.cartridge (j + 1) (slice_get m.checkpoints j) state

-- The byte of the memory at an address.
abbrev pub byte_at : State → Address → ℕ
byte_at state a = slice_index (memory_of state) (a.number - first_address)

-- An address and its byte, as an object.
abbrev pub byte_object : ℕ → ℕ → List ℕ
byte_object address byte = codes "{\"address\":\"" ++ (hex2 address ++ (codes "\",\"byte\":\"" ++ (hex2 byte ++ codes "\"}")))

-- A byte of the memory, after others.
abbrev pub byte_text : Notation → State → Address → List ℕ
byte_text Lines state a = codes ", memory " ++ (hex2 a.number ++ (codes " " ++ hex2 (byte_at state a)))
byte_text Json state a = codes "," ++ byte_object a.number (byte_at state a)

-- The bytes that are watched. An array has no comma before the first.
abbrev pub watched_text : Notation → State → List Address → List ℕ
watched_text Lines state addresses = flat_map (byte_text Lines state) addresses
watched_text Json state [] = []
watched_text Json state (first ∷ others) =
    codes ",\"watched\":[" ++ (byte_object first.number (byte_at state first) ++ (flat_map (byte_text Json state) others ++ codes "]"))

-- All bytes of the memory, in the order of their addresses.
abbrev pub memory_text : Notation → State → List ℕ
memory_text Lines state = codes ", memory " ++ encode_upper (memory_of state)
memory_text Json state = codes ",\"memory\":\"" ++ (encode_upper (memory_of state) ++ codes "\"")

-- The SHA-256 of the state's record, with this cartridge, and of the picture's file.
abbrev pub digests_text : Notation → Cart → State → Rows → List ℕ
digests_text Lines cartridge state picture =
    codes ", state " ++ (encode_lower (sha256 (record_in cartridge state)) ++ (codes ", picture " ++ encode_lower (sha256 (picture_bytes picture))))
digests_text Json cartridge state picture =
    codes ",\"state\":\"" ++ (encode_lower (sha256 (record_in cartridge state)) ++ (codes "\",\"picture\":\""
    ++ (encode_lower (sha256 (picture_bytes picture)) ++ codes "\"")))

-- The end of a line or of an object.
abbrev pub end_text : Notation → List ℕ
end_text Lines = 10 ∷ []
end_text Json = codes "}" ++ 10 ∷ []

-- The line or the object of a frame that took so many cycles, left this state, and drew this picture.
abbrev pub ended_line : MovieData → Notation → Details → ℕ → ℕ → State → Rows → List ℕ
ended_line m notation details frame cycles state picture =
    length_text notation frame cycles (length picture)
    ++ (checkpoint_text notation m frame state
    ++ (watched_text notation state details.watches
    ++ ((if details.memory then memory_text notation state else [])
    ++ ((if details.digests then digests_text notation m.cartridge state picture else []) ++ end_text notation))))

-- The same of a frame from its outcome. One that faults has none.
abbrev pub outcome_line : MovieData → Notation → Details → ℕ → Option FrameOutcome → List ℕ
outcome_line m notation details frame (Some (Played state picture cycles)) = ended_line m notation details frame cycles state picture
outcome_line m notation details frame (Some (Failed kind left)) = []
outcome_line m notation details frame None = []

-- Of a frame that plays from this state with this input.
abbrev pub played_line : MovieData → Notation → Details → ℕ → Option State → Option InputData → List ℕ
played_line m notation details frame None input = []
played_line m notation details frame (Some state) None = []
played_line m notation details frame (Some state) (Some input) =
    outcome_line m notation details frame (frame_of m.cartridge state input)

-- Of frame k + 1 of the movie's one unbroken run.
abbrev pub frame_line : MovieData → Notation → Details → ℕ → List ℕ
frame_line m notation details k = played_line m notation details (k + 1) (run m m.start 0 k) (slice_get m.inputs k)
