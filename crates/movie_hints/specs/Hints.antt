-- What a hint says of the bytes that were refused. This project's own.
use Rattle.std.specs.Prelude.{◌≡◌, ◌≢◌, ◌<◌, ◌≤◌, ◌+◌, ◌-◌, ◌*◌, ◌^◌, ◌%◌, ◌==◌, ◌&&◌, ◌||◌, ◌⊎◌, ℕ, Bool, true, false}
use Rattle.std.specs.Prelude.{List, [], ◌∷◌, ◌++◌, codes, find, length, nat_le, nat_lt, not, slice_get, slice_index}
use Rattle.std.specs.Prelude.{bit_and, Option, Some, None, IfSome, Err, IsOk, if◌then◌else◌}
use Rattle.std.specs.List.{list_all, list_any, starts_with}
use Rattle.std.specs.Char.{is_ascii_digit}
use Rattle.std.specs.Str.{is_utf8}
use Rattle.input_text.specs.Mistakes.{IsMeant, IsMistake}
use Rattle.input_text.specs.Texts.{inputs_in}
use Rattle.input_text.specs.Words.{lines_of, words_of}
use Rattle.input_text.specs.declared.mistake.Mistake.{Mistake}
use Rattle.input_text.specs.declared.mistake.Mistake.TheVariants.{NoCount, NoName, TooManyFrames}
use Rattle.vcs_machine.specs.Inputs.{InputData}
use Rattle.movie_file.specs.InputLists.{SpellsInputs}
use Rattle.movie_hints.specs.Fits.{is_unfit}
use Rattle.movie_hints.specs.Looks.{has_at, is_like, looks}
use Rattle.cart_board.specs.Board.{Row, has_length}
use Rattle.cart_board.specs.Boards.{boards}
use Rattle.movie_hints.specs.Places.{board_in, board_place, checkpoint_place, count_in, count_place, end_place, four_at}
use Rattle.movie_hints.specs.Places.{frame_before, frames_in, frames_place, header_end, input_place, length_in, length_place}
use Rattle.movie_hints.specs.Places.{two_at, version_in}
use Rattle.riot_map.specs.Cart.{is_cart_length}
use Rattle.movie_file.specs.Format.{magic, most_checkpoints, most_frames, row_of}
use Rattle.movie_file.specs.declared.error.MovieError.{MovieError}
use Rattle.movie_file.specs.declared.error.MovieError.TheVariants as errors
use Rattle.movie_hints.specs.declared.hint.Hint.{Hint}
use Rattle.movie_hints.specs.declared.hint.Hint.TheVariants as hints
use Rattle.movie_hints.specs.declared.look.Look.{Look}
use Rattle.movie_hints.specs.declared.mismatch.Expected.{Expected}
use Rattle.movie_hints.specs.declared.mismatch.Expected.TheVariants as expected
use Rattle.movie_hints.specs.declared.mismatch.Field.{Field}
use Rattle.movie_hints.specs.declared.mismatch.Field.TheVariants as fields
use Rattle.movie_hints.specs.declared.mismatch.Found.{Found}
use Rattle.movie_hints.specs.declared.mismatch.Found.TheVariants as found
use Rattle.movie_hints.specs.declared.mismatch.Mismatch.{Mismatch}
use Rattle.movie_hints.specs.declared.text_hint.TextHint.{TextHint}
use Rattle.movie_hints.specs.declared.text_hint.TextHint.TheVariants as texts

-- The first bytes are these.
abbrev pub Begins : List ℕ → List ℕ → Type 0
Begins bytes first = starts_with (λ a b. a == b) bytes first ≡ true

-- Whether one of the bytes is this.
abbrev pub has_byte : List ℕ → ℕ → Bool
has_byte bytes byte = list_any (λ a. a == byte) bytes

-- The frames of a movie of which the last ones have no checkpoint, if each checkpoint is so many
-- frames after the one before.
abbrev pub Unclaims : ℕ → ℕ → Option Hint → Type 0
Unclaims frames every None = frames % every ≡ 0
Unclaims frames every (Some (hints.Unclaimed first last)) = (first + frames % every ≡ last + 1) × (last ≡ frames) × (first ≤ last)
Unclaims frames every (Some other) = ⊥

-- A printed character of ASCII, a tab or a line end.
abbrev pub is_printed : ℕ → Bool
is_printed byte = (nat_le 0x20 byte && nat_lt byte 0x7F) || (nat_le 9 byte && nat_lt byte 14)

-- A text in UTF-8 whose characters of ASCII are these alone.
abbrev pub is_utf8_text : List ℕ → Bool
is_utf8_text bytes =
    not (length bytes == 0) && list_all (λ byte. is_printed byte || nat_le 0x80 byte) bytes && is_utf8 bytes

-- Two bytes at a place are one of these in UTF-16: of the lower byte first, or of the higher one.
abbrev pub is_low_first : List ℕ → ℕ → Bool
is_low_first bytes at = is_printed (slice_index bytes at) && (slice_index bytes (at + 1) == 0)

abbrev pub is_high_first : List ℕ → ℕ → Bool
is_high_first bytes at = (slice_index bytes at == 0) && is_printed (slice_index bytes (at + 1))

-- A text begins in UTF-16: with a byte order mark and one of these, or with four of them.
abbrev pub is_utf16 : List ℕ → Bool
is_utf16 bytes =
    (has_at bytes 0 (0xFF ∷ 0xFE ∷ []) && is_low_first bytes 2) || (has_at bytes 0 (0xFE ∷ 0xFF ∷ []) && is_high_first bytes 2)
    || (is_low_first bytes 0 && is_low_first bytes 2 && is_low_first bytes 4 && is_low_first bytes 6)
    || (is_high_first bytes 0 && is_high_first bytes 2 && is_high_first bytes 4 && is_high_first bytes 6)

abbrev pub is_text : List ℕ → Bool
is_text bytes = is_utf8_text bytes || is_utf16 bytes

-- The hint that a field isn't what was expected, the byte where it begins, and what it is.
abbrev pub of_field : Field → ℕ → Expected → Found → Hint
of_field field byte expected found =
    hints.Mismatch (record { field = field; byte = byte; expected = expected; found = found; extra = 0 })

-- The same hint, if it is one of a field with by how many bytes the file is longer than its header says.
abbrev pub with_extra : ℕ → Hint → Hint
with_extra extra (hints.Mismatch m) = hints.Mismatch (record m { extra = extra })
with_extra extra other = other

-- A hint is that of a field, of which this is said.
abbrev pub TellsOf : Hint → (Mismatch → Type 0) → Type 0
TellsOf (hints.Mismatch m) Says = Says m
TellsOf (hints.InHeader found header) Says = ⊥
TellsOf (hints.Missing missing said found) Says = ⊥
TellsOf (hints.Extra extra said found) Says = ⊥
TellsOf (hints.Looks look) Says = ⊥
TellsOf hints.Text Says = ⊥
TellsOf hints.LooksLikeCartridge Says = ⊥
TellsOf hints.LooksLikeMovie Says = ⊥
TellsOf (hints.NoCartridge found) Says = ⊥
TellsOf (hints.NoCartridgeOn found board lengths) Says = ⊥
TellsOf hints.Exchanged Says = ⊥
TellsOf hints.LooksLikeText Says = ⊥
TellsOf hints.LooksLikeBytes Says = ⊥
TellsOf hints.ByteOrderMark Says = ⊥
TellsOf hints.Utf16 Says = ⊥
TellsOf hints.CarriageReturns Says = ⊥
TellsOf (hints.OddLength extra found) Says = ⊥
TellsOf hints.NoFrames Says = ⊥
TellsOf (hints.ManyFrames frames) Says = ⊥
TellsOf (hints.ManyCheckpoints checkpoints every) Says = ⊥
TellsOf (hints.HasFrames frames) Says = ⊥
TellsOf (hints.Holds version frames) Says = ⊥
TellsOf (hints.Unclaimed first last) Says = ⊥

-- ---- what bytes look like

-- Nothing that is known by its first bytes.
abbrev pub LooksLikeNothing : List ℕ → Type 0
LooksLikeNothing bytes = find (is_like bytes) looks ≡ None

-- The first of what they look like.
abbrev pub TellsLook : List ℕ → Hint → Type 0
TellsLook bytes hint = (look : Look) × (hint ≡ hints.Looks look) × (find (is_like bytes) looks ≡ Some look)

-- The same of bytes that were to be none of a movie: they may be one's.
abbrev pub TellsMovie : List ℕ → Hint → Type 0
TellsMovie bytes hint = (hint ≡ hints.LooksLikeMovie) × Begins bytes magic

abbrev pub TellsText : List ℕ → Hint → Type 0
TellsText bytes hint = (hint ≡ hints.Text) × LooksLikeNothing bytes × (is_text bytes ≡ true)

abbrev pub TellsUtf16 : List ℕ → Hint → Type 0
TellsUtf16 bytes hint =
    (hint ≡ hints.Utf16)
    × (Begins bytes (0xFF ∷ 0xFE ∷ []) ⊎ Begins bytes (0xFE ∷ 0xFF ∷ []) ⊎ (is_utf16 bytes ≡ true))

-- Some cartridge has so many bytes, by the guide's rules or on a board.
abbrev pub is_some_length : ℕ → Bool
is_some_length bytes = is_cart_length bytes || list_any (λ row. has_length row bytes) boards

-- As many bytes as a cartridge has.
abbrev pub TellsExchanged : List ℕ → Hint → Type 0
TellsExchanged bytes hint = (hint ≡ hints.Exchanged) × (is_some_length (length bytes) ≡ true)

-- ---- why bytes are no movie

-- The file's length: shorter than a header; else by how much it is shorter or longer than its header
-- says.
abbrev pub TellsHeader : List ℕ → Hint → Type 0
TellsHeader bytes hint = (hint ≡ hints.InHeader (length bytes) (header_end bytes)) × (length bytes < header_end bytes)

abbrev pub TellsMissing : List ℕ → Hint → Type 0
TellsMissing bytes hint =
    (hint ≡ hints.Missing (end_place bytes - length bytes) (end_place bytes) (length bytes)) × (header_end bytes ≤ length bytes)
    × (length bytes < end_place bytes)

abbrev pub TellsExtra : List ℕ → Hint → Type 0
TellsExtra bytes hint =
    (hint ≡ hints.Extra (length bytes - end_place bytes) (end_place bytes) (length bytes)) × (header_end bytes ≤ length bytes)
    × (end_place bytes ≤ length bytes)

abbrev pub TellsLength : List ℕ → Hint → Type 0
TellsLength bytes hint = TellsHeader bytes hint ⊎ TellsMissing bytes hint ⊎ TellsExtra bytes hint

-- The first bytes: what the file looks like, else that it looks like text or has as many bytes as a
-- cartridge, else what they are.
abbrev pub TellsCartridge : List ℕ → Hint → Type 0
TellsCartridge bytes hint =
    (hint ≡ hints.LooksLikeCartridge) × LooksLikeNothing bytes × (is_text bytes ≡ false) × (is_some_length (length bytes) ≡ true)

abbrev pub TellsMark : List ℕ → Hint → Type 0
TellsMark bytes hint =
    (hint ≡ of_field fields.Magic 0 expected.Magic (found.Mark (four_at bytes 0))) × LooksLikeNothing bytes × (is_text bytes ≡ false)
    × (is_some_length (length bytes) ≡ false)

abbrev pub TellsBeginning : List ℕ → Hint → Type 0
TellsBeginning bytes hint = TellsLook bytes hint ⊎ TellsText bytes hint ⊎ TellsCartridge bytes hint ⊎ TellsMark bytes hint

-- The counts: too many checkpoints, if the frames are in their range, and else the frames.
abbrev pub has_many_checkpoints : List ℕ → Bool
has_many_checkpoints bytes =
    nat_le 1 (frames_in bytes) && nat_le (frames_in bytes) (most_frames (version_in bytes)) && nat_lt most_checkpoints (count_in bytes)

abbrev pub TellsCounts : List ℕ → Hint → Type 0
TellsCounts bytes hint =
    hint
    ≡ (if has_many_checkpoints bytes
    then of_field fields.Checkpoints (count_place bytes) expected.Checkpoints (found.TwoBytes (count_in bytes))
    else of_field fields.Frames (frames_place bytes) (expected.Frames (most_frames (version_in bytes))) (found.FourBytes (frames_in bytes)))

-- The length of a cartridge: in versions whose headers name its board those of that are told.
abbrev pub length_found : List ℕ → Found
length_found bytes =
    if (row_of (version_in bytes)).has_wide_length then found.FourBytes (length_in bytes) else found.TwoBytes (length_in bytes)

abbrev pub IsLengthOn : Option Row → Expected → Type 0
IsLengthOn None said = said ≡ expected.CartridgeLength
IsLengthOn (Some row) (expected.LengthOn board lengths) = (board.now ≡ row.name) × (lengths.now ≡ row.lengths)
IsLengthOn (Some row) other = ⊥

abbrev pub TellsLengthIn : List ℕ → Hint → Type 0
TellsLengthIn bytes hint =
    (said : Expected) × IsLengthOn (board_in bytes) said
    × (hint ≡ of_field fields.CartridgeLength (length_place bytes) said (length_found bytes))

-- A field has this name.
abbrev pub IsNamed : Field → List ℕ → Type 0
IsNamed (fields.Named name) text = name.now ≡ text
IsNamed fields.Magic text = ⊥
IsNamed fields.Version text = ⊥
IsNamed fields.Board text = ⊥
IsNamed fields.CartridgeLength text = ⊥
IsNamed fields.Frames text = ⊥
IsNamed fields.Checkpoints text = ⊥
IsNamed fields.FrameNumber text = ⊥

-- The input at this place: the switches, if one of their set bits is clear, and else the buttons.
abbrev pub IsOfSwitches : List ℕ → ℕ → Mismatch → Type 0
IsOfSwitches bytes at m =
    IsNamed m.field (codes "switches") × (m.byte ≡ at + 1) × (m.expected ≡ expected.SetBits) × (m.found ≡ found.Bits (slice_index bytes (at + 1)))
    × (bit_and (slice_index bytes (at + 1)) 0x34 ≢ 0x34)

abbrev pub IsOfButtons : List ℕ → ℕ → Mismatch → Type 0
IsOfButtons bytes at m =
    IsNamed m.field (codes "buttons") × (m.byte ≡ at + 2) × (m.expected ≡ expected.ButtonBits) × (m.found ≡ found.Bits (slice_index bytes (at + 2)))
    × (bit_and (slice_index bytes (at + 1)) 0x34 ≡ 0x34)

abbrev pub TellsInput : List ℕ → ℕ → Hint → Type 0
TellsInput bytes at hint = TellsOf hint (λ m. IsOfSwitches bytes at m ⊎ IsOfButtons bytes at m)

-- The number that a field is said to be, and that its bytes say so from this one on.
abbrev pub number_of : Found → ℕ
number_of (found.Byte n) = n
number_of (found.TwoBytes n) = n
number_of (found.FourBytes n) = n
number_of (found.Bits n) = n
number_of (found.Mark n) = n

abbrev pub StandsAt : List ℕ → ℕ → Found → Type 0
StandsAt bytes at (found.Byte n) = n ≡ slice_index bytes at
StandsAt bytes at (found.TwoBytes n) = n ≡ two_at bytes at
StandsAt bytes at (found.FourBytes n) = n ≡ four_at bytes at
StandsAt bytes at (found.Bits n) = n ≡ slice_index bytes at
StandsAt bytes at (found.Mark n) = n ≡ four_at bytes at

-- A number that stands here breaks a condition of state records.
abbrev pub Breaks : List ℕ → ℕ → Expected → ℕ → Type 0
Breaks bytes at (expected.NoBitOutside mask) n = bit_and n mask ≢ n
Breaks bytes at (expected.AtMost most) n = most < n
Breaks bytes at (expected.OneTo most) n = (n ≡ 0) ⊎ (most < n)
Breaks bytes at expected.NoLatches n = n ≢ 0
Breaks bytes at expected.OneBank n = n ≢ 0
Breaks bytes at (expected.Fit fit) n = is_unfit bytes at fit n ≡ true
Breaks bytes at expected.Magic n = ⊥
Breaks bytes at expected.Version n = ⊥
Breaks bytes at expected.Board n = ⊥
Breaks bytes at expected.CartridgeLength n = ⊥
Breaks bytes at (expected.LengthOn board lengths) n = ⊥
Breaks bytes at (expected.Frames most) n = ⊥
Breaks bytes at expected.Checkpoints n = ⊥
Breaks bytes at expected.SetBits n = ⊥
Breaks bytes at expected.ButtonBits n = ⊥
Breaks bytes at (expected.FrameAfter before last) n = ⊥

-- A field of a state record has a name.
abbrev pub HasName : Field → Type 0
HasName (fields.Named name) = Unit {0}
HasName fields.Magic = ⊥
HasName fields.Version = ⊥
HasName fields.Board = ⊥
HasName fields.CartridgeLength = ⊥
HasName fields.Frames = ⊥
HasName fields.Checkpoints = ⊥
HasName fields.FrameNumber = ⊥

-- A state: the number that is said to be in it is there, and isn't what was expected.
abbrev pub IsOfState : List ℕ → Mismatch → Type 0
IsOfState bytes m = HasName m.field × StandsAt bytes m.byte m.found × Breaks bytes m.byte m.expected (number_of m.found)

abbrev pub TellsState : List ℕ → Hint → Type 0
TellsState bytes hint = TellsOf hint (IsOfState bytes)

-- Which hints there are of each refusal, and of which field at which place. No file has 2 ^ 62 inputs.
abbrev pub TellsMistake : List ℕ → MovieError → Hint → Type 0
TellsMistake bytes errors.Short hint = TellsLook bytes hint ⊎ TellsLength bytes hint
TellsMistake bytes errors.BadMagic hint = TellsBeginning bytes hint
TellsMistake bytes errors.BadVersion hint = hint ≡ of_field fields.Version 4 expected.Version (found.TwoBytes (two_at bytes 4))
TellsMistake bytes errors.BadBoard hint =
    hint ≡ of_field fields.Board board_place expected.Board (found.Byte (slice_index bytes board_place))
TellsMistake bytes errors.BadCartSize hint = TellsLengthIn bytes hint
TellsMistake bytes errors.BadCounts hint = TellsCounts bytes hint
TellsMistake bytes (errors.BadState number) hint = TellsState bytes hint
TellsMistake bytes (errors.BadInput number) hint = number < 2 ^ 62 → TellsInput bytes (input_place bytes (number - 1)) hint
TellsMistake bytes (errors.BadOrder number) hint =
    hint
    ≡ of_field fields.FrameNumber (checkpoint_place bytes (number - 1)) (expected.FrameAfter (frame_before bytes number) (frames_in bytes))
    (found.FourBytes (four_at bytes (checkpoint_place bytes (number - 1))))
TellsMistake bytes errors.Trailing hint = TellsLength bytes hint

-- By how many bytes the file is longer than its header says, where the refusal lets that be known.
abbrev pub extra_of : List ℕ → MovieError → ℕ
extra_of bytes errors.BadMagic = 0
extra_of bytes errors.BadVersion = 0
extra_of bytes errors.BadBoard = 0
extra_of bytes other = length bytes - end_place bytes

-- A hint at a field says that too.
abbrev pub Tells : List ℕ → MovieError → Hint → Type 0
Tells bytes error hint = (mistake : Hint) × TellsMistake bytes error mistake × (hint ≡ with_extra (extra_of bytes error) mistake)

-- A hint at bytes that are refused so is one of those of the refusal. Each refusal is explained, but
-- for a state of which it isn't known which number is wrong.
abbrev pub Explains : List ℕ → MovieError → Option Hint → Type 0
Explains bytes error hint =
    IfSome hint (Tells bytes error) × (hint ≡ None → (k : ℕ) × (error ≡ errors.BadState k))

-- ---- why bytes are no ROM and no inputs

-- What else bytes look like that are no ROM or no inputs.
abbrev pub TellsOther : List ℕ → Hint → Type 0
TellsOther bytes hint = TellsMovie bytes hint ⊎ TellsLook bytes hint

-- Of a ROM: else how many bytes it has, and those of its board, if it is for one.
abbrev pub TellsSize : Option Row → ℕ → Hint → Type 0
TellsSize None bytes hint = hint ≡ hints.NoCartridge bytes
TellsSize (Some row) bytes (hints.NoCartridgeOn found board lengths) = (found ≡ bytes) × (board.now ≡ row.name) × (lengths.now ≡ row.lengths)
TellsSize (Some row) bytes other = ⊥

abbrev pub TellsRom : Option Row → List ℕ → Hint → Type 0
TellsRom board bytes hint = TellsOther bytes hint ⊎ (TellsSize board (length bytes) hint × LooksLikeNothing bytes)

-- Of inputs: else that they are a text that can be read, or another one,
abbrev pub TellsTexts : List ℕ → Hint → Type 0
TellsTexts bytes hint =
    ((hint ≡ hints.LooksLikeText) × IsOk (inputs_in bytes)) ⊎ TellsUtf16 bytes hint ⊎ TellsText bytes hint

-- and else by the refusal: that they are a ROM, how many bytes are too many, or which input is wrong.
abbrev pub TellsTriples : List ℕ → MovieError → Hint → Type 0
TellsTriples bytes errors.Short hint = TellsExchanged bytes hint ⊎ (hint ≡ hints.OddLength (length bytes % 3) (length bytes))
TellsTriples bytes (errors.BadInput number) hint = number < 2 ^ 62 → TellsInput bytes (3 * (number - 1)) hint
TellsTriples bytes errors.BadMagic hint = ⊥
TellsTriples bytes errors.BadVersion hint = ⊥
TellsTriples bytes errors.BadBoard hint = ⊥
TellsTriples bytes errors.BadCartSize hint = ⊥
TellsTriples bytes errors.BadCounts hint = ⊥
TellsTriples bytes (errors.BadState number) hint = ⊥
TellsTriples bytes (errors.BadOrder number) hint = ⊥
TellsTriples bytes errors.Trailing hint = ⊥

abbrev pub TellsInputs : List ℕ → MovieError → Hint → Type 0
TellsInputs bytes error hint = TellsOther bytes hint ⊎ TellsTexts bytes hint ⊎ TellsTriples bytes error hint

-- Of inputs as text, as a whole: that they are inputs as bytes, which can be read, or a ROM; or how the
-- text is stored.
abbrev pub TellsStorage : List ℕ → Hint → Type 0
TellsStorage bytes hint =
    ((hint ≡ hints.ByteOrderMark) × Begins bytes (0xEF ∷ 0xBB ∷ 0xBF ∷ [])) ⊎ TellsUtf16 bytes hint
    ⊎ ((hint ≡ hints.CarriageReturns) × (has_byte bytes 13 ≡ true) × (has_byte bytes 10 ≡ false))

abbrev pub TellsBytes : List ℕ → Hint → Type 0
TellsBytes bytes hint = (hint ≡ hints.LooksLikeBytes) × (inputs : List InputData) × SpellsInputs bytes inputs

abbrev pub TellsWhole : List ℕ → Hint → Type 0
TellsWhole bytes hint = TellsOther bytes hint ⊎ TellsBytes bytes hint ⊎ TellsExchanged bytes hint ⊎ TellsStorage bytes hint

-- The line of this number, from 1, is the first bad one of a text, and this is what is wrong with it.
abbrev pub IsBadLine : List ℕ → ℕ → Mistake → Type 0
IsBadLine text line mistake =
    (inputs_in text ≡ Err line) × IfSome (slice_get (lines_of text) (line - 1)) (λ bytes. IsMistake (words_of bytes) mistake)

-- A word is the number of a frame, as lines of inputs can begin: digits and a colon.
abbrev pub IsFrameNumber : List ℕ → Type 0
IsFrameNumber word =
    (digits : List ℕ) × (word ≡ digits ++ 58 ∷ []) × (digits ≢ []) × (list_all is_ascii_digit digits ≡ true)

-- The same of a hint at a text. A name is said to be meant if one is near to the word.
abbrev pub IsTrueOfText : List ℕ → TextHint → Type 0
IsTrueOfText text (texts.Whole hint) = TellsWhole text hint
IsTrueOfText text (texts.NoCount line word) = IsBadLine text line (NoCount word.bytes)
IsTrueOfText text (texts.FrameNumber line word) = IsBadLine text line (NoCount word.bytes) × IsFrameNumber word.bytes.now
IsTrueOfText text (texts.NoName line word) = IsBadLine text line (NoName word.bytes) × IsMeant word.bytes.now None
IsTrueOfText text (texts.Meant line word name) = IsBadLine text line (NoName word.bytes) × IsMeant word.bytes.now (Some name)
IsTrueOfText text (texts.TooManyFrames line) = IsBadLine text line TooManyFrames
