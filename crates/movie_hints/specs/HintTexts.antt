-- What a hint says, in words: the second line of a refusal, after the name of a file. This project's
-- own.
use Rattle.std.specs.Prelude.{ℕ, List, [], ◌∷◌, ◌++◌, ◌/◌, ◌%◌, ◌==◌, codes, if◌then◌else◌}
use Rattle.std.specs.Fmt.{decimal}
use Rattle.vcs_machine.specs.Faults.{hex2, hex4}
use Rattle.movie_hints.specs.declared.fit.Fit.{Fit}
use Rattle.movie_hints.specs.declared.fit.Fit.TheVariants.{NoBit, NoChange, Change, NotMirrored, NoPlayfieldBit, NoPulses}
use Rattle.movie_hints.specs.declared.fit.Fit.TheVariants.{NotLonger, NoOwnSize, NotSeen}
use Rattle.movie_hints.specs.declared.hint.Hint.{Hint}
use Rattle.movie_hints.specs.declared.hint.Hint.TheVariants as hints
use Rattle.movie_hints.specs.declared.look.Look.{Look}
use Rattle.movie_hints.specs.declared.look.Look.TheVariants.{Gzip, Xz, Zstd, Bzip2, SevenZip, Rar, BizHawkMovie}
use Rattle.movie_hints.specs.declared.look.Look.TheVariants.{Zip, Tar, Png, Gif, Jpeg, MameInputs, InputLog, SmallMagic, Stripped}
use Rattle.movie_hints.specs.declared.mismatch.Expected.{Expected}
use Rattle.movie_hints.specs.declared.mismatch.Expected.TheVariants as expected
use Rattle.movie_hints.specs.declared.mismatch.Field.{Field}
use Rattle.movie_hints.specs.declared.mismatch.Field.TheVariants as fields
use Rattle.movie_hints.specs.declared.mismatch.Found.{Found}
use Rattle.movie_hints.specs.declared.mismatch.Found.TheVariants as found
use Rattle.movie_hints.specs.declared.mismatch.Mismatch.{Mismatch}

-- The name of a field.
abbrev pub field_text : Field → List ℕ
field_text fields.Magic = codes "magic"
field_text fields.Version = codes "version"
field_text fields.Board = codes "board"
field_text fields.CartridgeLength = codes "cartridge length"
field_text fields.Frames = codes "frames"
field_text fields.Checkpoints = codes "checkpoints"
field_text fields.FrameNumber = codes "frame number"
field_text (fields.Named name) = name.now

-- The field and its byte. Fields of a header and the frame of a checkpoint go by the byte alone.
abbrev pub place_text : Field → ℕ → List ℕ
place_text (fields.Named name) byte = name.now ++ (codes " at byte " ++ decimal byte)
place_text other byte = codes "byte " ++ decimal byte

-- Lengths, with "or" before the last.
abbrev pub more_lengths : List ℕ → List ℕ
more_lengths [] = []
more_lengths (n ∷ []) = codes " or " ++ decimal n
more_lengths (n ∷ m ∷ ns) = codes ", " ++ (decimal n ++ more_lengths (m ∷ ns))

abbrev pub lengths_text : List ℕ → List ℕ
lengths_text [] = []
lengths_text (n ∷ ns) = decimal n ++ more_lengths ns

-- What was expected of a number of a state by the chip's rules, and for which others beside it.
abbrev pub fit_text : Fit → List ℕ
fit_text NoBit = codes "0, as its copy is below 7"
fit_text NoChange = codes "0, as the width is NUSIZ's"
fit_text Change = codes "1 to 5, as the width isn't NUSIZ's"
fit_text NotMirrored = codes "0, as the line cycle isn't 50 to 74"
fit_text NoPlayfieldBit = codes "0, as the line cycle is below 23 or a multiple of 4"
fit_text NoPulses = codes "0, as nothing moves"
fit_text NotLonger = codes "0, as the line cycle is 0 or 26 to 74"
fit_text NoOwnSize = codes "0, as its copy is below 5"
fit_text NotSeen = codes "0, as the line cycle is 23 or more and longer isn't 1"

-- What was expected of a field.
abbrev pub expected_text : Expected → List ℕ
expected_text expected.Magic = codes "4132364D"
expected_text expected.Version = codes "version 1, 2 or 3"
expected_text expected.Board = codes "the code of a board, 0 to 17"
expected_text expected.CartridgeLength = codes "a cartridge of 2048 or 4096 bytes, in version 2 also 8192"
expected_text (expected.LengthOn board lengths) =
    codes "a cartridge of board " ++ (board.now ++ (codes ", of " ++ (lengths_text lengths.now ++ codes " bytes")))
expected_text (expected.Frames most) = codes "1 to " ++ (decimal most ++ codes " frames")
expected_text expected.Checkpoints = codes "at most 4095 checkpoints"
expected_text (expected.NoBitOutside mask) = codes "no bit outside of " ++ hex2 mask
expected_text (expected.AtMost most) = codes "at most " ++ decimal most
expected_text (expected.OneTo most) = codes "1 to " ++ decimal most
expected_text expected.NoLatches = codes "0, as VBLANK has no bit 6"
expected_text expected.OneBank = codes "0, as the cartridge has one bank"
expected_text (expected.Fit fit) = fit_text fit
expected_text expected.SetBits = codes "bits 2, 4 and 5"
expected_text expected.ButtonBits = codes "no bit outside of 03"
expected_text (expected.FrameAfter before last) =
    codes "a frame after " ++ (decimal before ++ (codes " and up to " ++ decimal last))

-- What it is: a number in decimal digits, bits as two or eight hexadecimal ones.
abbrev pub found_text : Found → List ℕ
found_text (found.Byte n) = decimal n
found_text (found.TwoBytes n) = decimal n
found_text (found.FourBytes n) = decimal n
found_text (found.Bits n) = hex2 n
found_text (found.Mark n) = hex4 (n / 0x10000) ++ hex4 (n % 0x10000)

-- By how many bytes the file is longer than its header says, if it is.
abbrev pub extra_text : ℕ → List ℕ
extra_text extra =
    if extra == 0 then [] else codes "; the file is " ++ (decimal extra ++ codes " bytes longer than its header says")

abbrev pub mismatch_text : Mismatch → List ℕ
mismatch_text m =
    place_text m.field m.byte
    ++ (codes ": expected " ++ (expected_text m.expected ++ (codes ", found " ++ (found_text m.found ++ extra_text m.extra))))

-- What bytes look like.
abbrev pub look_text : Look → List ℕ
look_text Gzip = codes "a gzip file: unpack it first"
look_text Xz = codes "an xz file: unpack it first"
look_text Zstd = codes "a zstd file: unpack it first"
look_text Bzip2 = codes "a bzip2 file: unpack it first"
look_text SevenZip = codes "a 7z file: unpack it first"
look_text Rar = codes "a RAR file: unpack it first"
look_text BizHawkMovie = codes "a BizHawk movie: see vcs_import"
look_text Zip = codes "a zip file: unpack it first"
look_text Tar = codes "a tar file: unpack it first"
look_text Png = codes "a PNG image"
look_text Gif = codes "a GIF image"
look_text Jpeg = codes "a JPEG image"
look_text MameInputs = codes "a MAME input file"
look_text InputLog = codes "an input log of BizHawk: see vcs_import"
look_text SmallMagic = codes "a movie, but for small letters at byte 0: expected A26M"
look_text Stripped = codes "a movie without its cartridge: vcs_share join puts it back"

-- The whole of a hint.
abbrev pub hint_text : Hint → List ℕ
hint_text (hints.InHeader length header) = codes "has " ++ (decimal length ++ (codes " bytes, and a header has " ++ decimal header))
hint_text (hints.Missing missing said length) =
    decimal missing ++ (codes " bytes too few: its header says " ++ (decimal said ++ (codes ", and it has " ++ decimal length)))
hint_text (hints.Extra extra said length) =
    decimal extra ++ (codes " bytes too many: its header says " ++ (decimal said ++ (codes ", and it has " ++ decimal length)))
hint_text (hints.Mismatch mismatch) = mismatch_text mismatch
hint_text (hints.Looks look) = codes "looks like " ++ look_text look
hint_text hints.Text = codes "looks like text"
hint_text hints.LooksLikeCartridge = codes "looks like a cartridge, of which make makes a movie"
hint_text hints.LooksLikeMovie = codes "looks like a movie"
hint_text (hints.NoCartridge length) = codes "has " ++ (decimal length ++ codes " bytes, and by the guide's rules a cartridge has 2048, 4096 or 8192")
hint_text (hints.NoCartridgeOn length board lengths) =
    codes "has " ++ (decimal length ++ (codes " bytes, and a cartridge of board " ++ (board.now ++ (codes " has " ++ lengths_text lengths.now))))
hint_text hints.Exchanged = codes "has as many bytes as a cartridge, which comes first: make ROM INPUTS"
hint_text hints.LooksLikeText = codes "looks like text, which is read with --text"
hint_text hints.LooksLikeBytes = codes "looks like bytes, which are read without --text"
hint_text hints.ByteOrderMark = codes "begins with a byte order mark: save it without one"
hint_text hints.Utf16 = codes "looks like UTF-16: save it as UTF-8"
hint_text hints.CarriageReturns = codes "has carriage returns alone as line ends: save it with line feeds"
hint_text (hints.OddLength extra length) =
    decimal extra ++ (codes " bytes too many: has " ++ (decimal length ++ codes ", and an input has 3"))
hint_text hints.NoFrames = codes "no frames"
hint_text (hints.ManyFrames frames) = decimal frames ++ codes " frames, at most 262143"
hint_text (hints.ManyCheckpoints checkpoints every) =
    decimal checkpoints ++ (codes " checkpoints, at most 4095: --every " ++ (decimal every ++ codes " or more"))
hint_text (hints.HasFrames frames) = codes "has " ++ (decimal frames ++ codes " frames")
hint_text (hints.Holds version frames) = codes "has version " ++ (decimal version ++ (codes " and " ++ (decimal frames ++ codes " frames")))
hint_text (hints.Unclaimed first last) = codes "no checkpoint after frames " ++ (decimal first ++ (codes " to " ++ decimal last))
