-- Where the parts of a movie file stand, by what its header says: the version at byte 4; then the board
-- of the cartridge, if the version names one, its length, the frames and the checkpoints. Places are
-- counted from 0. This project's own.
use Rattle.std.specs.Prelude.{ℕ, ◌+◌, ◌*◌, ◌-◌, List, [], ◌∷◌, Option, None, nat_le, slice_index, if◌then◌else◌}
use Rattle.std.specs.Int.{w16, w32, from_be_bytes}
use Rattle.cart_board.specs.Board.{Row}
use Rattle.movie_file.specs.Format.{board_of_code, checkpoint_length, has_board, header_length, input_length}
use Rattle.movie_file.specs.Format.{record_length, row_of}

-- The number of two bytes at a place, and of four. The first weighs most, and each after the last
-- byte is 0.
abbrev pub two_at : List ℕ → ℕ → ℕ
two_at bytes at = from_be_bytes w16 (slice_index bytes at ∷ slice_index bytes (at + 1) ∷ [])

abbrev pub four_at : List ℕ → ℕ → ℕ
four_at bytes at =
    from_be_bytes w32 (slice_index bytes at ∷ slice_index bytes (at + 1) ∷ slice_index bytes (at + 2)
    ∷ slice_index bytes (at + 3) ∷ [])

-- The version, and the bytes of its header.
abbrev pub version_in : List ℕ → ℕ
version_in bytes = two_at bytes 4

abbrev pub header_end : List ℕ → ℕ
header_end bytes = header_length (version_in bytes)

-- The board: none where the version names none, or where no board has its code.
abbrev pub board_place : ℕ
board_place = 6

abbrev pub board_in : List ℕ → Option Row
board_in bytes = if has_board (version_in bytes) then board_of_code (slice_index bytes board_place) else None

-- The length of the cartridge.
abbrev pub length_place : List ℕ → ℕ
length_place bytes = if has_board (version_in bytes) then board_place + 1 else board_place

abbrev pub length_in : List ℕ → ℕ
length_in bytes =
    if (row_of (version_in bytes)).has_wide_length then four_at bytes (length_place bytes) else two_at bytes (length_place bytes)

-- The frames and the checkpoints, the last fields of a header.
abbrev pub frames_place : List ℕ → ℕ
frames_place bytes = header_end bytes - 6

abbrev pub frames_in : List ℕ → ℕ
frames_in bytes = four_at bytes (frames_place bytes)

abbrev pub count_place : List ℕ → ℕ
count_place bytes = header_end bytes - 2

abbrev pub count_in : List ℕ → ℕ
count_in bytes = two_at bytes (count_place bytes)

-- After a header, the cartridge, the start state and so many inputs: the next input,
abbrev pub input_place : List ℕ → ℕ → ℕ
input_place bytes before =
    header_end bytes + length_in bytes + record_length (version_in bytes) (board_in bytes) + input_length * before

-- and after so many checkpoints, too: the next checkpoint.
abbrev pub checkpoint_place : List ℕ → ℕ → ℕ
checkpoint_place bytes before =
    input_place bytes (frames_in bytes) + checkpoint_length (version_in bytes) (board_in bytes) * before

-- Where the file ends.
abbrev pub end_place : List ℕ → ℕ
end_place bytes = checkpoint_place bytes (count_in bytes)

-- The frame of the checkpoint before the one of this number, from 1; before the first one it is 0.
abbrev pub frame_before : List ℕ → ℕ → ℕ
frame_before bytes number = if nat_le number 1 then 0 else four_at bytes (checkpoint_place bytes (number - 2))
