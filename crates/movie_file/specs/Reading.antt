-- Reading a movie, with the first refusal that is met, in the order of the format: the fields of
-- the header front to back, the length of the file, the start state, the inputs, the checkpoints,
-- the end. This project's own.
use Rattle.std.specs.Prelude.{ℕ, zero, suc, ◌+◌, ◌*◌, Bool, ◌&&◌, List, [], ◌∷◌, length, take, drop, slice_index}
use Rattle.std.specs.Prelude.{Option, Some, None, Result, Ok, Err, nat_lt, nat_le, ◌==◌, if◌then◌else◌}
use Rattle.std.specs.Option.{ok_or}
use Rattle.std.specs.Int.{Width, w16, w32, byte_len, from_be_bytes}
use Rattle.cart_board.specs.Board.{Row}
use Rattle.movie_machine.specs.Carts.{board_of, cart_on}
use Rattle.movie_machine.specs.declared.cart.Cart.{Cart}
use Rattle.movie_machine.specs.declared.state.State.{State}
use Rattle.vcs_machine.specs.Inputs.{InputData, is_input}
use Rattle.movie_file.specs.declared.checkpoint.Checkpoint.{Checkpoint}
use Rattle.movie_file.specs.declared.error.MovieError.{MovieError}
use Rattle.movie_file.specs.declared.error.MovieError.TheVariants.{Short, BadMagic, BadVersion, BadBoard}
use Rattle.movie_file.specs.declared.error.MovieError.TheVariants.{BadCartSize, BadCounts, BadState}
use Rattle.movie_file.specs.declared.error.MovieError.TheVariants.{BadInput, BadOrder, Trailing}
use Rattle.movie_file.specs.Format.{magic, is_version, has_board, board_of_code, length_width, takes_cart}
use Rattle.movie_file.specs.Format.{most_frames, most_checkpoints, record_length, input_length, checkpoint_length}
use Rattle.movie_file.specs.Movie.{MovieData}
use Rattle.movie_file.specs.Record.{movie_state_at}
use Rattle.movie_file.specs.Sizes.{SizesData}

-- one step after another, up to the first refusal
infixl 10 ◌>>=◌
abbrev pub ◌>>=◌ : {A B : Type 0} → Result A MovieError → (A → Result B MovieError) → Result B MovieError
(Ok x) >>= f = f x
(Err e) >>= f = Err e

-- a number and the bytes after it
abbrev pub number_at : Width → List ℕ → Result (ℕ × List ℕ) MovieError
number_at w bytes =
    if nat_lt (length bytes) (byte_len w) then Err Short
    else Ok (from_be_bytes w (take (byte_len w) bytes), drop (byte_len w) bytes)

-- a byte and the bytes after it
abbrev pub byte_at : List ℕ → Result (ℕ × List ℕ) MovieError
byte_at [] = Err Short
byte_at (byte ∷ rest) = Ok (byte, rest)

-- a number that passes a test, and the bytes after it
unfoldable pub tested_at : Width → (ℕ → Bool) → MovieError → List ℕ → Result (ℕ × List ℕ) MovieError
tested_at w test refusal bytes = do
  n ← number_at w bytes
  if test n.0 then Ok n else Err refusal

-- the board of a cartridge, if the headers of the version name it, and the bytes after it
unfoldable pub board_at : ℕ → List ℕ → Result (Option Row × List ℕ) MovieError
board_at version bytes =
    if has_board version
    then (byte_at bytes >>= λ code. ok_or (board_of_code code.0) BadBoard >>= λ row. Ok (Some row, code.1))
    else Ok (None, bytes)

-- frames and checkpoints are one field
unfoldable pub counts_at : ℕ → List ℕ → Result (ℕ × ℕ × List ℕ) MovieError
counts_at version bytes = do
  n ← number_at w32 bytes
  m ← number_at w16 n.1
  if nat_le 1 n.0 && nat_le n.0 (most_frames version) && nat_le m.0 most_checkpoints then Ok (n.0, m.0, m.1) else Err BadCounts

-- the bytes after a header
abbrev pub body_length : SizesData → ℕ
body_length h =
    h.cartridge_length + record_length h.version h.board + input_length * h.frames
    + checkpoint_length h.version h.board * h.checkpoints

-- bytes of which there are enough after such a header
abbrev pub enough_of : SizesData → List ℕ → Result (SizesData × List ℕ) MovieError
enough_of h bytes = if nat_lt (length bytes) (body_length h) then Err Short else Ok (h, bytes)

-- the header, and the bytes after it, of which there are enough
unfoldable pub sizes_at : List ℕ → Result (SizesData × List ℕ) MovieError
sizes_at bytes = do
  a ← tested_at w32 (λ n. n == from_be_bytes w32 magic) BadMagic bytes
  v ← tested_at w16 is_version BadVersion a.1
  b ← board_at v.0 v.1
  l ← tested_at (length_width v.0) (takes_cart v.0 b.0) BadCartSize b.1
  c ← counts_at v.0 l.1
  enough_of (record { version = v.0; board = b.0; cartridge_length = l.0; frames = c.0; checkpoints = c.1 }) c.2

abbrev pub input_data_at : List ℕ → InputData
input_data_at bytes = record { swcha = slice_index bytes 0; swchb = slice_index bytes 1; buttons = slice_index bytes 2 }

-- the input of number k
unfoldable pub input_at : ℕ → List ℕ → Result InputData MovieError
input_at k bytes = if is_input (input_data_at bytes) then Ok (input_data_at bytes) else Err (BadInput k)

-- so many inputs, the first of number k, and the bytes after them
unfoldable pub inputs_at : ℕ → ℕ → List ℕ → Result (List InputData × List ℕ) MovieError
inputs_at zero k bytes = Ok ([], bytes)
inputs_at (suc n) k bytes = do
  first ← input_at k bytes
  others ← inputs_at n (suc k) (drop input_length bytes)
  Ok (first ∷ others.0, others.1)

abbrev pub frame_at : List ℕ → ℕ
frame_at bytes = from_be_bytes w32 (take 4 bytes)

-- the state at the head of the bytes, in a movie of this version with this cartridge
abbrev pub head_state_at : ℕ → Cart → List ℕ → Option State
head_state_at version cartridge bytes = movie_state_at version cartridge (take (record_length version (board_of cartridge)) bytes)

-- the checkpoint of number j: its frame is greater than the last one and one of the movie's, and
-- its state is one of the cartridge
unfoldable pub claimed_checkpoint : ℕ → Cart → ℕ → ℕ → ℕ → List ℕ → Result Checkpoint MovieError
claimed_checkpoint version cartridge frames j last bytes =
    if nat_lt last (frame_at bytes) && nat_le (frame_at bytes) frames
    then (ok_or (head_state_at version cartridge (drop 4 bytes)) (BadState j) >>= λ s. Ok (record { frame = frame_at bytes; state = s }))
    else Err (BadOrder j)

-- so many checkpoints, the first of number j, and the bytes after them
unfoldable pub checkpoints_at : ℕ → Cart → ℕ → ℕ → ℕ → ℕ → List ℕ → Result (List Checkpoint × List ℕ) MovieError
checkpoints_at version cartridge frames zero j last bytes = Ok ([], bytes)
checkpoints_at version cartridge frames (suc m) j last bytes = do
  first ← claimed_checkpoint version cartridge frames j last bytes
  others ← checkpoints_at version cartridge frames m (suc j) first.frame (drop (checkpoint_length version (board_of cartridge)) bytes)
  Ok (first ∷ others.0, others.1)

-- what stands after the cartridge, to the end
unfoldable pub rest_at : SizesData → Cart → List ℕ → Result MovieData MovieError
rest_at h cartridge bytes = do
  start ← ok_or (head_state_at h.version cartridge bytes) (BadState 0)
  inputs ← inputs_at h.frames 1 (drop (record_length h.version h.board) bytes)
  checkpoints ← checkpoints_at h.version cartridge h.frames h.checkpoints 1 0 inputs.1
  if length checkpoints.1 == 0
      then Ok (record { version = h.version; cartridge = cartridge; start = start; inputs = inputs.0; checkpoints = checkpoints.0 })
      else Err Trailing

-- what stands after the header, to the end
abbrev pub body_at : SizesData → List ℕ → Result MovieData MovieError
body_at h bytes = rest_at h (cart_on h.board (take h.cartridge_length bytes)) (drop h.cartridge_length bytes)

-- the movie that the bytes are, or their refusal
unfoldable pub movie_at : List ℕ → Result MovieData MovieError
movie_at bytes = do
  h ← sizes_at bytes
  body_at h.0 h.1
