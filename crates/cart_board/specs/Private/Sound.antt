-- What is so of each row of the table with each of its lengths, and can be computed from it: hot
-- spots select banks that there are, and addresses lead to bytes that there are. This project's
-- own.
use Rattle.std.specs.Prelude.{ℕ, Option, Some, None, ◌+◌, ◌-◌, ◌*◌, Bool, true, ◌&&◌, length, nat_le, nat_lt}
use Rattle.std.specs.List.{list_all}
use Rattle.cart_board.specs.Board.{Row, last_bank}
use Rattle.cart_board.specs.Access.{size_of}
use Rattle.cart_board.specs.declared.bank.BankByte.TheVariants.{First, Second}
use Rattle.cart_board.specs.declared.hot_spot.HotSpot.{HotSpot}
use Rattle.cart_board.specs.declared.hot_spot.Selects.{Selects}
use Rattle.cart_board.specs.declared.hot_spot.Selects.TheVariants.{Bank, Next, Written}
use Rattle.cart_board.specs.declared.window.Kind.{Kind}
use Rattle.cart_board.specs.declared.window.Kind.TheVariants.{Rom}
use Rattle.cart_board.specs.declared.window.Slice.{Slice}
use Rattle.cart_board.specs.declared.window.Start.{Start}
use Rattle.cart_board.specs.declared.window.Start.TheVariants as start
use Rattle.cart_board.specs.declared.window.Window.{Window}

-- where a slice of this length begins that begins last
abbrev pub last_start : Row → ℕ → ℕ → Start → ℕ
last_start row bytes size (start.At offset) = offset
last_start row bytes size (start.Bank first byte) = first + size * last_bank row bytes byte
last_start row bytes size start.Last = bytes - size

abbrev pub is_slice_sound : Row → ℕ → Kind → Slice → Bool
is_slice_sound row bytes kind slice = nat_lt (last_start row bytes (slice.mask + 1) slice.start + slice.mask) (size_of row bytes kind)

abbrev pub is_window_sound : Row → ℕ → Window → Bool
is_window_sound row bytes window = is_slice_sound row bytes window.kind window.slice

abbrev pub selects_at_most : Selects → ℕ → Bool
selects_at_most (Bank number) last = nat_le number last
selects_at_most Next last = true
selects_at_most Written last = true

abbrev pub is_spot_sound : Row → ℕ → HotSpot → Bool
is_spot_sound row bytes spot = selects_at_most spot.selects (last_bank row bytes spot.byte)

abbrev pub is_trigger_sound : Row → ℕ → Option ℕ → Bool
is_trigger_sound row bytes None = true
is_trigger_sound row bytes (Some trigger) = nat_le 1 (last_bank row bytes First) && nat_le 1 (last_bank row bytes Second)

abbrev pub is_sound : Row → ℕ → Bool
is_sound row bytes =
    list_all (is_spot_sound row bytes) row.hot_spots
    && (is_trigger_sound row bytes row.trigger
    && (list_all (is_window_sound row bytes) row.windows
    && (is_slice_sound row bytes Rom row.rest
    && nat_le (length row.banks) 3)))
