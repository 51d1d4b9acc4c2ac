-- The numbers that the bytes of a record spell, part by part, and the state that they spell. That a
-- state's record spells its numbers is a contract of `read_state`. This project's own.
use Rattle.std.specs.Prelude.{ℕ, List, [], ◌∷◌, ◌+◌, ◌-◌, ◌*◌, ◌==◌, ◌&&◌, length, take, drop, slice_index, bytes_eq}
use Rattle.std.specs.Prelude.{Bool, false, Option, Some, None, if◌then◌else◌}
use Rattle.std.specs.Int.{w16, from_be_bytes}
use Rattle.record_table.specs.Numbers.{bytes_of, table_length}
use Rattle.cart_board.specs.Board.{Row}
use Rattle.cart_board.specs.CartState.{Cartridge}
use Rattle.cart_board.specs.Record.{banks_in, ram_in, record_length as cart_record_length}
use Rattle.mos_cpu.specs.Registers.{Registers, processor_numbers}
use Rattle.riot_chip.specs.Riot.{riot_numbers}
use Rattle.riot_chip.specs.declared.fields.RiotFields.{RiotFields}
use Rattle.tia_chip.specs.Bits.{has_bit}
use Rattle.tia_chip.specs.Numbers.{tia_numbers}
use Rattle.tia_chip.specs.declared.ball.Ball.{Ball}
use Rattle.tia_chip.specs.declared.missile.Missile.{Missile}
use Rattle.tia_chip.specs.declared.missile.MissileCopy.{MissileCopy}
use Rattle.tia_chip.specs.declared.player.Player.{Player}
use Rattle.tia_chip.specs.declared.player.PlayerCopy.{PlayerCopy}
use Rattle.tia_chip.specs.declared.state.TiaState.{TiaState}
use Rattle.chip_machine.specs.States.{StateData, is_of, is_state}
use Rattle.chip_machine.specs.declared.fields.StateFields.{StateFields}

abbrev pub cpu_at : List ℕ → Registers
cpu_at b = record {
  a = slice_index b 0;
  x = slice_index b 1;
  y = slice_index b 2;
  s = slice_index b 3;
  p = slice_index b 4;
  pc = from_be_bytes w16 (slice_index b 5 ∷ slice_index b 6 ∷ []);
}

-- a RIOT of its memory and of the bytes after that
abbrev pub riot_with : List ℕ → List ℕ → RiotFields
riot_with ram b = record {
  ram = ram;
  output_a = slice_index b 0;
  direction_a = slice_index b 1;
  output_b = slice_index b 2;
  direction_b = slice_index b 3;
  timer = record {
    value = slice_index b 4;
    part = from_be_bytes w16 (slice_index b 5 ∷ slice_index b 6 ∷ []);
    interval = slice_index b 7;
    flag = slice_index b 8;
  };
}

abbrev pub riot_at : List ℕ → RiotFields
riot_at b = riot_with (take 128 b) (drop 128 b)

-- ---- a TIA

-- the sizes 1, 2, 4, 8 and 0 by their numbers
abbrev pub size_at : ℕ → ℕ
size_at number = if number == 0 then 1 else if number == 1 then 2 else if number == 2 then 4 else if number == 3 then 8 else 0

-- a copy by its number: none by 0
abbrev pub player_copy_at : ℕ → ℕ → Option PlayerCopy
player_copy_at number bit = if number == 0 then None else Some (record { place = number - 1; bit = bit })

abbrev pub missile_copy_at : ℕ → ℕ → Option MissileCopy
missile_copy_at number size = if number == 0 then None else Some (record { place = number - 1; own_size = size_at size })

abbrev pub place_at : ℕ → Option ℕ
place_at number = if number == 0 then None else Some (number - 1)

-- the objects of a TIA's bytes; players and missiles by their numbers
abbrev pub player_at : List ℕ → ℕ → Bool → Bool → Player
player_at b n moves seen = record {
  nusiz = slice_index b (2 + n);
  refp = slice_index b (9 + n);
  grp_new = slice_index b (14 + 2 * n);
  grp_old = slice_index b (15 + 2 * n);
  vdelp = slice_index b (27 + n);
  hmp = slice_index b (22 + n);
  counter = slice_index b (32 + n);
  copy = player_copy_at (slice_index b (37 + n)) (slice_index b (39 + n));
  width = size_at (slice_index b (41 + n));
  change = slice_index b (43 + n);
  moves = moves;
  seen = seen;
}

abbrev pub missile_at : List ℕ → ℕ → Bool → Bool → Missile
missile_at b n moves seen = record {
  enam = slice_index b (18 + n);
  resmp = slice_index b (30 + n);
  hmm = slice_index b (24 + n);
  counter = slice_index b (34 + n);
  copy = missile_copy_at (slice_index b (45 + n)) (slice_index b (57 + n));
  moves = moves;
  seen = seen;
}

abbrev pub ball_at : List ℕ → Bool → Bool → Ball
ball_at b moves seen = record {
  enabl_new = slice_index b 20;
  enabl_old = slice_index b 21;
  vdelbl = slice_index b 29;
  hmbl = slice_index b 26;
  counter = slice_index b 36;
  place = place_at (slice_index b 47);
  own_size = size_at (slice_index b 59);
  phase = slice_index b 60;
  moves = moves;
  seen = seen;
}

-- A TIA on which no write is on its way, whose pixels are put where the line's clock is.
abbrev pub tia_at : List ℕ → TiaState
tia_at b =
    let moves = has_bit (slice_index b 52) in
    let seen = has_bit (slice_index b 61) in
    record {
      vsync = slice_index b 0;
      vblank = slice_index b 1;
      colup0 = slice_index b 4;
      colup1 = slice_index b 5;
      colupf = slice_index b 6;
      colubk = slice_index b 7;
      ctrlpf = slice_index b 8;
      pf0 = slice_index b 11;
      pf1 = slice_index b 12;
      pf2 = slice_index b 13;
      player0 = player_at b 0 (moves 0) (seen 0);
      player1 = player_at b 1 (moves 1) (seen 1);
      missile0 = missile_at b 0 (moves 2) (seen 2);
      missile1 = missile_at b 1 (moves 3) (seen 3);
      ball = ball_at b (moves 4) (seen 4);
      mirrored = slice_index b 48 == 1;
      playfield = slice_index b 49 == 1;
      collisions = from_be_bytes w16 (slice_index b 50 ∷ slice_index b 51 ∷ []);
      pulses = slice_index b 53;
      latches = slice_index b 54;
      clock = 3 * slice_index b 55;
      beam = 3 * slice_index b 55;
      longer = slice_index b 56 == 1;
      waiting = None;
      hmove = None;
      changed = false;
      line = 0;
      fire0 = false;
      fire1 = false;
    }

-- The bytes of a TIA are those of the numbers that they spell: one that the others leave no room for, as
-- the bit of a copy that there isn't, is 0.
abbrev pub spells_tia : List ℕ → Bool
spells_tia b = bytes_eq (bytes_of tia_numbers (tia_at b)) b

-- ---- the parts of a record

abbrev pub cpu_length : ℕ
cpu_length = table_length processor_numbers

-- a RIOT's memory, and its other numbers
abbrev pub riot_length : ℕ
riot_length = 128 + table_length riot_numbers

abbrev pub tia_length : ℕ
tia_length = table_length tia_numbers

-- where the TIA and the cartridge begin
abbrev pub tia_place : ℕ
tia_place = cpu_length + riot_length

abbrev pub cart_place : ℕ
cart_place = tia_place + tia_length

abbrev pub cpu_part : List ℕ → List ℕ
cpu_part bytes = take cpu_length bytes

abbrev pub riot_part : List ℕ → List ℕ
riot_part bytes = take riot_length (drop cpu_length bytes)

abbrev pub tia_part : List ℕ → List ℕ
tia_part bytes = take tia_length (drop tia_place bytes)

abbrev pub cart_part : List ℕ → List ℕ
cart_part bytes = drop cart_place bytes

-- the numbers of the parts, on a board
abbrev pub fields_at : Row → List ℕ → StateFields
fields_at row bytes = record {
  cpu = cpu_at (cpu_part bytes);
  riot = riot_at (riot_part bytes);
  tia = tia_at (tia_part bytes);
  banks = banks_in row (cart_part bytes);
}

-- ---- the state

-- the bytes of a record on a board
abbrev pub record_length : Row → ℕ
record_length row = cart_place + cart_record_length row

-- the state that they spell
abbrev pub state_at : Row → List ℕ → StateData
state_at row bytes = record { fields = fields_at row bytes; ram = ram_in row (cart_part bytes) }

-- whether such a state of a cartridge has these bytes as its record
abbrev pub is_spelled : Cartridge → StateData → List ℕ → Bool
is_spelled cartridge s bytes = is_state s.fields && spells_tia (tia_part bytes) && is_of cartridge s

-- the state of a cartridge whose record the bytes are, if they are one
unfoldable pub recorded_state : Cartridge → List ℕ → Option StateData
recorded_state cartridge bytes =
    let s = state_at cartridge.row bytes in
    if (length bytes == record_length cartridge.row) && is_spelled cartridge s bytes then Some s else None
