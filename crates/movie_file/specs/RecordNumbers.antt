-- The numbers that the bytes of a record spell, part by part. That a state's record spells its
-- numbers is `law_of_records`. This project's own.
use Rattle.std.specs.Prelude.{ℕ, List, [], ◌∷◌, ◌+◌, ◌*◌, take, drop, slice_index}
use Rattle.std.specs.Int.{w16, from_be_bytes}
use Rattle.record_table.specs.Numbers.{table_length}
use Rattle.mos_cpu.specs.Registers.{Registers, processor_numbers}
use Rattle.riot_map.specs.RiotFields.{riot_numbers}
use Rattle.tia_core.specs.Numbers.{tia_numbers}
use Rattle.riot_map.specs.declared.fields.RiotFields.{RiotFields}
use Rattle.tia_core.specs.declared.fields.TiaFields.{TiaFields}
use Rattle.vcs_machine.specs.declared.fields.StateFields.{StateFields}

abbrev pub cpu_at : List ℕ → Registers
cpu_at b = record {
  a = slice_index b 0;
  x = slice_index b 1;
  y = slice_index b 2;
  s = slice_index b 3;
  p = slice_index b 4;
  pc = from_be_bytes w16 (slice_index b 5 ∷ slice_index b 6 ∷ []);
}

-- a RIOT of its memory and of the bytes after that
abbrev pub riot_with : List ℕ → List ℕ → RiotFields
riot_with ram b = record {
  ram = ram;
  output_a = slice_index b 0;
  direction_a = slice_index b 1;
  output_b = slice_index b 2;
  direction_b = slice_index b 3;
  timer = slice_index b 4;
  part = from_be_bytes w16 (slice_index b 5 ∷ slice_index b 6 ∷ []);
  interval = slice_index b 7;
  past_zero = slice_index b 8;
  flag = slice_index b 9;
}

abbrev pub riot_at : List ℕ → RiotFields
riot_at b = riot_with (take 128 b) (drop 128 b)

abbrev pub tia_at : List ℕ → TiaFields
tia_at b = record {
  vsync = slice_index b 0;
  vblank = slice_index b 1;
  nusiz0 = slice_index b 2;
  nusiz1 = slice_index b 3;
  colup0 = slice_index b 4;
  colup1 = slice_index b 5;
  colupf = slice_index b 6;
  colubk = slice_index b 7;
  ctrlpf = slice_index b 8;
  refp0 = slice_index b 9;
  refp1 = slice_index b 10;
  pf0 = slice_index b 11;
  pf1 = slice_index b 12;
  pf2 = slice_index b 13;
  grp0_new = slice_index b 14;
  grp0_old = slice_index b 15;
  grp1_new = slice_index b 16;
  grp1_old = slice_index b 17;
  enam0 = slice_index b 18;
  enam1 = slice_index b 19;
  enabl_new = slice_index b 20;
  enabl_old = slice_index b 21;
  hmp0 = slice_index b 22;
  hmp1 = slice_index b 23;
  hmm0 = slice_index b 24;
  hmm1 = slice_index b 25;
  hmbl = slice_index b 26;
  vdelp0 = slice_index b 27;
  vdelp1 = slice_index b 28;
  vdelbl = slice_index b 29;
  resmp0 = slice_index b 30;
  resmp1 = slice_index b 31;
  position_p0 = slice_index b 32;
  position_p1 = slice_index b 33;
  position_m0 = slice_index b 34;
  position_m1 = slice_index b 35;
  position_bl = slice_index b 36;
  collisions = from_be_bytes w16 (slice_index b 37 ∷ slice_index b 38 ∷ []);
  latches = slice_index b 39;
  clock = 3 * slice_index b 40;
  comb = slice_index b 41;
}

-- ---- the parts

abbrev pub cpu_length : ℕ
cpu_length = table_length processor_numbers

-- a RIOT's memory, and its other numbers
abbrev pub riot_length : ℕ
riot_length = 128 + table_length riot_numbers

abbrev pub tia_length : ℕ
tia_length = table_length tia_numbers

-- where they begin
abbrev pub tia_place : ℕ
tia_place = cpu_length + riot_length

abbrev pub bank_place : ℕ
bank_place = tia_place + tia_length

abbrev pub cpu_part : List ℕ → List ℕ
cpu_part bytes = take cpu_length bytes

abbrev pub riot_part : List ℕ → List ℕ
riot_part bytes = take riot_length (drop cpu_length bytes)

abbrev pub tia_part : List ℕ → List ℕ
tia_part bytes = take tia_length (drop tia_place bytes)

-- the numbers of the parts, and the bank
abbrev pub fields_at : List ℕ → StateFields
fields_at bytes = record {
  cpu = cpu_at (cpu_part bytes);
  riot = riot_at (riot_part bytes);
  tia = tia_at (tia_part bytes);
  bank = slice_index bytes bank_place;
}
