-- Sets of the six objects: one by one, by their numbers, joined; and those that may be visible. This
-- project's own.
use Rattle.std.specs.Prelude.{◌==◌, ℕ, ◌+◌, ◌*◌, ◌&&◌, ◌||◌, not, Bool, true, false, if◌then◌else◌}
use Rattle.std.specs.Prelude.{bit_or}
use Rattle.tia_core.specs.Bits.{has_bit}
use Rattle.tia_core.specs.Objects.{value_by_delay}
use Rattle.tia_core.specs.declared.fields.TiaFields.{TiaFields}
use Rattle.tia_core.specs.declared.objects.Objects.{Objects}

-- the objects, one by one
abbrev pub p0 : Objects → Bool
p0 o = o.player0

abbrev pub p1 : Objects → Bool
p1 o = o.player1

abbrev pub m0 : Objects → Bool
m0 o = o.missile0

abbrev pub m1 : Objects → Bool
m1 o = o.missile1

abbrev pub bl : Objects → Bool
bl o = o.ball

abbrev pub pf : Objects → Bool
pf o = o.playfield

-- the objects that may be visible, wherever they stand: a player or a playfield with a bit set, a
-- missile or a ball that is enabled, be it locked to its player or not
abbrev pub visible_objects : TiaFields → Objects
visible_objects t = record {
  player0 = not (value_by_delay t.vdelp0 t.grp0_old t.grp0_new == 0);
  player1 = not (value_by_delay t.vdelp1 t.grp1_old t.grp1_new == 0);
  missile0 = has_bit t.enam0 1;
  missile1 = has_bit t.enam1 1;
  ball = has_bit (value_by_delay t.vdelbl t.enabl_old t.enabl_new) 1;
  playfield = not (bit_or (bit_or t.pf0 t.pf1) t.pf2 == 0);
}

-- what a truth counts
abbrev pub one : Bool → ℕ
one b = if b then 1 else 0

-- the number of a set of objects
abbrev pub set_number : Objects → ℕ
set_number o =
    one o.player0 + 2 * one o.player1 + 4 * one o.missile0 + 8 * one o.missile1 + 16 * one o.ball
    + 32 * one o.playfield

-- no object
abbrev pub no_objects : Objects
no_objects = record { player0 = false; player1 = false; missile0 = false; missile1 = false; ball = false; playfield = false }

-- the objects of both sets
abbrev pub union_of : Objects → Objects → Objects
union_of a b = record {
  player0 = a.player0 || b.player0;
  player1 = a.player1 || b.player1;
  missile0 = a.missile0 || b.missile0;
  missile1 = a.missile1 || b.missile1;
  ball = a.ball || b.ball;
  playfield = a.playfield || b.playfield;
}

-- the objects of `new` if they are of this set, else those of `old`
abbrev pub with_objects : Objects → Objects → Objects → Objects
with_objects o new old = record {
  player0 = if o.player0 then new.player0 else old.player0;
  player1 = if o.player1 then new.player1 else old.player1;
  missile0 = if o.missile0 then new.missile0 else old.missile0;
  missile1 = if o.missile1 then new.missile1 else old.missile1;
  ball = if o.ball then new.ball else old.ball;
  playfield = if o.playfield then new.playfield else old.playfield;
}

-- the objects that move
abbrev pub all_but_playfield : Objects
all_but_playfield = record { player0 = true; player1 = true; missile0 = true; missile1 = true; ball = true; playfield = false }

-- the objects of the set with this number: each has a bit, from player 0 in the lowest to the
-- playfield in bit 5
abbrev pub numbered : ℕ → Objects
numbered n = record {
  player0 = has_bit n 0;
  player1 = has_bit n 1;
  missile0 = has_bit n 2;
  missile1 = has_bit n 3;
  ball = has_bit n 4;
  playfield = has_bit n 5;
}

-- the number of a set of one object
abbrev pub is_single : ℕ → Bool
is_single n = n == 1 || n == 2 || n == 4 || n == 8 || n == 16 || n == 32

-- a set with or without that object
abbrev pub with_single : ℕ → Bool → Objects → Objects
with_single n is o =
    with_objects (numbered n) (record { player0 = is; player1 = is; missile0 = is; missile1 = is; ball = is; playfield = is }) o

-- whether two of six objects are there
abbrev pub has_two : Bool → Bool → Bool → Bool → Bool → Bool → Bool
has_two a b c d e f = (a && b) || ((a || b) && c) || ((a || b || c) && d) || ((a || b || c || d) && e) || ((a || b || c || d || e) && f)
