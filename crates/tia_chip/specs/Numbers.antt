-- The numbers of a TIA, in a record's order: 62 bytes. A register has no other bits than those that
-- it keeps. A record is of a TIA on which no write is on its way. The ranges, and their order, are
-- this project's own.
use Rattle.std.specs.Prelude.{ℕ, ◌+◌, ◌/◌, ◌%◌, ◌==◌, ◌&&◌, ◌||◌, not, nat_le, nat_lt, Bool}
use Rattle.std.specs.Prelude.{if◌then◌else◌, List, [], ◌∷◌, ◌++◌, codes, Option, Some, None, is_none}
use Rattle.record_table.specs.Numbers.{Number, byte, word, anything, below, are_lawful}
use Rattle.tia_chip.specs.Bits.{has_bit}
use Rattle.tia_chip.specs.Blank.{is_in_blank}
use Rattle.tia_chip.specs.Collision.{number_from}
use Rattle.tia_chip.specs.Motion.{any_moves}
use Rattle.tia_chip.specs.Player.{width_of}
use Rattle.tia_chip.specs.Registers.{fits_register}
use Rattle.tia_chip.specs.declared.ball.Ball.{Ball}
use Rattle.tia_chip.specs.declared.missile.MissileCopy.{MissileCopy}
use Rattle.tia_chip.specs.declared.player.Player.{Player}
use Rattle.tia_chip.specs.declared.player.PlayerCopy.{PlayerCopy}
use Rattle.tia_chip.specs.declared.register.Register.TheVariants.{Vsync, Vblank, Nusiz0, Nusiz1}
use Rattle.tia_chip.specs.declared.register.Register.TheVariants.{Colup0, Colup1, Colupf, Colubk}
use Rattle.tia_chip.specs.declared.register.Register.TheVariants.{Ctrlpf, Refp0, Refp1, Pf0, Enam0}
use Rattle.tia_chip.specs.declared.register.Register.TheVariants.{Enam1, Enabl, Hmp0, Hmp1, Hmm0}
use Rattle.tia_chip.specs.declared.register.Register.TheVariants.{Hmm1, Hmbl, Vdelp0, Vdelp1}
use Rattle.tia_chip.specs.declared.register.Register.TheVariants.{Vdelbl, Resmp0, Resmp1}
use Rattle.tia_chip.specs.declared.state.TiaState.{TiaState}

-- the registers that time and colour the picture
abbrev pub colour_numbers : List (Number TiaState)
colour_numbers =
    byte (codes "VSYNC") (fits_register Vsync) (λ t. t.vsync)
    ∷ byte (codes "VBLANK") (fits_register Vblank) (λ t. t.vblank)
    ∷ byte (codes "NUSIZ0") (fits_register Nusiz0) (λ t. t.player0.nusiz)
    ∷ byte (codes "NUSIZ1") (fits_register Nusiz1) (λ t. t.player1.nusiz)
    ∷ byte (codes "COLUP0") (fits_register Colup0) (λ t. t.colup0)
    ∷ byte (codes "COLUP1") (fits_register Colup1) (λ t. t.colup1)
    ∷ byte (codes "COLUPF") (fits_register Colupf) (λ t. t.colupf)
    ∷ byte (codes "COLUBK") (fits_register Colubk) (λ t. t.colubk)
    ∷ []

-- those that draw the objects
abbrev pub object_numbers : List (Number TiaState)
object_numbers =
    byte (codes "CTRLPF") (fits_register Ctrlpf) (λ t. t.ctrlpf)
    ∷ byte (codes "REFP0") (fits_register Refp0) (λ t. t.player0.refp)
    ∷ byte (codes "REFP1") (fits_register Refp1) (λ t. t.player1.refp)
    ∷ byte (codes "PF0") (fits_register Pf0) (λ t. t.pf0)
    ∷ byte (codes "PF1") anything (λ t. t.pf1)
    ∷ byte (codes "PF2") anything (λ t. t.pf2)
    ∷ byte (codes "GRP0 new") anything (λ t. t.player0.grp_new)
    ∷ byte (codes "GRP0 old") anything (λ t. t.player0.grp_old)
    ∷ byte (codes "GRP1 new") anything (λ t. t.player1.grp_new)
    ∷ byte (codes "GRP1 old") anything (λ t. t.player1.grp_old)
    ∷ byte (codes "ENAM0") (fits_register Enam0) (λ t. t.missile0.enam)
    ∷ byte (codes "ENAM1") (fits_register Enam1) (λ t. t.missile1.enam)
    ∷ byte (codes "ENABL new") (fits_register Enabl) (λ t. t.ball.enabl_new)
    ∷ byte (codes "ENABL old") (fits_register Enabl) (λ t. t.ball.enabl_old)
    ∷ []

-- those that move the objects, delay them and lock the missiles
abbrev pub motion_numbers : List (Number TiaState)
motion_numbers =
    byte (codes "HMP0") (fits_register Hmp0) (λ t. t.player0.hmp)
    ∷ byte (codes "HMP1") (fits_register Hmp1) (λ t. t.player1.hmp)
    ∷ byte (codes "HMM0") (fits_register Hmm0) (λ t. t.missile0.hmm)
    ∷ byte (codes "HMM1") (fits_register Hmm1) (λ t. t.missile1.hmm)
    ∷ byte (codes "HMBL") (fits_register Hmbl) (λ t. t.ball.hmbl)
    ∷ byte (codes "VDELP0") (fits_register Vdelp0) (λ t. t.player0.vdelp)
    ∷ byte (codes "VDELP1") (fits_register Vdelp1) (λ t. t.player1.vdelp)
    ∷ byte (codes "VDELBL") (fits_register Vdelbl) (λ t. t.ball.vdelbl)
    ∷ byte (codes "RESMP0") (fits_register Resmp0) (λ t. t.missile0.resmp)
    ∷ byte (codes "RESMP1") (fits_register Resmp1) (λ t. t.missile1.resmp)
    ∷ []

-- the counters of the objects
abbrev pub counter_numbers : List (Number TiaState)
counter_numbers =
    byte (codes "counter of player 0") (below 160) (λ t. t.player0.counter)
    ∷ byte (codes "counter of player 1") (below 160) (λ t. t.player1.counter)
    ∷ byte (codes "counter of missile 0") (below 160) (λ t. t.missile0.counter)
    ∷ byte (codes "counter of missile 1") (below 160) (λ t. t.missile1.counter)
    ∷ byte (codes "counter of the ball") (below 160) (λ t. t.ball.counter)
    ∷ []

-- a copy's number: 0 for none, else its place and one
abbrev pub player_copy_number : Option PlayerCopy → ℕ
player_copy_number None = 0
player_copy_number (Some copy) = copy.place + 1

abbrev pub bit_number : Option PlayerCopy → ℕ
bit_number None = 0
bit_number (Some copy) = copy.bit

abbrev pub missile_copy_number : Option MissileCopy → ℕ
missile_copy_number None = 0
missile_copy_number (Some copy) = copy.place + 1

abbrev pub ball_copy_number : Option ℕ → ℕ
ball_copy_number None = 0
ball_copy_number (Some place) = place + 1

-- the copies of the players that are on their way, and changes of their widths
abbrev pub player_numbers : List (Number TiaState)
player_numbers =
    byte (codes "copy of player 0") (below 11) (λ t. player_copy_number t.player0.copy)
    ∷ byte (codes "copy of player 1") (below 11) (λ t. player_copy_number t.player1.copy)
    ∷ byte (codes "bit of player 0") (below 8) (λ t. bit_number t.player0.copy)
    ∷ byte (codes "bit of player 1") (below 8) (λ t. bit_number t.player1.copy)
    ∷ byte (codes "width of player 0") (below 3) (λ t. t.player0.width / 2)
    ∷ byte (codes "width of player 1") (below 3) (λ t. t.player1.width / 2)
    ∷ byte (codes "change of player 0") (below 6) (λ t. t.player0.change)
    ∷ byte (codes "change of player 1") (below 6) (λ t. t.player1.change)
    ∷ []

-- the copies of the missiles and the ball, and the playfield
abbrev pub place_numbers : List (Number TiaState)
place_numbers =
    byte (codes "copy of missile 0") (below 13) (λ t. missile_copy_number t.missile0.copy)
    ∷ byte (codes "copy of missile 1") (below 13) (λ t. missile_copy_number t.missile1.copy)
    ∷ byte (codes "copy of the ball") (below 13) (λ t. ball_copy_number t.ball.place)
    ∷ byte (codes "mirrored") (below 2) (λ t. number_from 0 (t.mirrored ∷ []))
    ∷ byte (codes "playfield bit") (below 2) (λ t. number_from 0 (t.playfield ∷ []))
    ∷ []

-- one bit an object, player 0 in bit 0, player 1, missile 0, missile 1, the ball in bit 4
abbrev pub moves_number : TiaState → ℕ
moves_number t = number_from 0 (t.ball.moves ∷ t.missile1.moves ∷ t.missile0.moves ∷ t.player1.moves ∷ t.player0.moves ∷ [])

abbrev pub seen_number : TiaState → ℕ
seen_number t = number_from 0 (t.ball.seen ∷ t.missile1.seen ∷ t.missile0.seen ∷ t.player1.seen ∷ t.player0.seen ∷ [])

-- fifteen collision bits, HMOVE's motion, two latches, the beam's place in its line, in cycles of
-- three colour clocks, and whether its blank is longer
abbrev pub beam_numbers : List (Number TiaState)
beam_numbers =
    word (codes "collisions") (below 32768) (λ t. t.collisions)
    ∷ byte (codes "moves") (below 32) moves_number
    ∷ byte (codes "pulses") (below 17) (λ t. t.pulses)
    ∷ byte (codes "button latches") (below 4) (λ t. t.latches)
    ∷ byte (codes "line cycle") (below 76) (λ t. t.clock / 3)
    ∷ byte (codes "longer") (below 2) (λ t. number_from 0 (t.longer ∷ []))
    ∷ []

-- a size 1, 2, 4, 8 or 0 as 0, 1, 2, 3 or 4
abbrev pub size_number : ℕ → ℕ
size_number size = if size == 1 then 0 else if size == 2 then 1 else if size == 4 then 2 else if size == 8 then 3 else 4

abbrev pub own_size_number : Option MissileCopy → ℕ
own_size_number None = 0
own_size_number (Some copy) = size_number copy.own_size

-- the own sizes of missiles and ball, what the ball's counter was, and what was seen
abbrev pub size_numbers : List (Number TiaState)
size_numbers =
    byte (codes "own size of missile 0") (below 4) (λ t. own_size_number t.missile0.copy)
    ∷ byte (codes "own size of missile 1") (below 4) (λ t. own_size_number t.missile1.copy)
    ∷ byte (codes "own size of the ball") (below 5) (λ t. size_number t.ball.own_size)
    ∷ byte (codes "phase of the ball") (below 4) (λ t. t.ball.phase)
    ∷ byte (codes "seen") (below 32) seen_number
    ∷ []

-- all of them
abbrev pub tia_numbers : List (Number TiaState)
tia_numbers =
    colour_numbers ++ object_numbers ++ motion_numbers ++ counter_numbers ++ player_numbers ++ place_numbers ++ beam_numbers ++ size_numbers

-- What more is true of a player's numbers: a copy that isn't drawn yet is at bit 0, the width is 1,
-- 2 or 4, and a change is waited for exactly where it isn't that of NUSIZ.
abbrev pub is_player : Player → Bool
is_player p =
    (nat_le 7 (player_copy_number p.copy) || (bit_number p.copy == 0))
    && (p.width == 1 || (p.width == 2) || (p.width == 4))
    && (if p.width == width_of p.nusiz then p.change == 0 else not (p.change == 0))

-- of a missile's copy: one that isn't drawn yet has no own size, which stands as 1
abbrev pub is_missile_copy : Option MissileCopy → Bool
is_missile_copy copy = nat_le 5 (missile_copy_number copy) || (own_size_number copy == 0)

-- of the ball: its own size is one of the five
abbrev pub is_ball : Ball → Bool
is_ball b = nat_lt (size_number b.own_size) 4 || (b.own_size == 0)

-- of the clock: the blank is longer from clock 1 to 75 alone, or after RSYNC in the blank from 225
-- on; the playfield is off up to clock 68, and as each fourth clock begins, which takes its bit; CTRLPF
-- D0 counts from pixel 81 to the last that takes one; in the picture nothing that was seen is kept
abbrev pub is_beam : TiaState → Bool
is_beam t =
    (not t.longer || (not (t.clock == 0) && (nat_lt t.clock 76 || nat_le 225 t.clock)))
    && (not t.playfield || (nat_le 69 t.clock && not (t.clock % 4 == 0)))
    && (not t.mirrored || (nat_le 149 t.clock && nat_lt t.clock 225))
    && (is_in_blank t || (seen_number t == 0))

-- what is true of the numbers of every TIA on which no write is on its way
unfoldable pub is_tia : TiaState → Bool
is_tia t =
    are_lawful tia_numbers t
    && is_player t.player0 && is_player t.player1
    && is_missile_copy t.missile0.copy && is_missile_copy t.missile1.copy
    && is_ball t.ball
    && is_beam t
    && (any_moves t || (t.pulses == 0))
    && (has_bit t.vblank 6 || (t.latches == 0))

-- Between two cycles of the processor a record says all of a TIA where no write is on its way, none
-- has changed an object since the last clock, pixels are put where the line's clock is, and the line
-- and the buttons are as a console is switched on. The line and the buttons are a frame's.
abbrev pub is_settled : TiaState → Bool
is_settled t =
    is_none t.waiting && is_none t.hmove && not t.changed && (t.beam == t.clock)
    && (t.line == 0) && not t.fire0 && not t.fire1
