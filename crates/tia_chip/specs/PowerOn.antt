-- A TIA as power-on, buttons and frames set it. This project's own.
use Rattle.std.specs.Prelude.{Bool, false, None}
use Rattle.tia_chip.specs.declared.ball.Ball.{Ball}
use Rattle.tia_chip.specs.declared.missile.Missile.{Missile}
use Rattle.tia_chip.specs.declared.player.Player.{Player}
use Rattle.tia_chip.specs.declared.state.TiaState.{TiaState}

abbrev pub player_at_power_on : Player
player_at_power_on = record {
  nusiz = 0;
  refp = 0;
  grp_new = 0;
  grp_old = 0;
  vdelp = 0;
  hmp = 0;
  counter = 0;
  copy = None;
  width = 1;
  change = 0;
  moves = false;
  seen = false;
}

abbrev pub missile_at_power_on : Missile
missile_at_power_on = record {
  enam = 0;
  resmp = 0;
  hmm = 0;
  counter = 0;
  copy = None;
  moves = false;
  seen = false;
}

abbrev pub ball_at_power_on : Ball
ball_at_power_on = record {
  enabl_new = 0;
  enabl_old = 0;
  vdelbl = 0;
  hmbl = 0;
  counter = 0;
  place = None;
  own_size = 1;
  phase = 0;
  moves = false;
  seen = false;
}

-- A TIA that was just switched on: each number of its record is 0.
abbrev pub tia_at_power_on : TiaState
tia_at_power_on = record {
  vsync = 0;
  vblank = 0;
  colup0 = 0;
  colup1 = 0;
  colupf = 0;
  colubk = 0;
  ctrlpf = 0;
  pf0 = 0;
  pf1 = 0;
  pf2 = 0;
  player0 = player_at_power_on;
  player1 = player_at_power_on;
  missile0 = missile_at_power_on;
  missile1 = missile_at_power_on;
  ball = ball_at_power_on;
  mirrored = false;
  playfield = false;
  collisions = 0;
  pulses = 0;
  latches = 0;
  clock = 0;
  beam = 0;
  longer = false;
  waiting = None;
  hmove = None;
  changed = false;
  line = 0;
  fire0 = false;
  fire1 = false;
}

-- the buttons as a frame's input has them
abbrev pub with_fire : TiaState → Bool → Bool → TiaState
with_fire t fire0 fire1 = record t { fire0 = fire0; fire1 = fire1 }

-- the start of a frame, whose lines are counted from 0
abbrev pub at_frame_start : TiaState → TiaState
at_frame_start t = record t { line = 0 }
