-- One cycle of a console, and the place of its beam: what laws say of cycles that pass. Three
-- colour clocks to a cycle are the Stella Programmer's Guide's.
use Rattle.std.specs.Prelude.{ℕ, ◌≡◌, ◌+◌, ◌*◌, ◌%◌, map}
use Rattle.std.specs.Fn.{iterate}
use Rattle.mos_cpu.specs.Accesses.{accesses_of, instruction_cycles}
use Rattle.mos_cpu.specs.Execution.{at_start}
use Rattle.mos_cpu.specs.Operands.{Instruction}
use Rattle.mos_cpu.specs.Registers.{Registers}
use Rattle.mos_cpu.specs.Timing.{access_clocks}
use Rattle.riot_map.specs.Timer.{after_cycle}
use Rattle.tia_core.specs.Beam.{beam_of}
use Rattle.tia_core.specs.Clock.{after_clock, pixels_of, sink_after_pixels}
use Rattle.vcs_machine.specs.Consoles.{Console, meaning_of}

-- The beam's place, in colour clocks from the start of line 0. Lines are counted modulo 65,536,
-- which no frame reaches.
abbrev pub beam_place : {S : Type 0} → Console S → ℕ
beam_place c = beam_of c.tia % (228 * 65536)

-- A place so many cycles on.
abbrev pub place_after : ℕ → ℕ → ℕ
place_after place cycles = (place + 3 * cycles) % (228 * 65536)

-- A step of the RIOT's timer.
abbrev pub after_timer_step : {S : Type 0} → Console S → Console S
after_timer_step c = record c { riot = record c.riot { timer = after_cycle c.riot.timer } }

module _ {S : Type 0} (drawn : S → ℕ → ℕ → ℕ → S) where
  -- A colour clock: that of the TIA, whose pixel goes to the sink.
  abbrev pub after_colour_clock : Console S → Console S
  after_colour_clock c = record c { tia = after_clock c.tia; sink = sink_after_pixels drawn c.sink (pixels_of c.tia) }

  -- A cycle: a step of the timer and three colour clocks.
  abbrev pub after_one_cycle : Console S → Console S
  after_one_cycle c = iterate after_colour_clock 3 (after_timer_step c)

  -- Each data access of an instruction that begins after so many cycles meets the beam three colour
  -- clocks a cycle on: one in the instruction's k-th cycle after the clocks of k cycles.
  abbrev pub MeetsBeam : Registers → Console S → ℕ → Instruction → Type 0
  MeetsBeam r c cycles i =
      let accesses = accesses_of i r (instruction_cycles i r.p) in
      access_clocks (meaning_of drawn) beam_place i.row.operation r.p (at_start c) accesses
      ≡ map (λ access. 3 * (cycles + access.cycle)) accesses
