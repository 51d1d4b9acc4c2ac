-- What a frame does, from how it stops.
use Rattle.std.proofs.Common.{◌≡◌, ℕ, ◌%◌, IsTrue, Result, Ok, Err, List}
use Rattle.std.proofs.Common.{refl, sym, ap, ◌∙◌, arith}
use Rattle.std.specs.Prelude.{IfOk, IfErr, length}
use Rattle.std.proofs.lemmas.List.FromFn.{length-map-range_with_len}
use Rattle.mos_cpu.specs.Registers.{Registers}
use Rattle.tia_core.specs.Clock.{Pixel}
use Rattle.vcs_machine.specs.Consoles.{Console, frame_meaning_of}
use Rattle.vcs_machine.specs.Faults.{stop_with}
use Rattle.vcs_machine.specs.Frame.{Machine, Ended, Stop, machine_at, stop_of}
use Rattle.vcs_machine.specs.Inputs.{InputData}
use Rattle.vcs_machine.specs.Outcomes.{Played, Failed, frame_of, outcome_of, machine_of, state_left}
use Rattle.vcs_machine.specs.Outcomes.{Halts, PlaysOn, cycles_of}
use Rattle.vcs_machine.specs.Pictures.{Rows, picture_of, rows_of}
use Rattle.vcs_machine.specs.States.{is_state, line_cycle_of}
use Rattle.vcs_machine.specs.declared.fault.FaultKind.{FaultKind}
use Rattle.vcs_machine.specs.declared.fault.Halt.{Halt}
use Rattle.vcs_machine.specs.declared.fields.StateFields.{StateFields}
use Rattle.vcs_machine.proofs.BeamLaws.{OnItsWay, way-stops}
use Rattle.vcs_machine.proofs.StateLemmas.{line_cycle-lt, clock-thirds}

-- A frame that was played on a sink for so many cycles ends with the picture that is counted for
-- them.
module _ {S : Type 0} (drawn : S → ℕ → ℕ → ℕ → S) (cartridge : List ℕ) (s after : StateFields) (i : InputData) (sink sink_after : S) (cycles : ℕ)
    (h : PlaysOn drawn cartridge s i sink after sink_after cycles) where
  abbrev pub picture : Rows
  picture = picture_of (rows_of (line_cycle_of s) cycles) h.0.bus.sink

  pub played : frame_of cartridge s i ≡ Played after picture
  unfolding frame_of
  played = rw (h.1, h.2, h.4) refl

  pub played-cycles : cycles ≡ cycles_of cartridge s i
  unfolding cycles_of
  played-cycles = sym h.4 ∙ ap (λ (stop : Stop (Console (List Pixel))). (machine_at stop).cycles) (sym h.1)

  pub played-rows : rows_of (line_cycle_of s) cycles ≡ length picture
  unfolding picture_of
  played-rows = sym (length-map-range_with_len _ 0 (rows_of (line_cycle_of s) cycles))

outcome-halted : (line_cycle : ℕ) (kind : FaultKind) (m : Machine (Console (List Pixel)))
    → outcome_of line_cycle (stop_with kind m) ≡ Failed kind (state_left m)
outcome-halted line_cycle kind m = grind arith

pub failed : (cartridge : List ℕ) (s after : StateFields) (i : InputData) (kind : FaultKind) (cycles : ℕ) → Halts cartridge s i kind after cycles
    → frame_of cartridge s i ≡ Failed kind after
unfolding frame_of
failed cartridge s after i kind cycles h = rw (h.1, outcome-halted, h.2) refl

pub machine_at-halted : {B : Type 0} (kind : FaultKind) (m : Machine B) → machine_at (stop_with kind m) ≡ m
machine_at-halted kind m = grind arith

-- However a frame stops, and whatever its pixels go to, its beam has moved by its cycles.
module _ {S : Type 0} (drawn : S → ℕ → ℕ → ℕ → S) (cartridge : List ℕ) (s : StateFields) (i : InputData) (sink : S) (lawful : IsTrue (is_state s)) where
  pub stop-way : OnItsWay drawn (line_cycle_of s) (machine_at (stop_of (frame_meaning_of drawn) (machine_of cartridge s i sink)))
  stop-way = way-stops drawn (line_cycle_of s) (machine_of cartridge s i sink) (line_cycle-lt s lawful) refl (clock-thirds s lawful)

  -- So its beam is left where a cycle begins.
  begins_cycle : (here : Machine (Console S)) → machine_at (stop_of (frame_meaning_of drawn) (machine_of cartridge s i sink)) ≡ here → here.bus.tia.fields.clock % 3 ≡ 0
  begins_cycle here e = let beam = rw e at stop-way.beam in omega arith

  pub stop-aligned : (ran : Result ℕ Halt) (registers : Registers) (bus : Console S)
      → IfOk ran (λ total. stop_of (frame_meaning_of drawn) (machine_of cartridge s i sink) ≡ Ended (record { registers = registers; bus = bus; cycles = total }))
      → IfErr ran (λ halt. stop_of (frame_meaning_of drawn) (machine_of cartridge s i sink)
      ≡ stop_with halt.kind (record { registers = registers; bus = bus; cycles = halt.cycles }))
      → bus.tia.fields.clock % 3 ≡ 0
  stop-aligned (Ok total) registers bus ok err = begins_cycle _ (ap machine_at ok)
  stop-aligned (Err halt) registers bus ok err = begins_cycle _ (ap machine_at err ∙ machine_at-halted halt.kind _)
