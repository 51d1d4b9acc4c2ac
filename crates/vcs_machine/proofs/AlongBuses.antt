-- A frame stops alike on two buses where one follows the other.
use Rattle.std.proofs.Common.{◌≡◌, ℕ, refl, ap, ◌∙◌}
use Rattle.std.specs.Prelude.{Result, Ok, Err}
use Rattle.mos_cpu.specs.Registers.{Registers}
use Rattle.mos_cpu.specs.Execution.{Step, step_of}
use Rattle.mos_cpu.specs.declared.fault.CpuFault.{CpuFault}
use Rattle.mos_cpu.proofs.AlongMaps.{step_of-along}
use Rattle.vcs_machine.specs.Frame.{FrameMeaning, Machine, Turn, Faulty, Went, turn, turn_by, stop_of}
use Rattle.vcs_machine.specs.Private.FollowedBuses.{Follows, machine_along, stop_along}
use Rattle.vcs_machine.proofs.OneStop.{stop_of-shown, stops-ended, stops-faulty, stops-later, stops-long}

module _ {B C : Type 0} (b : FrameMeaning B) (c : FrameMeaning C) (h : B → C) (follows : Follows b c h) where
  abbrev turn_along : Turn B → Turn C
  turn_along (Faulty fault) = Faulty fault
  turn_along (Went m) = Went (machine_along h m)

  turn_by-along : (cycles : ℕ) (r : Registers) (bus : B) (answer : Result ℕ CpuFault)
      → turn_by c cycles r (h bus) answer ≡ turn_along (turn_by b cycles r bus answer)
  turn_by-along cycles r bus (Err fault) = refl
  turn_by-along cycles r bus (Ok n) = rw (follows.after_wait bus, follows.wait bus)

  turn-along : (m : Machine B) (t : Turn B) → turn b m ≡ t → turn c (machine_along h m) ≡ turn_along t
  unfolding turn
  turn-along m t e =
      let step = step_of b.calls m.registers m.bus in
      ap (λ (s : Step C). turn_by c m.cycles s.registers s.bus s.answer) (step_of-along b.calls c.calls h follows.calls m.registers m.bus)
      ∙ turn_by-along m.cycles step.registers step.bus step.answer
      ∙ ap turn_along e

  -- Both searches go on to one stop.
  pub stop_of-along : (start : Machine B) → stop_of c (machine_along h start) ≡ stop_along h (stop_of b start)
  stop_of-along start = stop_of-shown b
      (λ m. stop_of c (machine_along h start) ≡ stop_of c (machine_along h m))
      (λ stop. stop_of c (machine_along h start) ≡ stop_along h stop)
      (record {
        long = λ m same long. same ∙ stops-long c (machine_along h m) long;
        faulty = λ m fault same short e. same ∙ stops-faulty c (machine_along h m) fault short (turn-along m _ e);
        ended = λ m next same short e over.
            same ∙ stops-ended c (machine_along h m) (machine_along h next) short (turn-along m _ e) (follows.ended next.bus ∙ over);
        goes_on = λ m next same short e unended.
            same ∙ stops-later c (machine_along h m) (machine_along h next) short (turn-along m _ e) (follows.ended next.bus ∙ unended);
      })
      start refl
