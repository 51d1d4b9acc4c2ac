use Rattle.std.proofs.Common.{refl, sym}
use Rattle.vcs_machine.specs.Faults.{stop_with}
use Rattle.vcs_machine.specs.Frame.{Ended}
use Rattle.vcs_machine.specs.Instructions.{undrawn_meaning, undrawn_of, with_pixel_lost}
use Rattle.vcs_machine.proofs.FrameOutcomes.{failed, picture, played, played-cycles}
use Rattle.vcs_machine.proofs.OneStop.{stops_as-only}
use Rattle.vcs_machine.proofs.SinkLemmas.{halts-on, plays-on}
use Rattle.vcs_machine.proofs.laws.law_of_stepping.Goals as goal

pub returns-clause-ended : goal.returns-clause-ended
returns-clause-ended c cartridge s i count here stops =
    let stop = sym (stops_as-only undrawn_meaning (undrawn_of cartridge s i) (Ended here) refl stops.1) in
    let p = plays-on with_pixel_lost cartridge s i (record {}) here stop in
    ((picture with_pixel_lost cartridge s _ i _ _ _ p, played with_pixel_lost cartridge s _ i _ _ _ p), sym (played-cycles with_pixel_lost cartridge s _ i _ _ _ p))

pub returns-clause-failed : goal.returns-clause-failed
returns-clause-failed c cartridge s i count kind here stops =
    let stop = sym (stops_as-only undrawn_meaning (undrawn_of cartridge s i) (stop_with kind here) refl stops.1) in
    failed cartridge s _ i kind here.cycles (halts-on with_pixel_lost cartridge s i (record {}) kind here stop)
