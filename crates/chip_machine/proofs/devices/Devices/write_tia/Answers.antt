use Rattle.std.proofs.Common.{sym, ap}
use Rattle.tia_chip.specs.Registers.{register_of}
use Rattle.tia_chip.proofs.LineClockLemmas.{wsync-kept}
use Rattle.chip_machine.specs.Private.Lag.{tia_seen}
use Rattle.chip_machine.proofs.devices.Devices.write_tia.Goals as goal

pub returns-then-register-eq-WSYNC-clause-tia : goal.returns-then-register-eq-WSYNC-clause-tia
returns-then-register-eq-WSYNC-clause-tia g c =
    sym (wsync-kept (tia_seen c.args.self.now) c.args.register c.args.value (ap register_of c.if-register-eq-WSYNC.true))
