use Rattle.std.proofs.Common.{rules}
use Rattle.mos_cpu.proofs.OpcodeRunLemmas.{step_of-store}
use Rattle.mos_cpu.proofs.stores.store.Goals as goal

pub returns : goal.returns
returns g c = rw (step_of-store _ _ _ _ _ _ _ _ g.met.O.Storer.stores c.requires.row c.in_ok-target.ensures) (search rules)
