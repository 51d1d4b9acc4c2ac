use Rattle.std.proofs.Common.{refl, subst}
use Rattle.bus_cycles.proofs.DataLemmas.{Agrees, lawful}
use Rattle.bus_cycles.specs.DataAccesses.{data_accesses_of}
use Rattle.bus_cycles.proofs.laws.law_of_data_accesses.Goals as goal

pub returns-clause-cycles : goal.returns-clause-cycles
returns-clause-cycles g c = λ m r s after opcode n row seen known run.
    (subst (λ run. Agrees m row r (data_accesses_of m r s opcode row) run) run (lawful m row r s opcode known)).0

pub returns-clause-accesses : goal.returns-clause-accesses
returns-clause-accesses g c = λ m r s after opcode n row seen known run.
    (subst (λ run. Agrees m row r (data_accesses_of m r s opcode row) run) run (lawful m row r s opcode known)).1

pub returns-clause-step : goal.returns-clause-step
returns-clause-step g c = λ m guide r s after u opcode n row seen known run shown.
    let agrees = subst (λ run. Agrees m row r (data_accesses_of m r s opcode row) run) run (lawful m row r s opcode known) in
    rw (shown, ← agrees.0, ← agrees.1) refl

pub returns-clause-fault : goal.returns-clause-fault
returns-clause-fault g c = λ m r s after opcode row fault known run.
    subst (λ run. Agrees m row r (data_accesses_of m r s opcode row) run) run (lawful m row r s opcode known)
