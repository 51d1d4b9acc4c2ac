use Rattle.verify_pool.proofs.CrewLemmas.{worked_united}
use Rattle.verify_pool.proofs.workers.unite.Goals as goal

pub returns-clause-worked : goal.returns-clause-worked
returns-clause-worked c = λ job a b one two.
    worked_united c.args.desk.now job a b c.args.first c.args.second (record { ticket = c.hand_in.new.into; pieces = c.append.new.self })
    c.hand_in.ensures.own c.hand_in.ensures.known c.hand_in.ensures.event c.in-Ok.ensures.items one two
