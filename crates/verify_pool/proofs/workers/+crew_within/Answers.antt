use Rattle.std.proofs.Common.{rules, ◌<◌, length}
use Rattle.replay_segments.specs.Pieces.{job_of}
use Rattle.verify_pool.proofs.CrewLemmas.{ready-pop, pieces_fit, worked_all, promised}
use Rattle.verify_pool.proofs.workers.+crew_within.Goals as goal

pub crew_within-rest-requires-clause-ready : goal.crew_within-rest-requires-clause-ready
crew_within-rest-requires-clause-ready g t c κs within =
    ready-pop c.args.shared.now.desk.now c.args.hands.items c.pop.new.self.items c.in-Some.hand c.in-Some.ensures.items (search rules) c.requires.ready

pub unite-requires-clause-room : goal.unite-requires-clause-room
unite-requires-clause-room g t c =
    let shared = c.args.shared.now in let told = c.in_ok-worker.ensures in
    let theirs =
    promised shared.movie.now shared.cuts.now shared.keep shared.desk.now c.in-Some.hand _ told.movie told.cuts told.keep told.desk told.hand
    c.join-last.result c.join-last.ensures in
    let some : 0 < length c.pop.new.self.items = search rules in
    pieces_fit shared.desk.now c.args.hands.items c.pop.new.self.items c.in-Some.hand c.in-Some.ensures.items some _ _ _ c.requires.ready
    c.in-Ok.ensures.room c.in-Ok.ensures.few theirs.1

pub returns-clause-worked : goal.returns-clause-worked
returns-clause-worked g t c =
    let shared = c.args.shared.now in let told = c.in_ok-worker.ensures in
    let theirs =
    promised shared.movie.now shared.cuts.now shared.keep shared.desk.now c.in-Some.hand _ told.movie told.cuts told.keep told.desk told.hand
    c.join-last.result c.join-last.ensures in
    let some : 0 < length c.pop.new.self.items = search rules in
    worked_all shared.desk.now c.args.hands.items c.pop.new.self.items c.in-Some.hand c.in-Some.ensures.items some
    (job_of shared.movie.now shared.cuts.now shared.keep) c.unite.result
    (c.unite.ensures.worked _ _ _ c.in-Ok.ensures.worked theirs.0)
