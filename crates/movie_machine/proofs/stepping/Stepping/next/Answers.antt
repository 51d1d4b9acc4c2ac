use Rattle.std.proofs.Common.{◌≡◌, rules}
use Rattle.std.specs.Prelude.{Ok}
use Rattle.movie_machine.specs.Instructions.{Underway, next_of}
use Rattle.movie_machine.specs.Private.Stepping.{underway_of}
use Rattle.movie_machine.proofs.StepLemmas.{next-later}
use Rattle.movie_machine.proofs.stepping.Stepping.next.Goals.{in-Guide+in_ok-next-in-Guide, in-Chip+in_ok-next-in-Chip}
use Rattle.movie_machine.proofs.stepping.Stepping.next.Goals as goal

pub returns-clause-later : goal.returns-clause-later
returns-clause-later c =
    let before : Underway = c.args.self.now in
    let after : Underway = underway_of c.match-self.self-inside.frame in
    elim c.match-self.branch [
      | in-Guide+in_ok-next-in-Guide w ↦ let went : next_of before ≡ Ok after = search rules in rw w.result-is (next-later before after c.requires went)
      | in-Chip+in_ok-next-in-Chip w ↦ let went : next_of before ≡ Ok after = search rules in rw w.result-is (next-later before after c.requires went)
    ]
