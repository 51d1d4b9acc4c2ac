use Rattle.std.proofs.Common.{length, rules}
use Rattle.std.specs.Prelude.{IsTrue}
use Rattle.movie_file.specs.Making.{counts_fit}
use Rattle.commands.proofs.FaultMovies.{IsMadeToTheFault-parts, IsMovie-to_the_fault, IsVerdict-to_the_fault, is_first_fault}
use Rattle.commands.proofs.make_run.make_run.Goals as goal

pub returns-then-not-to_the_fault-clause-refused : goal.returns-then-not-to_the_fault-clause-refused
returns-then-not-to_the_fault-clause-refused g c =
    let far = rw (c.deref.ensures.value, c.in-Some.is) at c.in-Ok-run.ensures.faults in
    (search rules, is_first_fault _ _ _ _ _ _ far, c.if-not-to_the_fault.true)

pub movie_to_the_fault-movie-requires : goal.movie_to_the_fault-movie-requires
movie_to_the_fault-movie-requires g c = λ lawful.
    let far = rw (c.deref.ensures.value, c.in-Some.is) at c.in-Ok-run.ensures.faults in
    let fits : IsTrue (counts_fit (length c.args.inputs.items) c.args.every) = search rules in
    let start = c.in-Ok-power_on.ensures.value in
    rw start (IsMovie-to_the_fault c.args.cart c.args.inputs.items c.args.every _ _ _ far fits lawful (rw start at c.in-Ok-run.ensures.lawful))

pub returns-clause-made : goal.returns-clause-made
returns-clause-made g c =
    let far = rw (c.deref.ensures.value, c.in-Some.is) at c.in-Ok-run.ensures.faults in
    let is = c.movie_to_the_fault-movie.ensures in
    let movie = rw (is.value, c.in-Ok-power_on.ensures.value) at is.lawful in
    rw (is.value, c.in-Ok-power_on.ensures.value) (
      c.if-not-to_the_fault.false,
      is_first_fault _ _ _ _ _ _ far,
      IsMadeToTheFault-parts c.args.cart c.args.inputs.items c.args.every _ _ _ far movie,
      IsVerdict-to_the_fault c.args.cart c.args.inputs.items c.args.every _ _ _ far movie,
    )
