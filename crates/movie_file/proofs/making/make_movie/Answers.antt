use Rattle.std.proofs.Common.{◌≡◌, length, arith, rules}
use Rattle.movie_file.proofs.MakingRuns.{explains}
use Rattle.movie_file.proofs.making.make_movie.Goals as goal

pub returns-in-Err-clause-refused : goal.returns-in-Err-clause-refused
returns-in-Err-clause-refused g c =
    explains c.args.cart c.args.inputs.items c.args.every c.in-Err.e (search rules) (rw c.deref.ensures.value at c.in-Err.ensures.err)

pub movie_of-requires : goal.movie_of-requires
movie_of-requires g c =
    let made = rw c.deref.ensures.value at c.in-Ok-run.ensures.ok in
    let count : c.len-3.result ≡ length c.args.inputs.items = omega (arith, c.len-3.ensures, c.args.inputs.ok.0) in
    rw (c.version_made-version.ensures.value, count, c.in-Ok-power_on.ensures.value) (made.2 c.version_made-version.ensures.lawful)

pub returns : goal.returns
returns g c =
    let made = rw c.deref.ensures.value at c.in-Ok-run.ensures.ok in
    let count : c.len-3.result ≡ length c.args.inputs.items = omega (arith, c.len-3.ensures, c.args.inputs.ok.0) in
    rw (c.movie_of.ensures, c.version_made-version.ensures.value, count, c.in-Ok-power_on.ensures.value)
    (record { made = made.0; genuine = made.1; refused = tt; counts = search rules })
