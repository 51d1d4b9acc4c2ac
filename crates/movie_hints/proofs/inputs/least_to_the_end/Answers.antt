use Rattle.std.proofs.Common.{◌≡◌, arith, rules}
use Rattle.movie_hints.proofs.LeastLemmas.{few_with_least, least_of_few}
use Rattle.movie_hints.proofs.inputs.least_to_the_end.Goals as goal

pub returns : goal.returns
returns c =
    let most : c.from.result ≡ 4095 = search rules in
    rw (c.div_ceil.ensures, most)
    (record { least = few_with_least c.args.frames (omega (arith, c.requires)); others = λ other some few. least_of_few c.args.frames other some few })
