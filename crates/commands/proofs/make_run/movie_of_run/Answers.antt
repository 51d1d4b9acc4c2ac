use Rattle.std.proofs.Common.{◌≡◌, length, true, arith}
use Rattle.movie_machine.specs.States.{state_at_power_on}
use Rattle.movie_file.specs.Movie.{IsStateOf}
use Rattle.commands.specs.Make.{is_last_claimed}
use Rattle.commands.proofs.MadeMovies.{IsGenuine-parts, IsMadeMovie-parts, IsMovie-parts, one_more}
use Rattle.commands.proofs.make_run.movie_of_run.Goals as goal

pub with_last_claim-requires-clause-room : goal.with_last_claim-requires-clause-room
with_last_claim-requires-clause-room c = λ is.
    let count : c.len-frames.result ≡ length c.args.inputs.items = omega (arith, c.len-frames.ensures, c.args.inputs.ok.0) in
    let more = one_more (length c.args.inputs.items) c.args.every c.args.to_the_end (rw count at is) in
    omega (arith, more.1, c.requires.room, c.requires.ran.claims.count, c.args.run.checkpoints.ok.0)

pub movie_of-requires : goal.movie_of-requires
movie_of-requires c =
    let count : c.len-frames.result ≡ length c.args.inputs.items = omega (arith, c.len-frames.ensures, c.args.inputs.ok.0) in
    let first : IsStateOf c.args.cart (state_at_power_on c.args.cart) = rw (← c.requires.start) c.requires.first in
    let last = λ (claimed : is_last_claimed (length c.args.inputs.items) c.args.every c.args.to_the_end ≡ true).
    c.in_ok-checkpoints.ensures.lawful (rw count claimed) c.args.cart c.requires.cartridge in
    rw (c.version_made-version.ensures.value, c.in_ok-checkpoints.ensures.items, count, c.requires.start)
    (IsMovie-parts c.args.cart c.args.inputs.items c.args.every c.args.to_the_end _ _ c.requires.fits c.requires.ran first last c.requires.lawful)

pub returns : goal.returns
returns c =
    let count : c.len-frames.result ≡ length c.args.inputs.items = omega (arith, c.len-frames.ensures, c.args.inputs.ok.0) in
    let first : IsStateOf c.args.cart (state_at_power_on c.args.cart) = rw (← c.requires.start) c.requires.first in
    let last = λ (claimed : is_last_claimed (length c.args.inputs.items) c.args.every c.args.to_the_end ≡ true).
    c.in_ok-checkpoints.ensures.lawful (rw count claimed) c.args.cart c.requires.cartridge in
    let lawful = c.requires.lawful in
    rw (c.movie_of.ensures, c.version_made-version.ensures.value, c.in_ok-checkpoints.ensures.items, count, c.requires.start)
    (record {
      made = IsMadeMovie-parts c.args.cart c.args.inputs.items c.args.every c.args.to_the_end _ _ c.requires.fits c.requires.ran first last lawful;
      genuine = IsGenuine-parts c.args.cart c.args.inputs.items c.args.every c.args.to_the_end _ _ c.requires.fits c.requires.ran first last lawful;
      memory = tt;
    })
