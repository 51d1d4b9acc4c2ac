use Rattle.std.proofs.Common.{◌≡◌, true}
use Rattle.std.proofs.lemmas.Bool.{lt-ltb}
use Rattle.std.specs.Prelude.{nat_lt}
use Rattle.tia_chip.proofs.lit_pixels.LitPixels.of_steps.Goals as goal

pub returns-clause-lit : goal.returns-clause-lit
returns-clause-lit c = λ k playfield l.
    let e : nat_lt k c.args.count ≡ true = lt-ltb k c.args.count l in
    let player0 = rw e at (c.steps.ensures.lit k) in
    let player1 = rw e at (c.steps-2.ensures.lit k) in
    let missile0 = rw e at (c.steps-3.ensures.lit k) in
    let missile1 = rw e at (c.steps-4.ensures.lit k) in
    let ball = rw e at (c.steps-5.ensures.lit k) in
    cc
