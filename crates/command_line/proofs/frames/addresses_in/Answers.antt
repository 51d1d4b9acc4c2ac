use Rattle.command_line.proofs.Addresses.{no_address_at}
use Rattle.command_line.proofs.frames.addresses_in.Goals as goal

pub returns-in_err-address-clause-none : goal.returns-in_err-address-clause-none
returns-in_err-address-clause-none c =
    rw c.from_residual.ensures (λ addresses are few.
    no_address_at c.args.words.now c.loop-word.word-index _ c.loop-word-test.true c.in_err-address.ensures.none addresses are)
