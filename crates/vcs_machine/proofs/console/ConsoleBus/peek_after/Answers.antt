use Rattle.std.proofs.Common.{rules, ◌<◌}
use Rattle.vcs_machine.proofs.BankLemmas.{told-after}
use Rattle.vcs_machine.proofs.console.ConsoleBus.peek_after.Goals as goal

pub returns-in-Cart : goal.returns-in-Cart
returns-in-Cart g c =
    let word : c.args.address < 65536 = search rules in
    told-after g.S.Paint.drawn c.args.self.now c.args.address c.in-Cart.address
    c.self.inside.mapped.cart.now c.self.inside.mapped.bank c.after.result word (search rules)
    (cc) (cc)
    c.after.ensures.byte c.after.ensures.inside
