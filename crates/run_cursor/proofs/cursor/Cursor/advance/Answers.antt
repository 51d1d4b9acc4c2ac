use Rattle.run_cursor.proofs.CursorLemmas.{fault_here, one_further}
use Rattle.run_cursor.proofs.cursor.Cursor.advance.Goals as goal

pub halt-requires : goal.halt-requires
halt-requires c = rw (c.cart.ensures, c.in-Ok.ensures.value) c.self.invariant.cartridge

pub invariant_of-self : goal.invariant_of-self
invariant_of-self c =
    one_further _ _ _ _ _ c.input.result c.self.invariant c.cart.ensures c.input.ensures (rw (← c.self.view_is) at c.requires.more)
    c.in-None.ensures.ended.0 c.in-None.ensures.ended.1 (rw c.in-Ok.ensures.value at c.in-None.ensures.ended.2) c.in-None.ensures.cartridge

pub returns-in-None-clause-ok : goal.returns-in-None-clause-ok
returns-in-None-clause-ok c =
    rw (← c.self.view_is)
    (one_further _ _ _ _ _ c.input.result c.self.invariant c.cart.ensures c.input.ensures (rw (← c.self.view_is) at c.requires.more)
    c.in-None.ensures.ended.0 c.in-None.ensures.ended.1 (rw c.in-Ok.ensures.value at c.in-None.ensures.ended.2) c.in-None.ensures.cartridge)

pub returns-in-Some-clause-err : goal.returns-in-Some-clause-err
returns-in-Some-clause-err c =
    rw (← c.self.view_is)
    (fault_here _ _ _ c.halt.new.state _ c.input.result c.self.invariant c.cart.ensures c.input.ensures c.in-Some.halt.kind _
    (rw c.in-Ok.ensures.value at c.in-Some.ensures.failed))
