use Rattle.std.proofs.lemmas.Result.{err_from_is_err_and}
use Rattle.run_cursor.proofs.CursorLemmas.{here, not_further, one_further}
use Rattle.run_cursor.proofs.cursor.Cursor.advance_timed.Goals as goal

pub frame-requires : goal.frame-requires
frame-requires c = rw (c.cart.ensures, c.in-Ok.ensures.value) c.self.invariant.cartridge

pub returns-in_err-timed-clause-err : goal.returns-in_err-timed-clause-err
returns-in_err-timed-clause-err c =
    let p = err_from_is_err_and c.from_residual.result c.from_residual.ensures.1 in
    rw (p.1, p.2, ← c.self.view_is)
    (not_further _ _ _ _ _ c.input.result c.self.invariant c.cart.ensures c.input.ensures _
    (rw c.in-Ok.ensures.value at c.in_err-timed.ensures.err))

pub invariant_of-self : goal.invariant_of-self
invariant_of-self c =
    let played = rw c.in-Ok.ensures.value at c.in_ok-timed.ensures.ok in
    one_further _ _ _ _ _ c.input.result c.self.invariant c.cart.ensures c.input.ensures (rw (← c.self.view_is) at c.requires.more)
    played.0 _ played.1 c.in_ok-timed.ensures.cartridge

pub returns-clause-ok : goal.returns-clause-ok
returns-clause-ok c =
    let played = rw c.in-Ok.ensures.value at c.in_ok-timed.ensures.ok in
    rw (← c.self.view_is)
    (one_further _ _ _ _ _ c.input.result c.self.invariant c.cart.ensures c.input.ensures (rw (← c.self.view_is) at c.requires.more)
    played.0 _ played.1 c.in_ok-timed.ensures.cartridge)

pub returns-clause-timed : goal.returns-clause-timed
returns-clause-timed c =
    let played = rw (c.in-Ok.ensures.value, c.cart.ensures) at c.in_ok-timed.ensures.ok in
    rw (← c.self.view_is) (
      c.input.result,
      played.0,
      here _ _ _ c.frame.new.state _ c.input.result c.self.invariant c.cart.ensures c.input.ensures,
      played.1,
      played.2,
      played.3,
    )
