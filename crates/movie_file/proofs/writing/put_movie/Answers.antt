use Rattle.std.proofs.Common.{append_assoc}
use Rattle.movie_file.proofs.PrefixLemmas.{prefix_then}
use Rattle.movie_file.proofs.writing.put_movie.Goals as goal

pub returns-in_err-put_state-clause-prefix : goal.returns-in_err-put_state-clause-prefix
returns-in_err-put_state-clause-prefix c =
    prefix_then _ _ _ _ c.in_ok-put_header.ensures.ok (prefix_then _ _ _ _ c.in_ok-extend_from_slice.ensures.items c.in_err-put_state.ensures.prefix)

pub returns-in_err-put_inputs-clause-prefix : goal.returns-in_err-put_inputs-clause-prefix
returns-in_err-put_inputs-clause-prefix c =
    prefix_then _ _ _ _ c.in_ok-put_header.ensures.ok (prefix_then _ _ _ _ c.in_ok-extend_from_slice.ensures.items
    (prefix_then _ _ _ _ c.in_ok-put_state.ensures.ok c.in_err-put_inputs.ensures.prefix))

pub returns-in_err-put_checkpoints-clause-prefix : goal.returns-in_err-put_checkpoints-clause-prefix
returns-in_err-put_checkpoints-clause-prefix c =
    prefix_then _ _ _ _ c.in_ok-put_header.ensures.ok (prefix_then _ _ _ _ c.in_ok-extend_from_slice.ensures.items
    (prefix_then _ _ _ _ c.in_ok-put_state.ensures.ok (prefix_then _ _ _ _ c.in_ok-put_inputs.ensures.ok c.in_err-put_checkpoints.ensures.prefix)))

pub returns-clause-ok : goal.returns-clause-ok
returns-clause-ok c =
    rw (c.in_ok-put_checkpoints.ensures.ok, c.in_ok-put_inputs.ensures.ok, c.in_ok-put_state.ensures.ok, c.in_ok-extend_from_slice.ensures.items)
    (rw (c.in_ok-put_header.ensures.ok, c.bytes.ensures.value, c.cart-cart.ensures, c.version-version.ensures.value)
    (rw (c.start.ensures, c.inputs.ensures, c.all_checkpoints.ensures) (simp append_assoc)))
