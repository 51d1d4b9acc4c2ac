use Rattle.std.proofs.Common.{◌∙◌, sym, arith}
use Rattle.std.proofs.lemmas.Result.{err_from_is_err_and}
use Rattle.std.proofs.lemmas.List.{length-drop}
use Rattle.movie_file.specs.Format.{input_length}
use Rattle.movie_file.proofs.InputLemmas.{reads_inputs}
use Rattle.movie_file.proofs.ItemLemmas.{go_on, ends, done}
use Rattle.movie_file.proofs.reading.items.inputs_in.Goals as goal

pub returns-in_err-input-clause-gives : goal.returns-in_err-input-clause-gives
returns-in_err-input-clause-gives c =
    let p = err_from_is_err_and c.from_residual.result c.from_residual.ensures.1 in
    rw (p.1, p.2, ← c.loop-i.invariant.so_far) (ends reads_inputs _ _ c.args.count c.loop-i.i _ _ c.loop-i-test.true c.in_err-input.ensures.gives)

pub loop-i-preserved : goal.loop-i-preserved
loop-i-preserved c =
    let step = go_on reads_inputs c.loop-i.inputs.items c.args.count c.loop-i.i _ _ _ c.loop-i-test.true c.in_ok-input.ensures.gives in
    record {
      so_far = rw (c.push_reserved.ensures.items, c.split_at.ensures.back) (sym step ∙ c.loop-i.invariant.so_far);
      read = omega (arith, c.push_reserved.ensures.len, c.loop-i.invariant.read);
      room = omega (arith, c.push_reserved.ensures.capacity, c.loop-i.invariant.room);
      long = omega (arith, length-drop input_length c.loop-i.rest.now);
    }

pub returns-clause-gives : goal.returns-clause-gives
returns-clause-gives c = sym c.loop-i.invariant.so_far ∙ done reads_inputs c.loop-i.inputs.items c.args.count c.loop-i.i _ _ c.loop-i-test.false
