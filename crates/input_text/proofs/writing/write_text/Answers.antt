use Rattle.input_text.proofs.Printed.{printed_more}
use Rattle.input_text.proofs.writing.write_text.Goals as goal

pub loop-stretch-preserved : goal.loop-stretch-preserved
loop-stretch-preserved c =
    rw (c.in-Some.ensures.rest, c.in_ok-put_line.ensures)
    (printed_more c.args.inputs.now c.loop-stretch.rest.now _ c.in-Some.stretch c.in-Some.ensures.stretch c.loop-stretch.invariant)
