use Rattle.std.proofs.Common.{string_bytes}
use Rattle.std.specs.NonZero.{non_zero_u32_get}
use Rattle.input_text.proofs.Printed.{numbered_all, numbered_more}
use Rattle.input_text.proofs.writing.write_numbered.Goals as goal

pub loop-stretch-preserved : goal.loop-stretch-preserved
loop-stretch-preserved c =
    rw (c.in-Some.ensures.rest, c.in_ok-put_line.ensures, c.in_ok-write.ensures.bytes)
    (numbered_more (non_zero_u32_get c.args.first) c.args.inputs.now _ c.loop-stretch.rest.now _ c.in-Some.stretch
    c.in-Some.ensures.stretch c.in-Some.ensures.within c.loop-stretch.invariant)

pub returns : goal.returns
returns c =
    let done = rw c.in_default.ensures.stretch at c.loop-stretch.invariant in
    numbered_all (non_zero_u32_get c.args.first) c.args.inputs.now c.loop-stretch.frame (string_bytes c.loop-stretch.listing) done
