use Rattle.std.proofs.Common.{refl, sym, ◌∙◌, lit<}
use Rattle.std.specs.String.{string_bytes}
use Rattle.input_text.proofs.Printed.{next_name}
use Rattle.input_text.proofs.writing.put_line.Goals as goal
use Rattle.input_text.proofs.writing.put_line.Goals.{then-is_held+in_ok-push+in_ok-push_str, else-is_held}

pub loop-name-preserved : goal.loop-name-preserved
loop-name-preserved c =
    let next = next_name (string_bytes c.loop-name.text) c.args.stretch.input c.loop-name.name-index _ c.loop-name-test.true refl in
    elim c.if-is_held.branch [
      | then-is_held+in_ok-push+in_ok-push_str w ↦
          let own = rw (sym c.is_held.ensures ∙ w.if-is_held.true) at next in
          cc (w.in_ok-push_str.ensures.bytes, w.in_ok-push.ensures.bytes, w.named_bit.ensures.word, w.in_ok-push.ensures.ascii (lit< tt))
      | else-is_held w ↦
          let other = rw (sym c.is_held.ensures ∙ w.if-is_held.false) at next in
          let same = w.text-is in
          cc
    ]
