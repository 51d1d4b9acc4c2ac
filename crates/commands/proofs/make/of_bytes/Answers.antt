use Rattle.std.proofs.Common.{None, refl}
use Rattle.std.proofs.lemmas.Result.{IfOk-weaker}
use Rattle.commands.proofs.MadeAnswers.{of_read}
use Rattle.commands.proofs.make.of_bytes.Goals as goal

pub returns-in-Ok : goal.returns-in-Ok
returns-in-Ok g c =
    let read = rw c.deref.ensures.value at c.in-Ok.ensures.exact in
    IfOk-weaker c.of_inputs.result _ _
    (λ answer makes. of_read c.args.cart c.args.form c.args.bytes.items _ _ _ answer c.in-Ok.inputs.items None
    (rw (c.in-Bytes.is, read) refl) (rw c.in-Bytes.is refl) makes)
    c.of_inputs.ensures

pub returns-in-Ok-read_text : goal.returns-in-Ok-read_text
returns-in-Ok-read_text g c =
    let read = rw c.deref-in-Text.ensures.value at c.in-Ok-read_text.ensures.found in
    let stored = rw c.deref-in-Ok-read_text.ensures.value at c.hint_of_storage.ensures in
    IfOk-weaker c.of_inputs-in-Ok-read_text.result _ _
    (λ answer makes. of_read c.args.cart c.args.form c.args.bytes.items _ _ _ answer c.in-Ok-read_text.inputs.items c.hint_of_storage.result
    (rw (c.in-Text.is, read) refl) (rw c.in-Text.is stored) makes)
    c.of_inputs-in-Ok-read_text.ensures

pub returns-in-Bytes : goal.returns-in-Bytes
returns-in-Bytes g c =
    let refused = rw c.deref.ensures.value at (c.in-Err-Of.ensures.refused c.in-Err-Of.error (rw c.in-Err-Of.field-0-is refl)) in
    IfOk-weaker c.no_inputs.result _ _ (λ answer told. rw (c.in-Bytes.is, refused) told) (rw c.in-Err-Of.error-is at c.no_inputs.ensures)

pub bad_line-requires : goal.bad_line-requires
bad_line-requires g c =
    let bad = c.in-Err-Of-read_text in
    rw bad.bad-is (rw c.deref-in-Text.ensures.value at (bad.ensures.bad bad.bad.number (rw bad.field-0-is refl)))

pub returns : goal.returns
returns g c =
    let bad = c.in-Err-Of-read_text in
    let read = rw c.deref-in-Text.ensures.value at (bad.ensures.bad bad.bad.number (rw bad.field-0-is refl)) in
    IfOk-weaker c.bad_line.result _ _ (λ answer told. rw (c.in-Text.is, read) told) (rw bad.bad-is at c.bad_line.ensures)
