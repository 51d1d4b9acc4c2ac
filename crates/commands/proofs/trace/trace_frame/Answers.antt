use Rattle.std.proofs.Common.{Err, ap, inr}
use Rattle.picture_file.proofs.BytesWritten.{appends_then, prefix_after}
use Rattle.commands.specs.declared.status.Status.TheVariants as statuses
use Rattle.commands.proofs.TraceSteps.{begun_fresh}
use Rattle.commands.proofs.TracedFrames.{begins_with, traced_end, traced_fault, traced_part, traced_unended}
use Rattle.commands.proofs.WrittenFrames.{the_error}
use Rattle.commands.proofs.trace.trace_frame.Goals as goal

pub write_instructions-requires-clause-fresh : goal.write_instructions-requires-clause-fresh
write_instructions-requires-clause-fresh g c = (begun_fresh _ _ _ _ c.in-Ok.ensures.value).0

pub write_instructions-requires-clause-unended : goal.write_instructions-requires-clause-unended
write_instructions-requires-clause-unended g c = (begun_fresh _ _ _ _ c.in-Ok.ensures.value).1

pub returns-in_err-write_instructions-clause-memory : goal.returns-in_err-write_instructions-clause-memory
returns-in_err-write_instructions-clause-memory g c = λ is.
    let error = the_error c.from_residual.result _ _ c.from_residual.ensures.1 is in
    let begins = begins_with c.args.movie.now c.args.frame _ _ _ _ c.cart.ensures c.requires.ran c.input.ensures c.in-Ok.ensures.value in
    let part = c.in_err-write_instructions.ensures.memory (ap Err error) in
    inr (c.in-Ok.stepping, part.0, part.1, begins, part.2, part.3)

pub returns-in_err-write_instructions-clause-fault : goal.returns-in_err-write_instructions-clause-fault
returns-in_err-write_instructions-clause-fault g c = λ is.
    let error = the_error c.from_residual.result _ _ c.from_residual.ensures.1 is in
    let begins = begins_with c.args.movie.now c.args.frame _ _ _ _ c.cart.ensures c.requires.ran c.input.ensures c.in-Ok.ensures.value in
    let part = c.in_err-write_instructions.ensures.fault (ap Err error) in
    traced_part c.args.movie.now c.args.frame c.in-Ok.stepping begins part.0 part.1 part.2 _ _ part.3

pub returns-in_err-write_last-in-None-clause-memory : goal.returns-in_err-write_last-in-None-clause-memory
returns-in_err-write_last-in-None-clause-memory g c = λ is.
    let error = the_error c.from_residual-in_err-write_last-in-None.result _ _ c.from_residual-in_err-write_last-in-None.ensures.1 is in
    let begins = begins_with c.args.movie.now c.args.frame _ _ _ _ c.cart.ensures c.requires.ran c.input.ensures c.in-Ok.ensures.value in
    let all = rw c.in-None.is at c.in_ok-write_instructions.ensures.ok in
    inr (traced_unended c.args.movie.now c.args.frame c.in-Ok.stepping begins all.0 all.1 all.2 _ _ _ all.4
    (c.in_err-write_last-in-None.ensures.memory (ap Err error)))

pub returns-in_err-write_last-in-Some-clause-memory : goal.returns-in_err-write_last-in-Some-clause-memory
returns-in_err-write_last-in-Some-clause-memory g c = λ is.
    let error = the_error c.from_residual-in_err-write_last-in-Some.result _ _ c.from_residual-in_err-write_last-in-Some.ensures.1 is in
    let begins = begins_with c.args.movie.now c.args.frame _ _ _ _ c.cart.ensures c.requires.ran c.input.ensures c.in-Ok.ensures.value in
    let all = rw c.in-Some.is at c.in_ok-write_instructions.ensures.ok in
    inr (traced_unended c.args.movie.now c.args.frame c.in-Ok.stepping begins all.0 all.1 all.2 _ _ _ all.4
    (c.in_err-write_last-in-Some.ensures.memory (ap Err error)))

pub returns-in_err-write_last-in-None-clause-fault : goal.returns-in_err-write_last-in-None-clause-fault
returns-in_err-write_last-in-None-clause-fault g c = λ is.
    let error = the_error c.from_residual-in_err-write_last-in-None.result _ _ c.from_residual-in_err-write_last-in-None.ensures.1 is in
    let begins = begins_with c.args.movie.now c.args.frame _ _ _ _ c.cart.ensures c.requires.ran c.input.ensures c.in-Ok.ensures.value in
    let all = rw c.in-None.is at c.in_ok-write_instructions.ensures.ok in
    let last = rw (c.cycles.ensures, c.rows.ensures) at (c.in_err-write_last-in-None.ensures.fault (ap Err error)) in
    let told = traced_end c.args.movie.now c.args.frame c.in-Ok.stepping begins all.0 c.write_instructions.new.stepping all.1 all.2 all.3 in
    (statuses.Done, _, told, prefix_after _ _ _ _ _ all.4 last)

pub returns-in_err-write_last-in-Some-clause-fault : goal.returns-in_err-write_last-in-Some-clause-fault
returns-in_err-write_last-in-Some-clause-fault g c = λ is.
    let error = the_error c.from_residual-in_err-write_last-in-Some.result _ _ c.from_residual-in_err-write_last-in-Some.ensures.1 is in
    let begins = begins_with c.args.movie.now c.args.frame _ _ _ _ c.cart.ensures c.requires.ran c.input.ensures c.in-Ok.ensures.value in
    let all = rw c.in-Some.is at c.in_ok-write_instructions.ensures.ok in
    let told = traced_fault c.args.movie.now c.args.frame c.in-Ok.stepping begins all.0 c.in-Some.kind c.write_instructions.new.stepping all.1 all.2 all.3 in
    (statuses.Fault, _, told, prefix_after _ _ _ _ _ all.4 (c.in_err-write_last-in-Some.ensures.fault (ap Err error)))

pub returns-in-None-clause-ok : goal.returns-in-None-clause-ok
returns-in-None-clause-ok g c =
    let begins = begins_with c.args.movie.now c.args.frame _ _ _ _ c.cart.ensures c.requires.ran c.input.ensures c.in-Ok.ensures.value in
    let all = rw c.in-None.is at c.in_ok-write_instructions.ensures.ok in
    let last = rw (c.cycles.ensures, c.rows.ensures) at c.in_ok-write_last-in-None.ensures.ok in
    let told = traced_end c.args.movie.now c.args.frame c.in-Ok.stepping begins all.0 c.write_instructions.new.stepping all.1 all.2 all.3 in
    (_, told, appends_then _ _ _ _ _ all.4 last)

pub returns-clause-ok : goal.returns-clause-ok
returns-clause-ok g c =
    let begins = begins_with c.args.movie.now c.args.frame _ _ _ _ c.cart.ensures c.requires.ran c.input.ensures c.in-Ok.ensures.value in
    let all = rw c.in-Some.is at c.in_ok-write_instructions.ensures.ok in
    let told = traced_fault c.args.movie.now c.args.frame c.in-Ok.stepping begins all.0 c.in-Some.kind c.write_instructions.new.stepping all.1 all.2 all.3 in
    (_, told, appends_then _ _ _ _ _ all.4 c.in_ok-write_last-in-Some.ensures.ok)
