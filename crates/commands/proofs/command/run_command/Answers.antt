use Rattle.std.proofs.Common.{◌≡◌, Ok, Err, ap, inl, inr, refl, rules, sym}
use Rattle.std.proofs.lemmas.Result.{IfOk-weaker}
use Rattle.command_line.specs.Writing.{writing_of}
use Rattle.movie_file.specs.Reading.{movie_at}
use Rattle.picture_file.proofs.BytesWritten.{appends_nothing, keeps_same}
use Rattle.commands.specs.Answers.{conclusion_of}
use Rattle.commands.specs.Commands.{IsAboutMovies}
use Rattle.commands.proofs.CommandAnswers.{of_movie, of_refusal, text_in_part}
use Rattle.commands.proofs.WrittenFrames.{the_error}
use Rattle.commands.proofs.command.run_command.Goals as goal

pub returns-in-Make-clause-ok : goal.returns-in-Make-clause-ok
returns-in-Make-clause-ok g c =
    let answer = c.in_ok-answer.answer in
    let wrote = c.in_ok-write_file_first.ensures.ok in
    rw (c.in-Make.is, wrote.0)
    (c.in_ok-rom.rom.items, answer.text, answer.file, c.in_ok-rom.ensures.all, rw c.known_of-board.ensures at c.in_ok-answer.ensures.makes, wrote.2, wrote.1)

pub returns-in_err-write_file_first-clause-write_fault : goal.returns-in_err-write_file_first-clause-write_fault
returns-in_err-write_file_first-clause-write_fault g c = λ is.
    let answer = c.in_ok-answer.answer in
    rw c.in-Make.is
    (c.in_ok-rom.rom.items, conclusion_of answer, answer.text, answer.file, c.in_ok-rom.ensures.all, rw c.known_of-board.ensures at c.in_ok-answer.ensures.makes, c.in_err-write_file_first.ensures.fault)

pub returns-in_err-expected-in-Ok-clause-too_long : goal.returns-in_err-expected-in-Ok-clause-too_long
returns-in_err-expected-in-Ok-clause-too_long g c = λ is.
    let from = c.from_residual-in_err-expected-in-Ok in
    let error = ap Err (the_error from.result _ _ from.ensures.1 is) in
    inr (inr (c.in_err-expected-in-Ok.ensures.named error), c.in_err-expected-in-Ok.ensures.too_long error)

pub returns-in-Ok-clause-ok : goal.returns-in-Ok-clause-ok
returns-in-Ok-clause-ok g c =
    let bytes = c.in_ok-bytes.bytes.items in
    let about : IsAboutMovies c.args.request.now.line.now.command = search rules in
    let read : movie_at bytes ≡ Ok c.in-Ok.movie = rw c.in-Ok.is at (sym c.in_ok-bytes.ensures.found) in
    let reads = rw (← c.as_deref.ensures.value) at c.in_ok-expected-in-Ok.ensures.reads in
    IfOk-weaker c.answer_movie.result _ _
    (λ end h. (bytes, h.0.text, h.0.file, c.in_ok-bytes.ensures.all, of_movie c.args.request.now.line.now bytes _ _ end h.0 about h.2 _ _ read reads h.1, h.3, h.4))
    (rw c.deref.ensures.value at c.answer_movie.ensures.ok)

pub returns-in-Ok-clause-write_fault : goal.returns-in-Ok-clause-write_fault
returns-in-Ok-clause-write_fault g c = λ is.
    let bytes = c.in_ok-bytes.bytes.items in
    let about : IsAboutMovies c.args.request.now.line.now.command = search rules in
    let read : movie_at bytes ≡ Ok c.in-Ok.movie = rw c.in-Ok.is at (sym c.in_ok-bytes.ensures.found) in
    let reads = rw (← c.as_deref.ensures.value) at c.in_ok-expected-in-Ok.ensures.reads in
    let h = (rw c.deref.ensures.value at c.answer_movie.ensures.write_fault) is in
    (bytes, conclusion_of h.0, h.0.text, h.0.file, c.in_ok-bytes.ensures.all, of_movie c.args.request.now.line.now bytes _ _ _ h.0 about refl _ _ read reads h.1, h.2)

pub returns-in-Ok-clause-memory : goal.returns-in-Ok-clause-memory
returns-in-Ok-clause-memory g c = λ is.
    let bytes = c.in_ok-bytes.bytes.items in
    let read : movie_at bytes ≡ Ok c.in-Ok.movie = rw c.in-Ok.is at (sym c.in_ok-bytes.ensures.found) in
    elim (c.answer_movie.ensures.memory is) [ inl quiet ↦ inl quiet | inr begun ↦ inr (bytes, c.in-Ok.movie, c.in_ok-bytes.ensures.all, read, begun) ]

pub returns-in_err-write_text-in-Err-clause-write_fault : goal.returns-in_err-write_text-in-Err-clause-write_fault
returns-in_err-write_text-in-Err-clause-write_fault g c = λ is.
    let bytes = c.in_ok-bytes.bytes.items in
    let answer = c.in_ok-answer-in-Err.answer in
    let about : IsAboutMovies c.args.request.now.line.now.command = search rules in
    let read : movie_at bytes ≡ Err c.in-Err.error = rw c.in-Err.is at (sym c.in_ok-bytes.ensures.found) in
    let told = rw c.deref-in-Err.ensures.value at c.in_ok-answer-in-Err.ensures in (
      bytes,
      conclusion_of answer,
      answer.text,
      _,
      c.in_ok-bytes.ensures.all,
      of_refusal c.args.request.now.line.now bytes _ _ _ answer about refl _ read (keeps_same _) told,
      text_in_part (writing_of c.args.request.now.line.now.command) _ _ _ _ c.in_err-write_text-in-Err.ensures.fault,
    )

pub returns-clause-ok : goal.returns-clause-ok
returns-clause-ok g c =
    let bytes = c.in_ok-bytes.bytes.items in
    let answer = c.in_ok-answer-in-Err.answer in
    let about : IsAboutMovies c.args.request.now.line.now.command = search rules in
    let read : movie_at bytes ≡ Err c.in-Err.error = rw c.in-Err.is at (sym c.in_ok-bytes.ensures.found) in
    let told = rw c.deref-in-Err.ensures.value at c.in_ok-answer-in-Err.ensures in
    let wrote = c.in_ok-write_text-in-Err.ensures.ok in
    (bytes, answer.text, _, c.in_ok-bytes.ensures.all, of_refusal c.args.request.now.line.now bytes _ _ _ answer about wrote.0 _ read (keeps_same _) told, wrote.1, appends_nothing _)
