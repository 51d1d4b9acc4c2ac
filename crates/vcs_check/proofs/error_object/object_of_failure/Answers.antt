use Rattle.std.proofs.Common.{◌≡◌, IfOk, Option, Some, string_bytes, subst}
use Rattle.std.proofs.lemmas.Result.{IfOk-weaker}
use Rattle.named_files.specs.declared.file_error.FileError.{FileError}
use Rattle.vcs_check.specs.ErrorObjects.{IsObjectOf}
use Rattle.vcs_check.specs.Failures.{file_error_of}
use Rattle.vcs_check.proofs.error_object.object_of_failure.Goals as goal

pub returns-in-Some : goal.returns-in-Some
returns-in-Some c =
    let e : Some c.in-Some.file_error ≡ file_error_of c.args.failure.now = c.in-Some.ensures in
    let P : Option FileError → Type 0 = λ file_error. IfOk c.object_of_file.result (λ text. IsObjectOf file_error (string_bytes text)) in
    subst P e (IfOk-weaker c.object_of_file.result _ _ (λ text h. (c.deref.result.now, c.deref-in-Some.result.now, rw c.file.ensures at h)) c.object_of_file.ensures)
