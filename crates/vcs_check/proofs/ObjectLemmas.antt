-- What a writer gets of an error's object.
use Rattle.std.proofs.Common.{Option, Some, None, List, ℕ, [], ◌++◌, codes, refl}
use Rattle.named_files.specs.declared.file_error.FileError.{FileError}
use Rattle.picture_file.proofs.BytesWritten.{keeps_same}
use Rattle.vcs_check.proofs.FileParts.{nothing}
use Rattle.vcs_check.specs.ErrorObjects.{GetsErrorObject, IsObjectOf, error_object, file_error_object}
use Rattle.vcs_check.specs.Failures.{file_error_of}
use Rattle.vcs_check.specs.declared.failure.Failure.{Failure}

pub some_object : (file_error : Option FileError) → (text : List ℕ) × IsObjectOf file_error text
some_object None = (error_object [], ([], refl))
some_object (Some file_error) = (file_error_object [] file_error.file.now [], ([], [], refl))

-- Of an object of which nothing is written,
pub no_object : (failure : Failure) (a : Option (List ℕ)) → GetsErrorObject failure a a
no_object failure a =
    let object = some_object (file_error_of failure) in
    (object.0 ++ codes "\n", (object.0, object.1, refl), nothing a a (object.0 ++ codes "\n") (keeps_same a))
