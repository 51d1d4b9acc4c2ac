use Rattle.std.proofs.Common.{refl}
use Rattle.commands.proofs.remark.Remark.hint.Goals as goal

pub returns-in_ok-hint-in-NoInputs : goal.returns-in_ok-hint-in-NoInputs
returns-in_ok-hint-in-NoInputs c =
    let told = c.in_ok-hint-in-NoInputs in
    rw c.in-NoInputs.is (told.hint, rw c.deref.ensures.value at told.ensures, refl)
