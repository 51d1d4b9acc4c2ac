use Rattle.vcs_check.proofs.ObjectLemmas.{no_object}
use Rattle.vcs_check.proofs.error_object.write_error_object.Goals as goal

pub returns-in-Err : goal.returns-in-Err
returns-in-Err g c = no_object c.args.failure.now _
