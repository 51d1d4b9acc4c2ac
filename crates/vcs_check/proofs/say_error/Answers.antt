use Rattle.vcs_check.proofs.ObjectLemmas.{no_object}
use Rattle.vcs_check.proofs.say_error.Goals as goal

pub returns-else-says_errors-clause-object : goal.returns-else-says_errors-clause-object
returns-else-says_errors-clause-object g c = λ says. no_object c.args.failure.now _
