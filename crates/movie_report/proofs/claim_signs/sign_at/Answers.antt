use Rattle.std.proofs.Common.{arith, sym}
use Rattle.movie_report.proofs.ClaimSignLemmas.{faults_before}
use Rattle.movie_report.proofs.claim_signs.sign_at.Goals as goal

pub returns-in-Ok-clause-at : goal.returns-in-Ok-clause-at
returns-in-Ok-clause-at g c = (c.args.claim.now.frame, omega arith, c.in-Ok.ensures.ok)

pub returns-in-Err-Of-clause-sign : goal.returns-in-Err-Of-clause-sign
returns-in-Err-Of-clause-sign g c =
    let fails = rw c.in-Err-Of.field-0-is at c.in-Err-Of.ensures.err in
    sym (faults_before c.args.cursor.now.movie c.args.claim.now _ _ fails.0)

pub returns-in-Err-Of-clause-at : goal.returns-in-Err-Of-clause-at
returns-in-Err-Of-clause-at g c =
    let ((k, less, is, fault), at) = rw c.in-Err-Of.field-0-is at c.in-Err-Of.ensures.err in (_, omega (arith, less, is), at)
