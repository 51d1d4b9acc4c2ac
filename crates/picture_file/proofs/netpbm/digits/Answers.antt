use Rattle.std.proofs.Common.{sym, arith}
use Rattle.picture_file.proofs.DecimalDigits.{one_digit, two_digits, three_digits}
use Rattle.picture_file.proofs.netpbm.digits.Goals as goal

pub returns-then-n-lt10-clause-text : goal.returns-then-n-lt10-clause-text
returns-then-n-lt10-clause-text c = sym (one_digit c.args.n (omega arith))

pub returns-then-n-lt100-clause-text : goal.returns-then-n-lt100-clause-text
returns-then-n-lt100-clause-text c = sym (two_digits c.args.n (omega arith) (omega arith))

pub returns-else-n-lt100-clause-text : goal.returns-else-n-lt100-clause-text
returns-else-n-lt100-clause-text c = sym (three_digits c.args.n (omega arith) (omega arith))
