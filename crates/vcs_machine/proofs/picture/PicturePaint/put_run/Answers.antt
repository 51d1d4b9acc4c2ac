use Rattle.std.proofs.Common.{slice_index_or, arith}
use Rattle.std.proofs.lemmas.List.{get_or_default}
use Rattle.vcs_machine.proofs.RowLemmas.{run-inside, run-outside}
use Rattle.vcs_machine.proofs.picture.PicturePaint.put_run.Goals as goal

pub returns-then-line-len : goal.returns-then-line-len
returns-then-line-len c = grind (arith, slice_index_or, get_or_default, run-inside)

pub returns-else-line-len : goal.returns-else-line-len
returns-else-line-len c = grind (arith, run-outside)
