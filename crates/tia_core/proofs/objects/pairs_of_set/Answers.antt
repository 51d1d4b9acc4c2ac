use Rattle.std.proofs.Common.{◌∙◌, ap, slice_index_or, ℕ}
use Rattle.tia_core.specs.declared.objects.TheConstants.{PAIRS}
use Rattle.tia_core.proofs.PairLemmas.{table-pairs}
use Rattle.tia_core.proofs.objects.pairs_of_set.Goals as goal

pub returns : goal.returns
returns c = λ objects same. ap (λ (n : ℕ). slice_index_or PAIRS.now n 0) same ∙ table-pairs objects
