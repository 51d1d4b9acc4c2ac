use Rattle.record_table.proofs.TableLemmas.{bytes_of-length}
use Rattle.record_table.proofs.laws.law_of_lengths.Goals as goal

pub returns : goal.returns
returns g c = λ numbers f. bytes_of-length numbers f
