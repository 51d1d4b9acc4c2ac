use Rattle.record_table.proofs.TableLemmas.{bytes_of-append, are_lawful-append}
use Rattle.record_table.proofs.laws.law_of_parts.Goals as goal

pub returns-clause-bytes : goal.returns-clause-bytes
returns-clause-bytes g c = λ first second f. bytes_of-append first second f

pub returns-clause-lawful : goal.returns-clause-lawful
returns-clause-lawful g c = λ first second f. are_lawful-append first second f
