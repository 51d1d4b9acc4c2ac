use Rattle.run_cursor.proofs.CursorLemmas.{not_past}
use Rattle.run_cursor.proofs.laws.law_of_one_cursor.Goals as goal

pub returns-clause-none : goal.returns-clause-none
returns-clause-none c = not_past
