use Rattle.commands.proofs.refusal.refusal_text.Goals as goal

pub returns-in-Json : goal.returns-in-Json
returns-in-Json c = rw c.in-Json.is (rw c.program_name.ensures at c.refusal_object.ensures)
