use Rattle.commands.proofs.command.answer.Goals as goal

pub returns-in_ok-cut-in-Cut-clause-answer : goal.returns-in_ok-cut-in-Cut-clause-answer
returns-in_ok-cut-in-Cut-clause-answer g c = rw c.in-Cut.is c.in_ok-cut-in-Cut.ensures

pub returns-in-Report-clause-answer : goal.returns-in-Report-clause-answer
returns-in-Report-clause-answer g c = rw c.in-Report.is c.report.ensures.answer
