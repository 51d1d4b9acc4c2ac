use Rattle.tia_core.proofs.write.write_register.Goals as goal

pub returns-in-Grp0-clause-value : goal.returns-in-Grp0-clause-value
returns-in-Grp0-clause-value c = rw c.in-Grp0.is (c.write_grp0.ensures.value c.args.fire0 c.args.fire1)

pub returns-in-Grp1-clause-value : goal.returns-in-Grp1-clause-value
returns-in-Grp1-clause-value c = rw c.in-Grp1.is (c.write_grp1.ensures.value c.args.fire0 c.args.fire1)

pub returns-in-Hmove-clause-value : goal.returns-in-Hmove-clause-value
returns-in-Hmove-clause-value c = rw c.in-Hmove.is (c.write_hmove.ensures.value c.args.fire0 c.args.fire1 c.args.value)
