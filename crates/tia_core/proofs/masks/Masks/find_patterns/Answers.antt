use Rattle.tia_core.proofs.masks.Masks.find_patterns.Goals as goal

pub returns-else-self-clause-fresh : goal.returns-else-self-clause-fresh
returns-else-self-clause-fresh c = c.requires.none_reshaped c.if-self.false
