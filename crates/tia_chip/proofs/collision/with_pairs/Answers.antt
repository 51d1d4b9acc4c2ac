use Rattle.std.proofs.lemmas.Nat.{or_lt}
use Rattle.tia_chip.proofs.collision.with_pairs.Goals as goal

pub returns-clause-range : goal.returns-clause-range
returns-clause-range c = or_lt 15 c.args.collisions c.args.pairs c.requires.collisions c.requires.pairs
