use Rattle.std.proofs.Common.{rules}
use Rattle.tia_core.proofs.LawfulNumbers.{lawful_of}
use Rattle.tia_core.proofs.tia.Tia.from_fields.Goals as goal

pub invariant_of-result : goal.invariant_of-result
invariant_of-result c = (lawful_of c.args.fields (rw c.is_lawful.ensures at c.if-is_lawful.true), search rules)
