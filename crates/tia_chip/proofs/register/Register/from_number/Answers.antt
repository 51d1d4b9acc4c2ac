use Rattle.std.proofs.Common.{sym, ◌%◌}
use Rattle.std.proofs.lemmas.List.{get_or_default, get_or_past}
use Rattle.tia_chip.specs.declared.register.Register.TheVariants.{Ignored}
use Rattle.tia_chip.specs.Registers.{registers_list}
use Rattle.tia_chip.proofs.register.Register.from_number.Goals as goal

pub returns-then-index-lt45 : goal.returns-then-index-lt45
returns-then-index-lt45 c = get_or_default registers_list (c.args.number % 64) _ Ignored c.if-index-lt45.true

pub returns-else-index-lt45 : goal.returns-else-index-lt45
returns-else-index-lt45 c = sym (get_or_past registers_list (c.args.number % 64) Ignored c.if-index-lt45.false)
