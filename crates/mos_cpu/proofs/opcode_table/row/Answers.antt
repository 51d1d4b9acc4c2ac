use Rattle.mos_cpu.proofs.OpcodeLemmas.{row_in-absent}
use Rattle.mos_cpu.specs.Opcodes.{entries}
use Rattle.mos_cpu.proofs.opcode_table.row.Goals as goal

pub returns-in_default : goal.returns-in_default
returns-in_default c = row_in-absent entries c.args.opcode (assumption c)
