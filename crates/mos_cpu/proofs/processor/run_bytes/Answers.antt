use Rattle.mos_cpu.specs.Opcodes.{entries}
use Rattle.mos_cpu.proofs.OpcodeLemmas.{row_in-absent}
use Rattle.mos_cpu.proofs.OpcodeRunLemmas.{decoded-unknown}
use Rattle.std.proofs.Common.{rules, refl}
use Rattle.mos_cpu.proofs.processor.run_bytes.Goals as goal

pub returns-in_default : goal.returns-in_default
returns-in_default g c =
    record {
      registers = refl;
      bus_state = refl;
      fault = decoded-unknown g.B.Bus.meaning c.args.cpu.now (g.B.Bus.state c.args.bus.now) c.args.opcode (search rules)
          (row_in-absent entries c.args.opcode (assumption c));
    }
