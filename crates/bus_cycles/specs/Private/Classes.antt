-- The classes of instructions that are done in one go. For proofs alone: no public contract names them.
use Rattle.mos_cpu.specs.declared.opcode_row.Row.{Row}
use Rattle.mos_cpu.specs.declared.mode.Mode.{Mode}
use Rattle.mos_cpu.specs.declared.mode.Mode.TheVariants.{Accumulator, Immediate, ZeroPage}
use Rattle.bus_cycles.specs.Private.Kinds.{kind_of}
use Rattle.bus_cycles.specs.declared.class.Class.{Class}
use Rattle.bus_cycles.specs.declared.class.Class.TheVariants as class
use Rattle.bus_cycles.specs.declared.kind.Kind.{Kind}
use Rattle.bus_cycles.specs.declared.kind.Kind.TheVariants as kind

abbrev pub class_by : Kind → Mode → Class
class_by kind.Implied mode = class.Implied
class_by kind.Branch mode = class.Branch
class_by kind.Change Accumulator = class.Accumulator
class_by kind.Read Immediate = class.Immediate
class_by kind.Read ZeroPage = class.ZeroPageRead
class_by kind.Read mode = class.MemoryRead
class_by kind.Store ZeroPage = class.ZeroPageStore
class_by other mode = class.Other

abbrev pub class_of : Row → Class
class_of row = class_by (kind_of row.operation) row.mode
