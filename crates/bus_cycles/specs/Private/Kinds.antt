-- Operations that are alike in their cycles, as the body tells them apart. For proofs alone: no public
-- contract names them.
use Rattle.mos_cpu.specs.declared.operation.Operation.{Operation}
use Rattle.mos_cpu.specs.declared.operation.Operation.TheVariants.{Adc, And, Asl, Bcc, Bcs, Beq}
use Rattle.mos_cpu.specs.declared.operation.Operation.TheVariants.{Bit, Bmi, Bne, Bpl, Brk, Bvc}
use Rattle.mos_cpu.specs.declared.operation.Operation.TheVariants.{Bvs, Cmp, Cpx, Cpy, Dec, Eor}
use Rattle.mos_cpu.specs.declared.operation.Operation.TheVariants.{Inc, Jmp, Jsr, Lda, Ldx, Ldy}
use Rattle.mos_cpu.specs.declared.operation.Operation.TheVariants.{Lsr, Ora, Pha, Php, Pla, Plp}
use Rattle.mos_cpu.specs.declared.operation.Operation.TheVariants.{Rol, Ror, Rti, Rts, Sbc, Sta, Stx, Sty}
use Rattle.bus_cycles.specs.declared.kind.Kind.{Kind}
use Rattle.bus_cycles.specs.declared.kind.Kind.TheVariants as kind

abbrev pub kind_of : Operation → Kind
kind_of Adc = kind.Read
kind_of And = kind.Read
kind_of Bit = kind.Read
kind_of Cmp = kind.Read
kind_of Cpx = kind.Read
kind_of Cpy = kind.Read
kind_of Eor = kind.Read
kind_of Lda = kind.Read
kind_of Ldx = kind.Read
kind_of Ldy = kind.Read
kind_of Ora = kind.Read
kind_of Sbc = kind.Read
kind_of Sta = kind.Store
kind_of Stx = kind.Store
kind_of Sty = kind.Store
kind_of Asl = kind.Change
kind_of Dec = kind.Change
kind_of Inc = kind.Change
kind_of Lsr = kind.Change
kind_of Rol = kind.Change
kind_of Ror = kind.Change
kind_of Bcc = kind.Branch
kind_of Bcs = kind.Branch
kind_of Beq = kind.Branch
kind_of Bmi = kind.Branch
kind_of Bne = kind.Branch
kind_of Bpl = kind.Branch
kind_of Bvc = kind.Branch
kind_of Bvs = kind.Branch
kind_of Pha = kind.Push
kind_of Php = kind.Push
kind_of Pla = kind.Pull
kind_of Plp = kind.Pull
kind_of Jmp = kind.Jmp
kind_of Jsr = kind.Jsr
kind_of Rts = kind.Rts
kind_of Rti = kind.Rti
kind_of Brk = kind.Brk
kind_of other = kind.Implied
