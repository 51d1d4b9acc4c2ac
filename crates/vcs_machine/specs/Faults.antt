-- Why a frame did not end, where, and how it is shown. This project's own.
use Rattle.std.specs.Prelude.{ℕ, List, [], ◌∷◌, ◌++◌, ◌/◌, ◌%◌, codes, true}
use Rattle.std.specs.Fmt.{digit_glyph}
use Rattle.mos_cpu.specs.declared.fault.CpuFault.{CpuFault}
use Rattle.mos_cpu.specs.declared.fault.CpuFault.TheVariants.{BadOpcode as BadOpcodeOfCpu}
use Rattle.mos_cpu.specs.declared.fault.CpuFault.TheVariants.{FetchOutside as FetchOutsideOfCpu}
use Rattle.vcs_machine.specs.Frame.{Machine, Stop, Faulted, Overlong as Overlongs}
use Rattle.vcs_machine.specs.declared.fault.FaultKind.{FaultKind}
use Rattle.vcs_machine.specs.declared.fault.FaultKind.TheVariants.{BadOpcode, FetchOutside}
use Rattle.vcs_machine.specs.declared.fault.FaultKind.TheVariants.{Overlong}

-- The processor's fault as a frame's.
abbrev pub kind_of : CpuFault → FaultKind
kind_of (BadOpcodeOfCpu opcode at) = BadOpcode opcode at
kind_of (FetchOutsideOfCpu at) = FetchOutside at

-- The stop of this kind, at this machine.
abbrev pub stop_with : {B : Type 0} → FaultKind → Machine B → Stop B
stop_with (BadOpcode opcode at) m = Faulted (BadOpcodeOfCpu opcode at) m
stop_with (FetchOutside at) m = Faulted (FetchOutsideOfCpu at) m
stop_with Overlong m = Overlongs m

-- Two and four capital hexadecimal digits.
abbrev pub hex2 : ℕ → List ℕ
hex2 n = digit_glyph true (n / 16) ∷ digit_glyph true (n % 16) ∷ []

abbrev pub hex4 : ℕ → List ℕ
hex4 n = hex2 (n / 256) ++ hex2 (n % 256)

-- A fault in words.
abbrev pub fault_text : FaultKind → List ℕ
fault_text (BadOpcode opcode at) = codes "bad opcode " ++ (hex2 opcode ++ (codes " at " ++ hex4 at))
fault_text (FetchOutside at) = codes "fetch outside at " ++ hex4 at
fault_text Overlong = codes "overlong"
