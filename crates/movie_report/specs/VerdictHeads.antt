-- How an object of JSON about a verdict begins. This project's own.
use Rattle.std.specs.Prelude.{ℕ, List, ◌++◌, codes}
use Rattle.std.specs.Fmt.{decimal}
use Rattle.vcs_machine.specs.Faults.{fault_text, hex2, hex4}
use Rattle.vcs_machine.specs.declared.fault.FaultKind.{FaultKind}
use Rattle.vcs_machine.specs.declared.fault.FaultKind.TheVariants.{BadOpcode, FetchOutside}
use Rattle.vcs_machine.specs.declared.fault.FaultKind.TheVariants.{Overlong}
use Rattle.replay_segments.specs.declared.verdict.Verdict.{Verdict}
use Rattle.replay_segments.specs.declared.verdict.Verdict.TheVariants.{Genuine, FalseCheckpoint}
use Rattle.replay_segments.specs.declared.verdict.Verdict.TheVariants.{Fault}

-- The kind of a fault, with the opcode and the address where there are such.
abbrev pub kind_members : FaultKind → List ℕ
kind_members (BadOpcode opcode at) =
    codes "\"bad opcode\",\"opcode\":\"" ++ (hex2 opcode ++ (codes "\",\"address\":\"" ++ (hex4 at ++ codes "\"")))
kind_members (FetchOutside at) = codes "\"fetch outside\",\"address\":\"" ++ (hex4 at ++ codes "\"")
kind_members Overlong = codes "\"overlong\""

-- A fault as members of an object: its words as in a line, and its kind.
abbrev pub fault_members : FaultKind → List ℕ
fault_members kind = codes ",\"fault\":\"" ++ (fault_text kind ++ (codes "\",\"fault_kind\":" ++ kind_members kind))

-- The members of a verdict, up to the next one or the end of the object.
abbrev pub verdict_head : Verdict → List ℕ
verdict_head (Genuine kept) = codes "{\"verdict\":\"genuine\""
verdict_head (FalseCheckpoint number frame) =
    codes "{\"verdict\":\"false checkpoint\",\"checkpoint\":" ++ (decimal number ++ (codes ",\"frame\":" ++ decimal frame))
verdict_head (Fault frame kind) = codes "{\"verdict\":\"fault\",\"frame\":" ++ (decimal frame ++ fault_members kind)
