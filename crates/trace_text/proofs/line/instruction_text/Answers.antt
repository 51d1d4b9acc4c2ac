use Rattle.std.proofs.Common.{◌≡◌, IfOk, codes, ◌++◌, ap, slice_index, string_bytes}
use Rattle.mos_cpu.specs.Opcodes.{row_of}
use Rattle.mos_cpu.specs.Registers.{Registers}
use Rattle.vcs_machine.specs.Faults.{hex4}
use Rattle.trace_text.specs.TraceLines.{banks_text, beam_text, code_text, registers_text}
use Rattle.trace_text.proofs.line.instruction_text.Goals as goal

pub returns : goal.returns
returns c =
    let e = c.executed.inside in
    let code = c.as_slice.result.now in
    let pc = ap (λ (r : Registers). r.pc) c.cpu.view_is in
    let told : IfOk c.format.result (λ text. string_bytes text
    ≡ beam_text e.line e.cycle ++ (codes "  " ++ (hex4 c.cpu.inside.pc ++ (codes "  "
    ++ (code_text c.cpu.inside.pc code (row_of (slice_index code 0)) ++ (codes "  "
    ++ (registers_text e.cpu ++ banks_text c.as_slice-2.result.now))))))) = c.format.ensures.ok in
    rw (← c.executed.view_is, ← pc, ← c.as_slice.ensures.value, ← c.as_slice-2.ensures.value) told
